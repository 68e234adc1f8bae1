-- Which names may have a file: those of the commands so far.
use Rattle.std.proofs.Common.{◌≡◌, ℕ, ◌+◌, Bool, true, false, cond, List, Option, Some, None, is_some, refl, subst}
use Rattle.std.specs.Prelude.{IsTrue, bytes_eq}
use Rattle.std.proofs.lemmas.Slice.Eq.{bytes_eq-Decides}
use Rattle.sha1.specs.Sha1.{sha1}
use Rattle.redodb_model.specs.Names.{Text, texts, put}
use Rattle.redodb_model.specs.State.{State, Records, Cell, Building, Built, empty}
use Rattle.redodb_model.specs.State as states
use Rattle.redodb_model.specs.Command.{Command, File, Gone, Start, Stamp, Done, Failed, names_in}
use Rattle.redodb_model.specs.Reply.{Refusal}
use Rattle.redodb_model.specs.OutOfDate.{HasFile}
use Rattle.redodb_model.specs.Step.{effect_of, unless_refused, verdict_of, holds_target, after}
use Rattle.redodb_history.proofs.KnownNames.{IsKnown, AreKnown}

-- each name that has a file is one of these
abbrev pub AreFilesKnown : List Text → Records Text → Type 0
AreFilesKnown names r = (n : Text) → HasFile r n → IsKnown names n

module _ (names : List Text) (r : Records Text) (known : AreFilesKnown names r) where
  put_or_not : (t n : Text) (c : Cell) (b : Bool) → bytes_eq t n ≡ b → IsKnown names t
      → IsTrue (is_some (cond b c (r.cell n)).file) → IsKnown names n
  put_or_not t n c true e here h = subst (IsKnown names) ((bytes_eq-Decides t n).0 e) here
  put_or_not t n c false e here h = known n h

  put_known : (t : Text) (c : Cell) → IsKnown names t → (n : Text)
      → IsTrue (is_some (put texts t c r.cell n).file) → IsKnown names n
  put_known t c here n h = put_or_not t n c (bytes_eq t n) refl here h

  effect_known : (s : ℕ) (command : Command Text) → AreKnown names (names_in command)
      → AreFilesKnown names (effect_of texts r s command)
  effect_known s (File n stamp) are = put_known n (record (r.cell n) { file = Some stamp }) are.0
  effect_known s (Gone n) are = put_known n (record (r.cell n) { file = None }) are.0
  effect_known s (Start t) are =
      put_known t (record (r.cell t) { state = Building s; digest = None }) are.0
  effect_known s (Stamp t content) are =
      put_known t (record (r.cell t) { digest = Some (sha1 content) }) are.0
  effect_known s (Done t stamp) are =
      put_known t (record (r.cell t) {
        state = Built;
        builds = (r.cell t).builds + 1;
        file =
            stamp;
        done = stamp;
      }) are.0
  effect_known s (Failed t) are = put_known t (record (r.cell t) { state = states.Failed }) are.0
  effect_known s command are = known

  unless_known : (verdict : Option (Refusal Text)) (new : Records Text) → AreFilesKnown names new
      → AreFilesKnown names (unless_refused verdict r new)
  unless_known None new h = h
  unless_known (Some refusal) new h = known

-- one command more, whose names are known
pub files_known_after : (names : List Text) (st : State Text) (s : ℕ) (command : Command Text)
    → AreFilesKnown names st.records → AreKnown names (names_in command)
    → AreFilesKnown names (after texts st s command).records
files_known_after names st s command known are =
    unless_known names st.records known
    (verdict_of texts st.records s (holds_target st.locks s command) command)
    (effect_of texts st.records s command) (effect_known names st.records known s command are)

pub files_known_at_first : (names : List Text) → AreFilesKnown names (empty {N = Text}).records
files_known_at_first names n h = cc
