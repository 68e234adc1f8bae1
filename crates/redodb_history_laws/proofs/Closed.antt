-- A line with a row is a line of the script or a closing `failed`.
use Rattle.std.proofs.Common.{◌≡◌, ◌⊎◌, ℕ, ◌<◌, ◌≤◌, Bool, true, false, cond, eqb, List, [], ◌∷◌, ◌++◌, length, map, get_or, Some, refl, sym, ap, ◌∙◌, subst, inl, inr, arith}
use Rattle.std.proofs.lemmas.Bool.{false≢true}
use Rattle.std.proofs.lemmas.List.{map_push}
use Rattle.std.specs.List.{AllByRecursion}
use mathlib.Core.Logic.{dite}
use native.Mathlib.Decide.{ℕ_discrete, dec_lt}
use Rattle.redodb_model.specs.Names.{Naming}
use Rattle.redodb_model.specs.Support.Names.{IsNaming}
use Rattle.redodb_model.specs.State.{State, empty}
use Rattle.redodb_model.specs.Command.{Command, Item, Failed, Unlock, Ood, commands_in}
use Rattle.redodb_model.specs.Reply.{Reply, Okay}
use Rattle.redodb_model.specs.Step.{Answers}
use Rattle.redodb_model.specs.History as histories
use Rattle.redodb_model.specs.History.{left_by, LegalFrom, Legal}
use Rattle.redodb_model.specs.Placed.{Place, Row, PlacedLine, line_of, part_of, is_claim, is_row, Fits, IsPlacedAfter}
use Rattle.redodb_model.specs.Closing.{builds, closing_of}
use Rattle.redodb_model.specs.Journals.{numbered, next_of, IsJournalAfter}
use Rattle.redodb_model.specs.Renaming.{IsBelow, IsLineBelow}
use Rattle.redodb_model.proofs.Letting.{closing_accepted, closing_held}
use Rattle.redodb_model.proofs.Nexts.{next_in_script, next_past_script}
use Rattle.redodb_model.proofs.OneMore.{left_by-append, legal_more}
use Rattle.redodb_model.proofs.Unique.{one_answer}
use Rattle.redodb_history_laws.proofs.ByName.{kept_map}
use Rattle.redodb_history_laws.proofs.Own.{part_of-own, part_of-other, push_own, push_other}

module _ {N : Type 0} (naming : Naming N) (plan : ℕ → List (Item N)) where
  -- the lines of each session are its journal, after its lines before
  abbrev pub GoOn : List (PlacedLine N) → List (PlacedLine N) → Type 0
  GoOn before lines =
      (s : ℕ) → IsJournalAfter naming s (plan s) (part_of s before) (part_of s lines)

  journal_here : (before : List (PlacedLine N)) (line : PlacedLine N) (lines : List (PlacedLine N))
      (s : ℕ)
      → line.session ≡ s → GoOn before (line ∷ lines)
      → IsJournalAfter naming s (plan s) (part_of s before) (line ∷ part_of s lines)
  journal_here before line lines s e on =
      subst (IsJournalAfter naming s (plan s) (part_of s before))
      (part_of-own s line lines e) (on s)

  go_on : (before : List (PlacedLine N)) (line : PlacedLine N) (lines : List (PlacedLine N))
      → GoOn before (line ∷ lines) → GoOn (before ++ line ∷ []) lines
  go_on before line lines on s = dite (ℕ_discrete line.session s)
      (λ q. subst (λ own. IsJournalAfter naming s (plan s) own (part_of s lines))
      (sym (push_own s before line q)) (journal_here before line lines s q on).2)
      (λ n. subst (λ own. IsJournalAfter naming s (plan s) own (part_of s lines))
      (sym (push_other s before line n))
      (subst (IsJournalAfter naming s (plan s) (part_of s before))
      (part_of-other s line lines n) (on s)))

  next_here : (before : List (PlacedLine N)) (line : PlacedLine N) (lines : List (PlacedLine N))
      → GoOn before (line ∷ lines)
      → next_of naming (plan line.session) (part_of line.session before) ≡ Some (numbered line)
  next_here before line lines on = (journal_here before line lines line.session refl on).1

-- the part of a session, without its places
pub part_lines : {N : Type 0} (s : ℕ) (lines : List (PlacedLine N))
    → histories.part_of s (map line_of lines) ≡ map line_of (part_of s lines)
part_lines s [] = refl
part_lines s (line ∷ lines) =
    kept_map line_of (eqb line.session s) line (part_of s lines)
    (histories.part_of s (map line_of lines)) (part_lines s lines)

-- a line with a row: a line of the script, or a `failed` after it
pub record IsScripted {N : Type 0} (plan : ℕ → List (Item N)) (line : PlacedLine N) : Type 0 where
  pub within : line.number < length (plan line.session)
  pub command : get_or (commands_in (plan line.session)) line.number Ood ≡ line.command

pub record IsFailing (plan : ℕ → List (Item ℕ)) (line : PlacedLine ℕ) : Type 0 where
  pub past : length (plan line.session) ≤ line.number
  pub target : ℕ
  pub command : line.command ≡ Failed target
  pub below : target < 65536

abbrev pub RowTells : (ℕ → List (Item ℕ)) → PlacedLine ℕ → Type 0
RowTells plan line = IsScripted plan line ⊎ IsFailing plan line

-- a closing command of a target fails its build, or unlocks it
letting_cases : (b : Bool) (t : ℕ) (command : Command ℕ) → command ≡ cond b (Failed t) (Unlock t)
    → (command ≡ Failed t) ⊎ (command ≡ Unlock t)
letting_cases true t command e = inl e
letting_cases false t command e = inr e

module _ {naming : Naming ℕ} (law : IsNaming naming) (plan : ℕ → List (Item ℕ)) where
  -- a closing line is answered `ok`
  closing_told : (before : List (PlacedLine ℕ)) (line : PlacedLine ℕ)
      → Legal naming (map line_of before)
      → Answers naming (left_by naming empty (map line_of before)) line.session line.command
      line.reply
      → closing_of naming (map line_of (part_of line.session before)) ≡ Some line.command
      → line.reply ≡ Okay
  closing_told before line legal answers closes =
      let there : closing_of naming (histories.part_of line.session (map line_of before))
      ≡ Some line.command =
      ap (closing_of naming) (part_lines line.session before) ∙ closes in
      one_answer law (left_by naming empty (map line_of before)) line.session line.command
      line.reply Okay answers
      (closing_accepted law (map line_of before) line.session line.command legal there)

  failing : (before : List (PlacedLine ℕ)) (line : PlacedLine ℕ)
      → closing_of naming (map line_of (part_of line.session before)) ≡ Some line.command
      → line.reply ≡ Okay → is_claim line.command line.reply ≡ false → IsBelow 65536 line.command
      → length (plan line.session) ≤ line.number → IsFailing plan line
  failing before line closes okay row below past =
      let own = map line_of (part_of line.session before) in
      let (t, held, is) = closing_held naming own line.command closes in
      elim (letting_cases (builds naming own t) t line.command is) [
        | inl failed ↦ record {
          past = past;
          target = t;
          command = failed;
          below = (subst (IsBelow 65536) failed below).0;
        }
        | inr unlock ↦ absurd (false≢true (sym row ∙ (λ i. is_claim (unlock i) (okay i))))
      ]

  -- a line with a row is one of these, and a closing line is answered `ok`
  pub record LineTells (line : PlacedLine ℕ) : Type 0 where
    pub row : is_row line.place ≡ true → RowTells plan line
    pub okay : length (plan line.session) ≤ line.number → line.reply ≡ Okay

  told_at : (before lines : List (PlacedLine ℕ)) (line : PlacedLine ℕ)
      → Legal naming (map line_of before)
      → Answers naming (left_by naming empty (map line_of before)) line.session line.command
      line.reply
      → GoOn naming plan before (line ∷ lines) → IsBelow 65536 line.command
      → (is_row line.place ≡ true → is_claim line.command line.reply ≡ false) → LineTells line
  told_at before lines line legal answers on below row =
      let own = part_of line.session before in
      let next = next_here naming plan before line lines on in
      let closes : length (plan line.session) ≤ line.number
      → closing_of naming (map line_of own) ≡ Some line.command =
      λ past. (next_past_script naming (plan line.session) own (numbered line) next past).closes in
      dite (dec_lt line.number (length (plan line.session)))
      (λ less. record {
        row = λ _. inl (record {
          within = less;
          command = next_in_script naming (plan line.session) own (numbered line) next less;
        });
        okay = λ past. absurd (omega arith);
      })
      (λ not.
      let past : length (plan line.session) ≤ line.number = omega arith in
      let okay = closing_told before line legal answers (closes past) in
      record {
        row = λ r. inr (failing before line (closes past) okay (row r) below past);
        okay = λ _. okay;
      })

  -- each line is one of these
  abbrev pub AllTell : List (PlacedLine ℕ) → Type 0
  AllTell lines = AllByRecursion LineTells lines

  by_place : (place : Place ℕ) (command : Command ℕ) (reply : Reply ℕ) → Fits place command reply
      → is_row place ≡ true → is_claim command reply ≡ false
  by_place (Row r) command reply fits row = fits
  by_place place command reply fits row = absurd (false≢true row)

  pub all_tell : (before lines : List (PlacedLine ℕ)) → Legal naming (map line_of before)
      → LegalFrom naming (left_by naming empty (map line_of before)) (map line_of lines)
      → IsPlacedAfter naming before lines → GoOn naming plan before lines
      → AllByRecursion (IsLineBelow 65536) (map line_of lines) → AllTell lines
  all_tell before [] legal rest placed on below = tt
  all_tell before (line ∷ lines) legal rest placed on below = (
    told_at before lines line legal rest.0 on below.0.0
        (by_place line.place line.command line.reply placed.0),
    all_tell (before ++ line ∷ []) lines
        (subst (Legal naming) (sym (map_push line_of before line))
        (legal_more naming empty (map line_of before) (line_of line) legal rest.0))
        (subst (λ (st : State ℕ). LegalFrom naming st (map line_of lines))
        (sym (ap (left_by naming empty) (map_push line_of before line)
        ∙ left_by-append naming empty (map line_of before) (line_of line ∷ []))) rest.1)
        placed.2 (go_on naming plan before line lines on) below.1,
  )
