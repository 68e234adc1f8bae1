-- The words of a cell, one by one.
use Rattle.std.proofs.Common.{◌≡◌, ℕ, ◌<◌, Bool, true, false, List, [], ◌∷◌, length, drop, Option, Some, None, refl, sym, ap, ◌∙◌, subst, arith, if◌then◌else◌, append-nil, length-append}
use Rattle.std.specs.Prelude.{decimal}
use Rattle.std.specs.List.{flat_map}
use Rattle.redodb_model.specs.Names.{Text}
use Rattle.redodb_model.specs.State.{Cell, TargetState, Idle}
use Rattle.redodb_text.specs.Texts.{after_space, digest_word}
use Rattle.redodb_history.specs.HistoryFaults.{IsCutAtSpace}
use Rattle.redodb_live.specs.Answers.{holder_word, stage_word}
use Rattle.redodb_dump.specs.Dumps.{build_words, done_word, is_plain}
use Rattle.redodb_dump.specs.Support.Forms.{IsToldCell}
use Rattle.redodb_dump.specs.Support.Read.{joined}
use Rattle.redodb_dump.proofs.DumpCells.{build_are_words}
use Rattle.redodb_dump.proofs.ReadWords.{cut_word}

-- nothing follows if none is some
pub is_none : {X : Type 0} {x : X} {P : Type 0} → None ≡ Some x → P
is_none e = absurd cc

-- these are the words of what is known but the file
pub record AreBuildWords (cell : Cell) (count : ℕ) (owner : Option ℕ)
    (stage number stamp digits times session : Text) : Type 0 where
  pub state : stage ≡ stage_word cell.state
  pub builds : number ≡ decimal cell.builds
  pub done : stamp ≡ done_word cell.file cell.done
  pub digest : digits ≡ digest_word cell.digest
  pub grants : times ≡ decimal count
  pub holder : session ≡ holder_word owner

pub build_cut : (cell : Cell) (grants : ℕ) (holder : Option ℕ) → IsToldCell cell grants holder
    → (text : Text) → text ≡ joined (build_words cell grants holder)
    → (a b c d e f g h k l : Text) → IsCutAtSpace text a b → IsCutAtSpace b c d
    → IsCutAtSpace d e f → IsCutAtSpace f g h → IsCutAtSpace h k l
    → AreBuildWords cell grants holder a c e g k l
build_cut cell grants holder is text whole a b c d e f g h k l first second third fourth fifth =
    let words = build_are_words cell grants holder is in
    let last : List Text = holder_word holder ∷ [] in
    let counted : List Text = decimal grants ∷ last in
    let digits : List Text = digest_word cell.digest ∷ counted in
    let stamped : List Text = done_word cell.file cell.done ∷ digits in
    let one =
    cut_word (stage_word cell.state) (decimal cell.builds ∷ stamped) text a b words.0 whole first in
    let two = cut_word (decimal cell.builds) stamped b c d words.1.0 one.1 second in
    let three = cut_word (done_word cell.file cell.done) digits d e f words.1.1.0 two.1 third in
    let four = cut_word (digest_word cell.digest) counted f g h words.1.1.1.0 three.1 fourth in
    let five = cut_word (decimal grants) last h k l words.1.1.1.1.0 four.1 fifth in
    record {
      state = one.0;
      builds = two.0;
      done = three.0;
      digest = four.0;
      grants = five.0;
      holder = five.1 ∙ append-nil (holder_word holder);
    }

module _ (cell : Cell) (grants : ℕ) (holder : Option ℕ) where
  -- the words after the file
  abbrev pub after_file : Bool → List Text
  after_file plain = if plain then [] else build_words cell grants holder

  some_words : 0 < length (joined (build_words cell grants holder))
  some_words =
      let rest = flat_map after_space (drop 1 (build_words cell grants holder)) in
      omega (arith, some_stage cell.state, length-append (stage_word cell.state) rest)
    where
      some_stage : (state : TargetState) → 0 < length (stage_word state)
      some_stage Idle = omega arith
      some_stage state = omega arith

  pub plain_without : (rest : Text) → rest ≡ joined (after_file (is_plain cell grants holder))
      → length rest ≡ 0 → is_plain cell grants holder ≡ true
  plain_without rest is none =
      by (is_plain cell grants holder) (sym (ap length is) ∙ none)
    where
      by : (b : Bool) → length (joined (after_file b)) ≡ 0 → b ≡ true
      by true none = refl
      by false none = let some = some_words in absurd (omega arith)

  pub built_with : (rest : Text) → rest ≡ joined (after_file (is_plain cell grants holder))
      → 0 < length rest → rest ≡ joined (build_words cell grants holder)
  built_with rest is some =
      is ∙ by (is_plain cell grants holder) (subst (λ (t : Text). 0 < length t) is some)
    where
      by : (b : Bool) → 0 < length (joined (after_file b))
          → joined (after_file b) ≡ joined (build_words cell grants holder)
      by true some = absurd (omega arith)
      by false some = refl
