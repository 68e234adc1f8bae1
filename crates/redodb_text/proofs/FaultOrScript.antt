-- A text is a session file, or it has a first fault, and it has no two.
use Rattle.std.proofs.Common.{◌≡◌, ℕ, ◌+◌, ◌≤◌, ◌⊎◌, List, [], ◌∷◌, ◌++◌, length, Option, Result, Ok, Err, refl, sym, ap, subst, ◌∙◌, inl, inr, arith, append-nil, append_assoc, length-append}
use Rattle.redodb_model.specs.Names.{Text}
use Rattle.redodb_model.specs.Command.{Item}
use Rattle.redodb_text.specs.declared.fault.LineFault.{LineFault}
use Rattle.redodb_text.specs.Grammar.{lines_of, AreScriptLines, IsScript}
use Rattle.redodb_text.specs.Questions.{file_line_fault}
use Rattle.redodb_text.specs.Faults.{FailsAfter, IsFirstFault}
use Rattle.redodb_text.specs.Support.Reading.{script_line_in}
use Rattle.redodb_text.proofs.Asked.{fault_in, asked_file_line}
use Rattle.redodb_text.proofs.ScriptLaws.{items_read, line_taken, scripts_agree, no_fault_in_a_script}
use Rattle.redodb_text.proofs.ScriptParts.{script_joined}
use Rattle.redodb_text.proofs.Steps.{same_found}

-- the lines are those of items
abbrev AllRead : List Text → List Text → Type 0
AllRead names lines =
    (items : List (Item Text)) × (after : List Text)
    × AreScriptLines names lines items after

-- one of the lines fails after those before it
record OneFails (names lines : List Text) : Type 0 where
  before : List Text
  line : Text
  rest : List Text
  fault : LineFault
  parts : lines ≡ before ++ line ∷ rest
  fails : FailsAfter names before line fault

-- what is left after the lines that were read
read_on : (names lines rest before : List Text) (items : List (Item Text)) (mid : List Text)
    → lines ≡ before ++ rest → AreScriptLines names before items mid
    → AllRead names lines ⊎ OneFails names lines
read_on names lines [] before items mid parts read =
    inl (
      items,
      mid,
      subst (λ (ls : List Text). AreScriptLines names ls items mid)
          (sym (parts ∙ append-nil before)) read,
    )
read_on names lines (line ∷ rest) before items mid parts read =
    by (script_line_in (length items) mid line) refl
    (λ prefix cs after e is. read_on names lines rest prefix cs after e is)
  where
    few : length mid ≤ 65536
    few = read.named.1

    by : (given : Result (Option (Item Text) × List Text) LineFault)
        → script_line_in (length items) mid line ≡ given
        → ((prefix : List Text) (cs : List (Item Text)) (after : List Text)
        → lines ≡ prefix ++ rest → AreScriptLines names prefix cs after
        → AllRead names lines ⊎ OneFails names lines)
        → AllRead names lines ⊎ OneFails names lines
    by (Err fault) is later = inr (record {
      before = before;
      line = line;
      rest = rest;
      fault = fault;
      parts = parts;
      fails = record {
        items = items;
        after = mid;
        read = read;
        fails = sym (asked_file_line (length items) mid line few) ∙ ap fault_in is;
      };
    })
    by (Ok x) is later =
        let taken = line_taken (length items) mid line x.0 x.1 read.few few is in
        let more = items_read x.0 in
        let room : length (items ++ more) ≤ 4096 =
        omega (arith, length-append items more, taken.room) in
        later (before ++ line ∷ []) (items ++ more) x.1
        (parts ∙ sym (append_assoc before (line ∷ []) rest))
        (script_joined names before (line ∷ []) items more mid x.1 read taken.script room)

pub script_or_fault : (names : List Text) (text : Text) → length names ≤ 65536
    → ((items : List (Item Text)) × (after : List Text)
    × IsScript names text items after)
    ⊎ ((number : ℕ) × (fault : LineFault) × IsFirstFault names text number fault)
script_or_fault names text few =
    elim (read_on names (lines_of text) (lines_of text) [] [] names refl start) [
      | inl all ↦ inl all
      | inr one ↦ inr (
        length one.before + 1,
        one.fault,
        record {
          before = one.before;
          line = one.line;
          rest = one.rest;
          lines = one.parts;
          counted = refl;
          fails = one.fails;
        },
      )
    ]
  where
    start : AreScriptLines names [] [] names
    start = record { short = tt; said = tt; few = omega arith; named = (refl, few) }

-- a line of a list, together with those before it, comes before another, is it, or comes after it
abbrev Stand : List Text → Text → List Text → Text → Type 0
Stand before line others other =
    ((before ≡ others) × (line ≡ other))
    ⊎ (((more : List Text) × (others ≡ before ++ line ∷ more))
    ⊎ ((more : List Text) × (before ≡ others ++ other ∷ more)))

stand_later : (first : Text) (before : List Text) (line : Text) (others : List Text) (other : Text)
    → Stand before line others other → Stand (first ∷ before) line (first ∷ others) other
stand_later first before line others other stand = elim stand [
  | inl same ↦ inl (ap (λ (l : List Text). first ∷ l) same.0, same.1)
  | inr apart ↦ elim apart [
    | inl after ↦ inr (inl (after.0, ap (λ (l : List Text). first ∷ l) after.1))
    | inr prefix ↦ inr (inr (prefix.0, ap (λ (l : List Text). first ∷ l) prefix.1))
  ]
]

two_lines : (before : List Text) (line : Text) (rest others : List Text) (other : Text)
    (left : List Text) → before ++ line ∷ rest ≡ others ++ other ∷ left
    → Stand before line others other
two_lines [] line rest [] other left e = inl (refl, cc)
two_lines [] line rest (o ∷ others) other left e =
    let head : o ≡ line = cc in
    inr (inl (others, λ i. head i ∷ others))
two_lines (b ∷ before) line rest [] other left e =
    let head : b ≡ other = cc in
    inr (inr (before, λ i. head i ∷ before))
two_lines (b ∷ before) line rest (o ∷ others) other left e =
    let head : b ≡ o = cc in
    let tail : before ++ line ∷ rest ≡ others ++ other ∷ left = cc in
    subst (λ (x : Text). Stand (b ∷ before) line (x ∷ others) other) head
    (stand_later b before line others other (two_lines before line rest others other left tail))

not_before : (names : List Text) (before : List Text) (line : Text) (others : List Text)
    (other : Text) (more : List Text) (a b : LineFault) → others ≡ before ++ line ∷ more
    → FailsAfter names before line a → FailsAfter names others other b → ⊥
not_before names before line others other more a b is one two =
    no_fault_in_a_script names before line more two.items two.after a
    (subst (λ (ls : List Text). AreScriptLines names ls two.items two.after) is two.read) one

one_fault_of : (names : List Text) (before : List Text) (line : Text) (a b : LineFault)
    → FailsAfter names before line a → FailsAfter names before line b → a ≡ b
one_fault_of names before line a b one two =
    let same =
    scripts_agree names before one.items one.after two.items two.after one.read two.read in
    same_found a b
    (sym one.fails ∙ (λ i. file_line_fault (length (same.0 i)) (same.1 i) line) ∙ two.fails)

pub one_first_fault : (names : List Text) (text : Text) (n m : ℕ) (a b : LineFault)
    → IsFirstFault names text n a → IsFirstFault names text m b → (n ≡ m) × (a ≡ b)
one_first_fault names text n m a b one two =
    elim (two_lines one.before one.line one.rest two.before two.line two.rest
    (sym one.lines ∙ two.lines)) [
      | inl same ↦ (
        one.counted ∙ ap (λ (l : List Text). length l + 1) same.0 ∙ sym two.counted,
        one_fault_of names two.before two.line a b
            (subst (λ (l : Text). FailsAfter names two.before l a) same.1
            (subst (λ (l : List Text). FailsAfter names l one.line a) same.0 one.fails)) two.fails,
      )
      | inr apart ↦ elim apart [
        | inl after ↦
            absurd (not_before names one.before one.line two.before two.line after.0 a b after.1
            one.fails two.fails)
        | inr prefix ↦
            absurd (not_before names two.before two.line one.before one.line prefix.0 b a prefix.1
            two.fails one.fails)
      ]
    ]
