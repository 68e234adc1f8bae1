-- The parts of all sessions: with no line printed, and with one more.
use Rattle.std.proofs.Common.{◌≡◌, ◌≢◌, ℕ, ◌+◌, ◌<◌, ◌≤◌, Bool, true, cond, List, [], ◌∷◌, refl, sym, ap, subst, ◌∙◌, get_or, set, length, arith, length-set, get_or-set_same, get_or-set_other, eq-eqb, ne_eqb}
use Rattle.std.specs.List.{All}
use mathlib.Core.Logic.{dite}
use native.Mathlib.Decide.{ℕ_discrete}
use Rattle.redodb_model.specs.Names.{Text}
use Rattle.redodb_model.specs.Command.{Item}
use Rattle.redodb_model.specs.History.{Line, part_of}
use Rattle.redodb_run.specs.RunTexts.{session_lines_of}
use Rattle.redodb_run.specs.Support.Printed.{IsBlank, IsPrinted, ArePrinted}
use Rattle.redodb_run.specs.declared.part.Part.{Part}
use Rattle.redodb_run.proofs.PartTexts.{blank_printed}

-- no line of any session is printed
pub blank_printed_all : (scripts : List (List (Item Text))) (lines : List (Line Text))
    (parts : List Part) → length parts ≡ length scripts → All IsBlank parts
    → ArePrinted scripts lines lines parts
blank_printed_all scripts lines parts count blank = record {
  count = count;
  each = λ s part less is. blank_printed (get_or scripts s [])
      (session_lines_of true (get_or scripts s []) (part_of s lines)) part (part_of s lines)
      (subst IsBlank (sym is) (blank s part less)) refl;
  few = λ s part less is.
      omega (arith, (blank s part less).closing, ap (λ (p : Part). p.closing) is);
}

module _ (scripts : List (List (Item Text))) (lines : List (Line Text)) (line : Line Text)
    (later : List (Line Text)) (parts : List Part)
    (are : ArePrinted scripts lines (line ∷ later) parts) where
  of_another : (s : ℕ) → line.session ≢ s → part_of s (line ∷ later) ≡ part_of s later
  of_another s other = ap (λ (b : Bool). cond b (line ∷ part_of s later) (part_of s later))
      (ne_eqb line.session s other)

  of_own : (s : ℕ) → line.session ≡ s → part_of s (line ∷ later) ≡ line ∷ part_of s later
  of_own s own = ap (λ (b : Bool). cond b (line ∷ part_of s later) (part_of s later))
      (eq-eqb line.session s own)

  -- the part of another session stays
  stays : (s : ℕ) (part : Part) → s < length parts → part ≡ get_or parts s part → line.session ≢ s
      → IsPrinted (get_or scripts s [])
      (session_lines_of true (get_or scripts s []) (part_of s lines)) part (part_of s later)
  stays s part less is other =
      subst (IsPrinted (get_or scripts s [])
      (session_lines_of true (get_or scripts s []) (part_of s lines)) part)
      (of_another s other) (are.each s part less is)

  -- the line's session has no part
  pub none_printed : length parts ≤ line.session → ArePrinted scripts lines later parts
  none_printed past = record {
    count = are.count;
    each = λ s part less is. stays s part less is (λ own. omega arith);
    few = λ s part less is.
        let few = are.few s part less is in
        omega arith;
  }

  module _ (own : line.session < length parts) (old new : Part)
      (found : old ≡ get_or parts line.session old)
      (prints : (all : List Text) (after : List (Line Text))
      → IsPrinted (get_or scripts line.session []) all old (line ∷ after)
      → IsPrinted (get_or scripts line.session []) all new after)
      (few : new.closing ≤ old.closing + 1) where
    abbrev all : List Text
    all =
        session_lines_of true (get_or scripts line.session []) (part_of line.session lines)

    own_part : IsPrinted (get_or scripts line.session []) all new (part_of line.session later)
    own_part =
        prints all (part_of line.session later)
        (subst (IsPrinted (get_or scripts line.session []) all old) (of_own line.session refl)
        (are.each line.session old own found))

    -- the line is printed in the part of its session
    pub own_printed : ArePrinted scripts lines later (set parts line.session new)
    own_printed =
        let long = length-set parts line.session new in record {
          count = long ∙ are.count;
          each = λ s part less is. dite (ℕ_discrete s line.session)
              (λ same.
              let here : part ≡ new =
              is ∙ ap (λ (k : ℕ). get_or (set parts line.session new) k part) same
              ∙ get_or-set_same parts line.session new part own in
              subst (λ (p : Part). IsPrinted (get_or scripts s [])
              (session_lines_of true (get_or scripts s []) (part_of s lines)) p (part_of s later))
              (sym here)
              (subst (λ (k : ℕ). IsPrinted (get_or scripts k [])
              (session_lines_of true (get_or scripts k []) (part_of k lines)) new (part_of k later))
              (sym same) own_part))
              (λ other. stays s part (omega arith)
              (is ∙ get_or-set_other parts line.session s new part other)
              (λ same. other (sym same)));
          few = λ s part less is. dite (ℕ_discrete s line.session)
              (λ same.
              let here : part ≡ new =
              is ∙ ap (λ (k : ℕ). get_or (set parts line.session new) k part) same
              ∙ get_or-set_same parts line.session new part own in
              omega (arith, ap (λ (p : Part). p.closing) here, are.few line.session old own found))
              (λ other.
              let before = are.few s part (omega arith)
              (is ∙ get_or-set_other parts line.session s new part other) in
              omega arith);
        }
