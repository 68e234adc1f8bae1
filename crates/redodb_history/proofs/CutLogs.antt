-- A log is the texts of lines, one after another. Cutting any beginning of it finds its whole lines
-- again, and no others.
use Rattle.std.proofs.Common.{◌≡◌, ℕ, ◌≤◌, List, [], ◌∷◌, ◌++◌, length, refl, sym, ap, ◌∙◌, subst, arith, append_assoc, length-append, inl, inr}
use Rattle.std.specs.Prelude.{◌⊎◌, Contains}
use Rattle.std.specs.List.{AllByRecursion, flat_map}
use Rattle.std.proofs.lemmas.Bool.{cases_eq}
use Rattle.std.proofs.lemmas.List.{nil_from_length}
use Rattle.redodb_model.specs.Names.{Text}
use Rattle.redodb_model.specs.History.{Line}
use Rattle.redodb_history.specs.Histories.{line_text_of}
use Rattle.redodb_history.specs.Support.HistoryTexts.{HasLineForm}
use Rattle.redodb_history.proofs.CutOnce.{Without, first_cut, contains_none}
use Rattle.redodb_history.proofs.HistoryLines.{IsLineText, line_is_one, one_end, one_line}
use Rattle.redodb_history.proofs.HistoryReadsBack.{own_text_of, own_text_is}
use Rattle.redodb_history.proofs.TextCuts.{has_lf}

abbrev log_of : List (Line Text) → Text
log_of lines = flat_map line_text_of lines

-- the text is without the byte, or is cut at the first one
abbrev IsFreeOrCut : ℕ → Text → Type 0
IsFreeOrCut b text =
    Without b text
    ⊎ ((prefix : Text) × (rest : Text) × Without b prefix × (text ≡ prefix ++ b ∷ rest))

free_or_cut : (b : ℕ) (text : Text) → IsFreeOrCut b text
free_or_cut b [] = inl tt
free_or_cut b (c ∷ text) = by (cases_eq c b) (free_or_cut b text)
  where
    by : (c ≡ b) ⊎ (c ≡ b → ⊥) → IsFreeOrCut b text → IsFreeOrCut b (c ∷ text)
    by (inl same) rest = inr ([], text, tt, ap (λ (d : ℕ). d ∷ text) same)
    by (inr other) (inl free) = inl (other, free)
    by (inr other) (inr (prefix, rest, free, parts)) =
        inr (c ∷ prefix, rest, (other, free), ap (λ (t : Text). c ∷ t) parts)

-- a line's text has no line feed but its last byte
text_is_one : (most : ℕ) (line : Line Text) → most ≤ 65535 → HasLineForm most line
    → Without 10 (own_text_of line)
text_is_one most line small form =
    line_is_one (own_text_of line) line (own_text_is most line small form)

-- the cut is a prefix of the lines, and then a rest without a line feed
abbrev IsCutLog : List (Line Text) → Text → Type 0
IsCutLog lines cut =
    (prefix : List (Line Text)) × (back : List (Line Text)) × (torn : Text)
    × (lines ≡ prefix ++ back) × (cut ≡ log_of prefix ++ torn) × ¬ (Contains torn 10)

-- one line more at the beginning
cut_line : (most : ℕ) (line : Line Text) (lines : List (Line Text)) (cut rest : Text)
    → most ≤ 65535 → HasLineForm most line
    → ((more : Text) → log_of lines ≡ more ++ rest → IsCutLog lines more)
    → log_of (line ∷ lines) ≡ cut ++ rest → IsFreeOrCut 10 cut → IsCutLog (line ∷ lines) cut
cut_line most line lines cut rest small form others e (inl free) =
    ([], line ∷ lines, cut, refl, refl, contains_none 10 cut free)
cut_line most line lines cut rest small form others e (inr (first, more, free, parts)) =
    let own = own_text_of line in
    let both = first_cut 10 own first (log_of lines) (more ++ rest)
    (text_is_one most line small form) free
    (sym (append_assoc own (10 ∷ []) (log_of lines)) ∙ e ∙ ap (λ (t : Text). t ++ rest) parts
    ∙ append_assoc first (10 ∷ more) rest) in
    let (prefix, back, torn, whole, found, none) = others more both.1 in
    let ends : own ++ 10 ∷ (log_of prefix ++ torn) ≡ log_of (line ∷ prefix) ++ torn =
    sym (append_assoc (line_text_of line) (log_of prefix) torn
    ∙ append_assoc own (10 ∷ []) (log_of prefix ++ torn)) in (
      line ∷ prefix,
      back,
      torn,
      ap (λ (ls : List (Line Text)). line ∷ ls) whole,
      parts ∙ (λ i. sym both.0 i ++ 10 ∷ found i) ∙ ends,
      none,
    )

pub cut_lines : (most : ℕ) (lines : List (Line Text)) (cut rest : Text) → most ≤ 65535
    → AllByRecursion (HasLineForm most) lines → log_of lines ≡ cut ++ rest → IsCutLog lines cut
cut_lines most [] cut rest small forms e =
    let none : cut ≡ [] =
    nil_from_length cut (omega (arith, ap length e, length-append cut rest)) in
    ([], [], [], refl, none, contains_none 10 [] tt)
cut_lines most (line ∷ lines) cut rest small forms e =
    cut_line most line lines cut rest small forms.0
    (λ more own. cut_lines most lines more rest small forms.1 own) e (free_or_cut 10 cut)

-- a rest without a line feed has no line
no_line : (line : Line Text) (lines : List (Line Text)) (torn rest : Text) → ¬ (Contains torn 10)
    → torn ≡ log_of (line ∷ lines) ++ rest → ⊥
no_line line lines torn rest free e =
    let own = own_text_of line in
    let parts : torn ≡ own ++ 10 ∷ (log_of lines ++ rest) =
    e ∙ append_assoc (line_text_of line) (log_of lines) rest
    ∙ append_assoc own (10 ∷ []) (log_of lines ++ rest) in
    free (subst (λ (t : Text). Contains t 10) (sym parts) (has_lf own (log_of lines ++ rest) 10))

pub one_cut : (most : ℕ) (a b : List (Line Text)) (r s : Text) → most ≤ 65535
    → AllByRecursion (HasLineForm most) a → AllByRecursion (HasLineForm most) b
    → ¬ (Contains r 10) → ¬ (Contains s 10)
    → log_of a ++ r ≡ log_of b ++ s → (a ≡ b) × (r ≡ s)
one_cut most [] [] r s small p q free other e = (refl, e)
one_cut most [] (line ∷ b) r s small p q free other e = absurd (no_line line b r s free e)
one_cut most (line ∷ a) [] r s small p q free other e = absurd (no_line line a s r other (sym e))
one_cut most (line ∷ a) (next ∷ b) r s small p q free other e =
    let end = one_end (own_text_of line) (own_text_of next) (log_of a ++ r) (log_of b ++ s)
    (text_is_one most line small p.0) (text_is_one most next small q.0)
    (sym (append_assoc (line_text_of line) (log_of a) r) ∙ e
    ∙ append_assoc (line_text_of next) (log_of b) s) in
    let same : line ≡ next = one_line (own_text_of line) line next
    (own_text_is most line small p.0)
    (subst (λ (t : Text). IsLineText t next) (sym end.0) (own_text_is most next small q.0)) in
    let others = one_cut most a b r s small p.1 q.1 free other end.1 in
    (λ i. same i ∷ others.0 i, others.1)
