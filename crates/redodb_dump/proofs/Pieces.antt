-- Lists of texts that are joined: which pieces they have, and how long they are.
use Rattle.std.proofs.Common.{◌≡◌, ◌≢◌, ◌⊎◌, ℕ, zero, suc, ◌+◌, ◌*◌, ◌<◌, ◌≤◌, ◌^◌, Bool, true, false, cond, List, [], ◌∷◌, ◌++◌, length, filter, refl, sym, ap, ◌∙◌, arith, inl, inr, append_assoc, append-nil, length-append}
use Rattle.std.specs.Prelude.{decimal, bytes_eq}
use Rattle.std.specs.List.{AllByRecursion, flat_map, range_with_len}
use Rattle.std.proofs.lemmas.Bool.{cases_eq}
use Rattle.std.proofs.lemmas.List.Elements.{filter-append}
use Rattle.std.proofs.lemmas.Slice.Eq.{bytes_eq-Decides}
use Rattle.redodb_model.specs.Names.{Text}
use Rattle.redodb_text.specs.Texts.{after_space, spaced}
use Rattle.redodb_history.specs.Histories.{ended}
use Rattle.redodb_history.proofs.CutOnce.{Without, without_append, first_cut}
use Rattle.redodb_history.proofs.FreeWords.{without_unseen}
use Rattle.redodb_live.proofs.Lines.{all_both}
use Rattle.redodb_dump.proofs.DumpWords.{IsWord, same_number}

-- of all pieces

pub all_then : {X : Type 0} (P Q : X → Type 0) (xs : List X) → ((x : X) → P x → Q x)
    → AllByRecursion P xs → AllByRecursion Q xs
all_then P Q [] then all = tt
all_then P Q (x ∷ xs) then all = (then x all.0, all_then P Q xs then all.1)

pub all_flat : {X : Type 0} (P : X → Type 0) (f : ℕ → List X) (most from count : ℕ)
    → ((k : ℕ) → k < most → AllByRecursion P (f k)) → from + count ≤ most
    → AllByRecursion P (flat_map f (range_with_len from count))
all_flat P f most from zero all fits = tt
all_flat P f most from (suc count) all fits =
    all_both P (f from) (flat_map f (range_with_len (from + 1) count)) (all from (omega arith))
    (all_flat P f most (from + 1) count all (omega arith))

pub few_pieces : {X : Type 0} (f : ℕ → List X) (from count : ℕ) → ((k : ℕ) → length (f k) ≤ 1)
    → length (flat_map f (range_with_len from count)) ≤ count
few_pieces f from zero one = omega arith
few_pieces f from (suc count) one =
    let rest = flat_map f (range_with_len (from + 1) count) in
    omega (arith, length-append (f from) rest, one from, few_pieces f (from + 1) count one)

-- pieces that have numbers: those of one number are found among all

module _ (key : Text → Text) where
  abbrev pub AreOf : ℕ → List Text → Type 0
  AreOf number pieces = AllByRecursion (λ x. key x ≡ decimal number) pieces

  abbrev found : ℕ → List Text → List Text
  found number pieces = filter (λ x. bytes_eq (key x) (decimal number)) pieces

  own_found : (number : ℕ) (xs : List Text) → AreOf number xs → found number xs ≡ xs
  own_found number [] all = refl
  own_found number (x ∷ xs) all =
      ap (λ b. cond b (x ∷ found number xs) (found number xs))
      ((bytes_eq-Decides (key x) (decimal number)).1 all.0)
      ∙ ap (λ ys. x ∷ ys) (own_found number xs all.1)

  is_other : (number other : ℕ) (x : Text) → number < 10 ^ 64 → other < 10 ^ 64 → number ≢ other
      → key x ≡ decimal other → bytes_eq (key x) (decimal number) ≡ false
  is_other number other x small small' apart is = by (bytes_eq (key x) (decimal number)) refl
    where
      by : (b : Bool) → bytes_eq (key x) (decimal number) ≡ b → b ≡ false
      by true e =
          absurd (apart (same_number number other small small'
          (sym ((bytes_eq-Decides (key x) (decimal number)).0 e) ∙ is)))
      by false e = refl

  others_not_found : (number other : ℕ) (xs : List Text) → number < 10 ^ 64 → other < 10 ^ 64
      → number ≢ other → AreOf other xs → found number xs ≡ []
  others_not_found number other [] small small' apart all = refl
  others_not_found number other (x ∷ xs) small small' apart all =
      ap (λ b. cond b (x ∷ found number xs) (found number xs))
      (is_other number other x small small' apart all.0)
      ∙ others_not_found number other xs small small' apart all.1

  module _ (f : ℕ → List Text) (most : ℕ) (small : most ≤ 2 ^ 32)
      (are : (k : ℕ) → k < most → AreOf k (f k))
    where
      abbrev among : ℕ → ℕ → List Text
      among from count = flat_map f (range_with_len from count)

      later_not_found : (number from count : ℕ) → number < from → from + count ≤ most
          → found number (among from count) ≡ []
      later_not_found number from zero less fits = refl
      later_not_found number from (suc count) less fits =
          filter-append (λ x. bytes_eq (key x) (decimal number)) (f from) (among (from + 1) count)
          ∙ (λ i. others_not_found number from (f from) (omega arith) (omega arith)
          (λ e. omega arith) (are from (omega arith)) i
          ++ later_not_found number (from + 1) count (omega arith) (omega arith) i)

      found_at : (number from count : ℕ) → from ≤ number → number < from + count
          → from + count ≤ most → found number (among from count) ≡ f number
      found_at number from zero least below fits = absurd (omega arith)
      found_at number from (suc count) least below fits =
          filter-append (λ x. bytes_eq (key x) (decimal number)) (f from) (among (from + 1) count)
          ∙ by (cases_eq number from)
          (λ other. found_at number (from + 1) count (omega arith) (omega arith) (omega arith))
        where
          by : (number ≡ from) ⊎ (number ≡ from → ⊥)
              → ((number ≡ from → ⊥) → found number (among (from + 1) count) ≡ f number)
              → found number (f from) ++ found number (among (from + 1) count) ≡ f number
          by (inl same) later =
              (λ i. found number (f (sym same i))
              ++ later_not_found number (from + 1) count (omega arith) (omega arith) i)
              ∙ append-nil (found number (f number))
              ∙ own_found number (f number) (are number (omega arith))
          by (inr other) later =
              λ i. others_not_found number from (f from) (omega arith) (omega arith) other
              (are from (omega arith)) i
              ++ later other i

  pub same_pieces : (f g : ℕ → List Text) (count : ℕ) → count ≤ 2 ^ 32
      → ((k : ℕ) → k < count → AreOf k (f k)) → ((k : ℕ) → k < count → AreOf k (g k))
      → flat_map f (range_with_len 0 count) ≡ flat_map g (range_with_len 0 count)
      → (k : ℕ) → k < count → f k ≡ g k
  same_pieces f g count small one other e k below =
      sym (found_at f count small one k 0 count (omega arith) (omega arith) (omega arith))
      ∙ ap (found k) e
      ∙ found_at g count small other k 0 count (omega arith) (omega arith) (omega arith)

-- lines

words_are_free : (ws : List Text) → AllByRecursion IsWord ws → Without 10 (flat_map after_space ws)
words_are_free [] all = tt
words_are_free (w ∷ ws) all = (
  λ e. omega arith,
  without_append 10 w (flat_map after_space ws) (without_unseen 10 refl w all.0.0)
      (words_are_free ws all.1),
)

pub line_is_free : (w : Text) (ws : List Text) → IsWord w → AllByRecursion IsWord ws
    → Without 10 (spaced w ws)
line_is_free w ws is all =
    without_append 10 w (flat_map after_space ws) (without_unseen 10 refl w is.0)
    (words_are_free ws all)

pub ended_then : (line rest : Text) → ended line ++ rest ≡ line ++ 10 ∷ rest
ended_then line rest = append_assoc line (10 ∷ []) rest

-- the lines of a text are one by one its pieces
pub same_lines : (xs ys : List Text) → AllByRecursion (Without 10) xs
    → AllByRecursion (Without 10) ys
    → flat_map ended xs ≡ flat_map ended ys → xs ≡ ys
same_lines [] [] p q e = refl
same_lines [] (b ∷ ys) p q e =
    absurd (omega (
      arith,
      ap length e,
      length-append (ended b) (flat_map ended ys),
      length-append b (10 ∷ []),
    ))
same_lines (a ∷ xs) [] p q e =
    absurd (omega (
      arith,
      ap length e,
      length-append (ended a) (flat_map ended xs),
      length-append a (10 ∷ []),
    ))
same_lines (a ∷ xs) (b ∷ ys) p q e =
    let cut = first_cut 10 a b (flat_map ended xs) (flat_map ended ys) p.0 q.0
    (sym (ended_then a (flat_map ended xs)) ∙ e ∙ ended_then b (flat_map ended ys)) in
    let others = same_lines xs ys p.1 q.1 cut.1 in
    λ i. cut.0 i ∷ others i

words_are_short : (ws : List Text) → AllByRecursion IsWord ws
    → length (flat_map after_space ws) ≤ 256 * length ws
words_are_short [] all = omega arith
words_are_short (w ∷ ws) all =
    omega (arith, length-append w (flat_map after_space ws), all.0.1, words_are_short ws all.1)

-- a line of fewer than 2 ^ 33 words
abbrev pub IsShortLine : Text → Type 0
IsShortLine line = length line < 2 ^ 42

pub line_is_short : (w : Text) (ws : List Text) → IsWord w → AllByRecursion IsWord ws
    → length ws < 2 ^ 33 → IsShortLine (spaced w ws)
line_is_short w ws is all few =
    omega (arith, length-append w (flat_map after_space ws), is.1, words_are_short ws all)

pub lines_are_short : (lines : List Text) → AllByRecursion IsShortLine lines
    → length (flat_map ended lines) ≤ length lines * 2 ^ 42
lines_are_short [] all = omega arith
lines_are_short (line ∷ lines) all =
    omega (
      arith,
      length-append (ended line) (flat_map ended lines),
      length-append line (10 ∷ []),
      all.0,
      lines_are_short lines all.1,
    )
