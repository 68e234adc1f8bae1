-- Texts that are cut at a byte and at an arrow, and the header of a history.
use Rattle.std.proofs.Common.{◌≡◌, ◌≢◌, ℕ, suc, ◌+◌, ◌-◌, ◌<◌, ◌≤◌, ◌^◌, ◌%◌, inl, inr, true, false, ◌==◌, List, [], ◌∷◌, ◌++◌, length, get_or, take, drop, drop-cons, add-one, position, Option, Some, None, refl, sym, ap, subst, ◌∙◌, arith, codes, decimal, length-append, length-drop, append_assoc}
use Rattle.std.specs.Prelude.{Contains}
use Rattle.std.specs.List.{list_any}
use Rattle.std.proofs.Math.Seq.{drop-append_seam}
use Rattle.std.proofs.lemmas.Bool.{cases_lt, or_parts}
use Rattle.std.proofs.lemmas.Bool.Decides.{Decides-eqb}
use Rattle.std.proofs.lemmas.Fmt.{decimal_by_steps}
use Rattle.std.proofs.lemmas.Grind.{get_or_default_zero}
use Rattle.std.proofs.lemmas.List.{take-append-drop, take_all, length-take-le, get_or-take, get_or-drop}
use Rattle.std.proofs.lemmas.List.Elements.{Contains-append_right, Contains-append_cases}
use Rattle.std.proofs.lemmas.List.Prefix.{at_reads}
use Rattle.std.proofs.lemmas.List.Quantifiers.{position-Some}
use Rattle.std.proofs.lemmas.Map.Made.{Contains-tail}
use Rattle.redodb_model.proofs.Members.{contains_first}
use Rattle.redodb_model.specs.Names.{Text}
use Rattle.redodb_history.specs.Histories.{header_of}
use Rattle.redodb_text.proofs.Places.{none_passes}
use Rattle.redodb_history.specs.HistoryFaults.{arrow, IsCutAtArrow, HasNoArrow}
use Rattle.redodb_history.proofs.CutOnce.{first_cut, without_from}

-- a text is cut in one way at the first such byte
pub one_cut : (a b r s : Text) (x : ℕ) → ¬ (Contains a x) → ¬ (Contains b x)
    → a ++ x ∷ r ≡ b ++ x ∷ s → (a ≡ b) × (r ≡ s)
one_cut a b r s x p q e = first_cut x a b r s (without_from x a p) (without_from x b q) e

-- no element is the byte, by a test that computes
not_among : (xs : Text) (b : ℕ) → list_any (λ y. y == b) xs ≡ false → ¬ (Contains xs b)
not_among [] b e c = absurd (omega (arith, c.1))
not_among (x ∷ xs) b e c =
    let both = or_parts (x == b) (list_any (λ y. y == b) xs) e in
    let other : ¬ (x ≡ b) = λ same. let yes : (x == b) ≡ true = (Decides-eqb x b).1 same in
    absurd cc in
    not_among xs b both.1 (Contains-tail x xs b other c)

not_single : (x y : ℕ) → ¬ (x ≡ y) → ¬ (Contains (x ∷ []) y)
not_single x y other c = let none = Contains-tail x [] y other c in absurd (omega (arith, none.1))

-- digits are above 47
pub no_byte_in_decimal : (b n : ℕ) → b < 48 → n < 2 ^ 64 → ¬ (Contains (decimal n) b)
no_byte_in_decimal b n low = decimal_by_steps (λ m ds. ¬ (Contains ds b)) one more n
  where
    one : (m : ℕ) → m < 10 → ¬ (Contains ((48 + m) ∷ []) b)
    one m lt = not_single (48 + m) b (λ e. omega arith)

    more : (m : ℕ) (ds : List ℕ) → 10 ≤ m → ¬ (Contains ds b)
        → ¬ (Contains (ds ++ ((48 + m % 10) ∷ [])) b)
    more m ds le none c = elim (Contains-append_cases ds ((48 + m % 10) ∷ []) b c) [
      | inl before ↦
          none before
      | inr last ↦ not_single (48 + m % 10) b (λ e. omega arith) last
    ]

-- the header without its LF
abbrev pub header_words : ℕ → Text
header_words count = codes "history " ++ decimal count

pub no_lf_in_header : (count : ℕ) → count < 2 ^ 64 → ¬ (Contains (header_words count) 10)
no_lf_in_header count small c =
    elim (Contains-append_cases (codes "history ") (decimal count) 10 c) [
      | inl word ↦
          not_among (codes "history ") 10 refl word
      | inr digit ↦
          no_byte_in_decimal 10 count (omega arith) small digit
    ]

pub header_parts : (count : ℕ) (rest : Text) → header_of count ++ rest ≡ header_words count ++ 10
    ∷ rest
header_parts count rest = append_assoc (header_words count) (10 ∷ []) rest

pub has_lf : (text rest : Text) (x : ℕ) → Contains (text ++ x ∷ rest) x
has_lf text rest x = Contains-append_right text (x ∷ rest) x (contains_first x rest)

-- what is left of a text after a place
left_after : (text : Text) (n : ℕ) → take (length text - n) (drop n text) ≡ drop n text
left_after text n =
    let long = length-drop n text in
    take_all (length text - n) (drop n text) (omega (arith, long))

-- a byte that has no place isn't in the text
pub not_placed : (text : Text) (x : ℕ) → position (λ b. b == x) text ≡ None → ¬ (Contains text x)
not_placed text x none c =
    let other : (get_or text c.0 0 == x) ≡ false = none_passes (λ b. b == x) text none c.0 c.1 in
    let here : get_or text c.0 0 ≡ x = sym (get_or_default_zero text c.0 x c.1) ∙ c.2 in
    let same : (get_or text c.0 0 == x) ≡ true = (Decides-eqb (get_or text c.0 0) x).1 here in
    absurd cc

-- a text is cut at the first place of a byte
pub cut_at_place : (text : Text) (x at : ℕ) → position (λ b. b == x) text ≡ Some at
    → (text ≡ take at text ++ x ∷ take (length text - (at + 1)) (drop (at + 1) text))
    × ¬ (Contains (take at text) x)
cut_at_place text x at e = (
  sym (take-append-drop at text)
      ∙ ap (λ (l : Text). take at text ++ l)
      (drop-cons text at 0 place.0 ∙ (λ i. here i ∷ after i)),
  λ c. free c,
)
  where
    place : (at < length text) × ((get_or text at 0 == x) ≡ true)
        × ((k : ℕ) → k < at → (get_or text k 0 == x) ≡ false)
    place = position-Some (λ b. b == x) text at 0 e

    here : get_or text at 0 ≡ x
    here = (Decides-eqb (get_or text at 0) x).0 place.1

    after : drop (suc at) text ≡ take (length text - (at + 1)) (drop (at + 1) text)
    after = ap (λ (n : ℕ). drop n text) (sym (add-one at)) ∙ sym (left_after text (at + 1))

    free : ¬ (Contains (take at text) x)
    free c =
        let long : length (take at text) ≡ at = length-take-le at text (omega (arith, place.0)) in
        let lt : c.0 < at = omega (arith, long, c.1) in
        let other : (get_or text c.0 0 == x) ≡ false = place.2 c.0 lt in
        let read : get_or (take at text) c.0 0 ≡ get_or text c.0 0 = get_or-take at text c.0 0 lt in
        let same : get_or text c.0 0 ≡ x =
        sym read ∙ sym (get_or_default_zero (take at text) c.0 x c.1) ∙ c.2 in
        let yes : (get_or text c.0 0 == x) ≡ true = (Decides-eqb (get_or text c.0 0) x).1 same in
        absurd cc

-- no arrow begins before this place
abbrev pub NoArrowBelow : Text → ℕ → Type 0
NoArrowBelow rest n = (k : ℕ) (back : Text) → k < n → drop k rest ≢ arrow ++ back

pub no_arrow_more : (rest : Text) (n : ℕ) → NoArrowBelow rest n
    → ((back : Text) → drop n rest ≢ arrow ++ back) → NoArrowBelow rest (n + 1)
no_arrow_more rest n none here k back lt e =
    elim (cases_lt k n) [
      | inl before ↦ none k back before e
      | inr le ↦ let same : k ≡ n =
          omega arith in here back (subst (λ (m : ℕ). drop m rest ≡ arrow ++ back) same e)
    ]

-- no arrow has its equals sign from this place on and below that one, so none does below that one
pub no_arrow_to : (rest : Text) (seen at : ℕ) → NoArrowBelow rest (seen - 1)
    → ((k : ℕ) → seen ≤ k → k < at → (get_or rest k 0 == 61) ≡ false) → NoArrowBelow rest (at - 1)
no_arrow_to rest seen at none other k back lt e =
    elim (cases_lt (k + 1) seen) [
      | inl before ↦ none k back (omega arith) e
      | inr from ↦
          let here : get_or rest (k + 1) 0 ≡ 61 = at_reads 0 rest arrow k back e 1 (omega arith) in
          let same : (get_or rest (k + 1) 0 == 61) ≡ true =
          (Decides-eqb (get_or rest (k + 1) 0) 61).1 here in
          let differs : (get_or rest (k + 1) 0 == 61) ≡ false = other (k + 1) from (omega arith) in
          absurd cc
    ]

-- the bytes before a place of what is left are other bytes of the whole
others_after : (rest : Text) (seen at : ℕ)
    → ((k : ℕ) → k < at - seen → (get_or (drop seen rest) k 0 == 61) ≡ false)
    → (k : ℕ) → seen ≤ k → k < at → (get_or rest k 0 == 61) ≡ false
others_after rest seen at other k from lt =
    let same : seen + (k - seen) ≡ k = omega arith in
    let read = get_or-drop seen rest (k - seen) 0 ∙ ap (λ (i : ℕ). get_or rest i 0) same in
    ap (λ (b : ℕ). b == 61) (sym read) ∙ other (k - seen) (omega arith)

-- the place of the first equals sign of what is left
abbrev pub next_sign : Text → ℕ → Option ℕ
next_sign rest seen = position (λ b. b == 61) (take (length rest - seen) (drop seen rest))

of_left : (rest : Text) (seen : ℕ) → next_sign rest seen ≡ position (λ b. b == 61) (drop seen rest)
of_left rest seen = ap (position (λ b. b == 61)) (left_after rest seen)

pub sign_within : (rest : Text) (seen more : ℕ) → next_sign rest seen ≡ Some more
    → seen + more < length rest
sign_within rest seen more e =
    let place =
    position-Some (λ b. b == 61) (drop seen rest) more 0 (sym (of_left rest seen) ∙ e) in
    omega (arith, place.0, length-drop seen rest)

-- up to that equals sign no arrow has one
pub no_arrow_to_sign : (rest : Text) (seen more : ℕ) → NoArrowBelow rest (seen - 1)
    → next_sign rest seen ≡ Some more → NoArrowBelow rest (seen + more - 1)
no_arrow_to_sign rest seen more none e =
    let place =
    position-Some (λ b. b == 61) (drop seen rest) more 0 (sym (of_left rest seen) ∙ e) in
    let other = others_after rest seen (seen + more) (λ k lt. place.2 k (omega arith)) in
    no_arrow_to rest seen (seen + more) none other

-- past an equals sign that is no arrow's
pub no_arrow_past : (rest : Text) (at : ℕ) → NoArrowBelow rest (at - 1)
    → ((back : Text) → 0 < at → drop (at - 1) rest ≢ arrow ++ back) → NoArrowBelow rest at
no_arrow_past rest at none here k back lt e =
    let other = λ (b : Text) (is : drop (at - 1) rest ≡ arrow ++ b). here b (omega arith) is in
    no_arrow_more rest (at - 1) none other k back (omega arith) e

pub after_prefix : (rest prefix back : Text) → rest ≡ prefix ++ arrow ++ back
    → drop (length prefix) rest ≡ arrow ++ back
after_prefix rest prefix back e = ap (drop (length prefix)) (e ∙ append_assoc prefix arrow back)
    ∙ drop-append_seam prefix (arrow ++ back)

pub no_arrow : (rest : Text) → NoArrowBelow rest (length rest - 1) → HasNoArrow rest
no_arrow rest none prefix back e =
    none (length prefix) back (omega (
      arith,
      ap length e,
      length-append (prefix ++ arrow) back,
      length-append prefix arrow,
    )) (after_prefix rest prefix back e)

-- if no equals sign is left, there is no arrow
pub no_arrow_left : (rest : Text) (seen : ℕ) → NoArrowBelow rest (seen - 1)
    → next_sign rest seen ≡ None → HasNoArrow rest
no_arrow_left rest seen none e =
    let free = none_passes (λ b. b == 61) (drop seen rest) (sym (of_left rest seen) ∙ e) in
    let long = length-drop seen rest in
    let other = others_after rest seen (length rest) (λ k lt. free k (omega (arith, long))) in
    no_arrow rest (no_arrow_to rest seen (length rest) none other)

pub cut_at_first : (rest reply : Text) (n : ℕ) → n ≤ length rest → NoArrowBelow rest n
    → drop n rest ≡ arrow ++ reply → IsCutAtArrow rest (take n rest) reply
cut_at_first rest reply n within none here = record {
  parts = sym (take-append-drop n rest) ∙ ap (λ (l : Text). take n rest ++ l) here
      ∙ sym (append_assoc (take n rest) arrow reply);
  first = λ prefix back e. not_before prefix back e;
}
  where
    not_before : (prefix back : Text) → rest ≡ prefix ++ arrow ++ back
        → length (take n rest) ≤ length prefix
    not_before prefix back e =
        elim (cases_lt (length prefix) n) [
          | inl before ↦ absurd (none (length prefix) back before (after_prefix rest prefix back e))
          | inr le ↦ omega (arith, length-take-le n rest within)
        ]
