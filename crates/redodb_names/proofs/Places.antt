-- The order of the numbers by their places is that of their texts.
use Rattle.std.proofs.Common.{◌≡◌, ℕ, ◌<◌, ◌==◌, List, length, get_or, sym, ap, ◌∙◌, inl, inr, arith}
use Rattle.std.specs.List.{Contains}
use Rattle.std.specs.Cmp.Lexicographic.{slice_cmp}
use Rattle.std.specs.Ordering.{nat_cmp, ordering_reverse}
use Rattle.std.specs.declared.cmp.Ordering.TheVariants.{Less}
use Rattle.std.proofs.lemmas.Bool.{cases_order, eq-eqb, ne_eqb}
use Rattle.std.proofs.lemmas.Bool.Decides.{nat_tests}
use Rattle.std.proofs.lemmas.Cmp.{nat_cmp_total, nat_list_cmp_total, tied_itself}
use Rattle.std.proofs.lemmas.List.{get_or_default}
use Rattle.std.proofs.lemmas.List.Elements.{Contains-get_or}
use Rattle.std.proofs.lemmas.List.Sums.{position_or_len_is}
use Rattle.redodb_model.specs.Names.{text_at}
use Rattle.redodb_model.proofs.Texts.{texts_are_names}
use Rattle.redodb_names.specs.Orders.{AreSorted, place, by_place}
use Rattle.redodb_names.specs.Support.Orders.{IsOrderOf}

pub below_by_numbers : (m n : ℕ) → m < n → nat_cmp m n ≡ Less
below_by_numbers m n h = grind (arith, nat_tests)

module _ {names : List (List ℕ)} {sorted : List ℕ} (are : AreSorted names sorted) where
  -- names rise with their places
  rises : (i j k m : ℕ) → i < j → j < length sorted → get_or sorted i k ≡ k → get_or sorted j m ≡ m
      → slice_cmp nat_cmp (text_at names k) (text_at names m) ≡ Less
  rises i j k m before below atk atm =
      let there : get_or sorted j k ≡ m = get_or_default sorted j k m below ∙ atm in
      ap (λ (n : ℕ). slice_cmp nat_cmp (text_at names n) (text_at names m)) (sym atk)
      ∙ ap (λ (n : ℕ). slice_cmp nat_cmp (text_at names (get_or sorted i k)) (text_at names n))
      (sym there) ∙ are.listed.0 i j k before below

  place_is : (i k : ℕ) → i < length sorted → get_or sorted i k ≡ k → place sorted k ≡ i
  place_is i k below at =
      position_or_len_is (λ (m : ℕ). m == k) sorted i k (omega arith)
      (λ j before. ne_eqb (get_or sorted j k) k
      (λ e. texts_are_names.irreflexive (text_at names k) (rises j i k k before below e at)))
      (λ l. eq-eqb (get_or sorted i k) k at)

  by_places : (i j k m : ℕ) → i < length sorted → j < length sorted → get_or sorted i k ≡ k
      → get_or sorted j m ≡ m → nat_cmp i j ≡ slice_cmp nat_cmp (text_at names k) (text_at names m)
  by_places i j k m bi bj atk atm = elim (cases_order i j) [
    | inl e ↦
        let same : k ≡ m =
        sym atk ∙ get_or_default sorted i k m bi ∙ ap (λ (n : ℕ). get_or sorted n m) e ∙ atm in
        ap (λ (n : ℕ). nat_cmp n j) e ∙ tied_itself nat_cmp_total j
        ∙ sym (tied_itself nat_list_cmp_total (text_at names m))
        ∙ ap (λ (n : ℕ). slice_cmp nat_cmp (text_at names n) (text_at names m)) (sym same)
    | inr h ↦ elim h [
      | inl less ↦ below_by_numbers i j less ∙ sym (rises i j k m less bj atk atm)
      | inr more ↦ nat_cmp_total.antisymm i j
          ∙ ap ordering_reverse (below_by_numbers j i more ∙ sym (rises j i m k more bi atm atk))
          ∙ sym (nat_list_cmp_total.antisymm (text_at names k) (text_at names m))
    ]
  ]

  pub by_place_is : (k m : ℕ) → k < length names → m < length names
      → by_place sorted k m ≡ slice_cmp nat_cmp (text_at names k) (text_at names m)
  unfolding by_place
  by_place_is k m a b =
      let at : Contains sorted k = (are.listed.1 k).1 a in
      let to : Contains sorted m = (are.listed.1 m).1 b in
      ap (λ (i : ℕ). nat_cmp i (place sorted m)) (place_is at.0 k at.1 at.2)
      ∙ ap (nat_cmp at.0) (place_is to.0 m to.1 to.2) ∙ by_places at.0 to.0 k m at.1 to.1 at.2 to.2

  -- the numbers are sorted by their own order too
  pub listed_by_place : IsOrderOf (length names) sorted
  listed_by_place = (
    λ i j d before below.
        let first : i < length sorted = omega arith in
        by_place_is (get_or sorted i d) (get_or sorted j d)
        ((are.listed.1 (get_or sorted i d)).0 (Contains-get_or sorted i d first))
        ((are.listed.1 (get_or sorted j d)).0 (Contains-get_or sorted j d below))
        ∙ are.listed.0 i j d before below,
    are.listed.1,
  )
