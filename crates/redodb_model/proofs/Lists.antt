-- Sorted lists without repeats: two with the same members are equal.
use Rattle.std.proofs.Common.{◌≡◌, ◌↔◌, List, [], ◌∷◌, refl, sym, ◌∙◌, subst, inl, inr, arith, suc}
use Rattle.std.specs.List.{Contains}
use Rattle.std.specs.declared.cmp.Ordering.TheVariants.{Less}
use Rattle.redodb_model.specs.Names.{Naming, Ascending, IsListed}
use Rattle.redodb_model.specs.Support.Names.{IsNaming}
use Rattle.redodb_model.proofs.Members.{contains_first, contains_later, contains_cases, contains_none}

module _ {N : Type 0} {naming : Naming N} (law : IsNaming naming) where
  pub first_before : (x : N) (xs : List N) → Ascending naming (x ∷ xs) → (n : N) → Contains xs n
      → naming.order x n ≡ Less
  first_before x xs up n (k, below, is) =
      subst (λ m. naming.order x m ≡ Less) is (up 0 (suc k) n (omega arith) (omega arith))

  pub rest_ascending : (x : N) (xs : List N) → Ascending naming (x ∷ xs) → Ascending naming xs
  rest_ascending x xs up i j d before below = up (suc i) (suc j) d (omega arith) (omega arith)

  same_first : (x y : N) (xs ys : List N) → Ascending naming (x ∷ xs) → Ascending naming (y ∷ ys)
      → Contains (y ∷ ys) x → Contains (x ∷ xs) y → x ≡ y
  same_first x y xs ys ux uy xin yin =
      elim (contains_cases y ys x xin) [
        | inl e ↦ sym e
        | inr h ↦ elim (contains_cases x xs y yin) [
          | inl e ↦ e
          | inr k ↦ absurd (law.irreflexive x
              (law.transitive x y x (first_before x xs ux y k) (first_before y ys uy x h)))
        ]
      ]

  -- a name of one rest is in the other
  in_rest : (x y : N) (xs ys : List N) → x ≡ y → Ascending naming (x ∷ xs)
      → ((n : N) → Contains (x ∷ xs) n → Contains (y ∷ ys) n) → (n : N) → Contains xs n
      → Contains ys n
  in_rest x y xs ys e ux to n h =
      elim (contains_cases y ys n (to n (contains_later x xs n h))) [
        | inl f ↦ absurd (law.irreflexive x
            (subst (λ m. naming.order x m ≡ Less) (sym (e ∙ f)) (first_before x xs ux n h)))
        | inr k ↦ k
      ]

  pub same_ascending : (xs ys : List N) → Ascending naming xs → Ascending naming ys
      → ((n : N) → Contains xs n ↔ Contains ys n) → xs ≡ ys
  same_ascending [] [] ux uy both = refl
  same_ascending [] (y ∷ ys) ux uy both =
      absurd (contains_none y ((both y).1 (contains_first y ys)))
  same_ascending (x ∷ xs) [] ux uy both =
      absurd (contains_none x ((both x).0 (contains_first x xs)))
  same_ascending (x ∷ xs) (y ∷ ys) ux uy both =
      let e : x ≡ y =
      same_first x y xs ys ux uy ((both x).0 (contains_first x xs))
      ((both y).1 (contains_first y ys)) in
      let f : xs ≡ ys =
      same_ascending xs ys (rest_ascending x xs ux) (rest_ascending y ys uy) (λ n. (
        in_rest x y xs ys e ux (λ m. (both m).0) n,
        in_rest y x ys xs (sym e) uy (λ m. (both m).1) n,
      )) in
      λ i. e i ∷ f i

  -- the list of the names with P is one
  pub one_list : {P : N → Type 0} (xs ys : List N) → IsListed naming P xs → IsListed naming P ys
      → xs ≡ ys
  one_list xs ys p q =
      same_ascending xs ys p.0 q.0
      (λ n. (λ h. (q.1 n).1 ((p.1 n).0 h), λ h. (p.1 n).1 ((q.1 n).0 h)))
