-- The closing command is about the least held name.
use Rattle.std.proofs.Common.{◌≡◌, ◌≢◌, ◌↔◌, Bool, true, false, cond, List, [], ◌∷◌, Option, Some, None, option_map, refl, sym, ap, ◌∙◌, subst, inl, inr}
use Rattle.std.specs.List.{Contains, filter_map}
use Rattle.std.specs.Cmp.{IsTotalOrder, tied_itself, upto}
use Rattle.std.specs.Ordering.{is_gt, ordering_reverse}
use Rattle.std.proofs.lemmas.Bool.{false≢true}
use Rattle.std.specs.declared.cmp.Ordering.{Ordering}
use Rattle.std.specs.declared.cmp.Ordering.TheVariants.{Less, Equal, Greater}
use Rattle.redodb_model.specs.Names.{Naming}
use Rattle.redodb_model.specs.Support.Names.{IsNaming}
use Rattle.redodb_model.specs.Command.{Unlock, Failed, asked_lock}
use Rattle.redodb_model.specs.History.{Line}
use Rattle.redodb_model.specs.Closing.{lesser, lesser_of, least, holds, builds, held_in, letting_go, closing_of}
use Rattle.redodb_model.specs.Support.Ending.{IsLeastHeld}
use Rattle.redodb_model.proofs.Letting.{closing_none, held_is_in, is_held, least_in, least_none}
use Rattle.redodb_model.proofs.Members.{contains_cases, contains_none}

not_greater : (o : Ordering) → o ≢ Less → is_gt (ordering_reverse o) ≡ false
not_greater Less unlike = absurd (unlike refl)
not_greater o unlike = refl

not_less : (o p : Ordering) → o ≡ ordering_reverse p → is_gt o ≡ false → p ≢ Less
not_less o p turned below less =
    false≢true (sym below ∙ ap is_gt turned ∙ ap (λ q. is_gt (ordering_reverse q)) less)

neither : (o : Ordering) → is_gt o ≡ false → o ≢ Less → o ≡ Equal
neither Less below unlike = absurd (unlike refl)
neither Equal below unlike = refl
neither Greater below unlike = absurd (false≢true (sym below))

module _ {N : Type 0} {naming : Naming N} (law : IsNaming naming)
    (total : IsTotalOrder naming.order) (tied : (m n : N) → naming.order m n ≡ Equal → m ≡ n) where
  -- not above either
  lesser_first : (n m : N) (o : Ordering) → naming.order n m ≡ o
      → is_gt (naming.order (lesser o n m) n) ≡ false
  lesser_first n m Greater e = ap is_gt (total.antisymm m n ∙ ap ordering_reverse e)
  lesser_first n m o e = ap is_gt (tied_itself total n)

  lesser_second : (n m : N) (o : Ordering) → naming.order n m ≡ o
      → is_gt (naming.order (lesser o n m) m) ≡ false
  lesser_second n m Greater e = ap is_gt (tied_itself total m)
  lesser_second n m o e = ap is_gt e

  below_first : (n : N) (o : Option N) → is_gt (naming.order (lesser_of naming n o) n) ≡ false
  below_first n None = ap is_gt (tied_itself total n)
  below_first n (Some m) = lesser_first n m (naming.order n m) refl

  below_later : (n u : N) (names : List N) (o : Option N) → least naming names ≡ o
      → Contains names u
      → ((m : N) → least naming names ≡ Some m → is_gt (naming.order m u) ≡ false)
      → is_gt (naming.order (lesser_of naming n o) u) ≡ false
  below_later n u names None e there more =
      absurd (contains_none u (subst (λ names. Contains names u)
      (least_none naming names e) there))
  below_later n u names (Some m) e there more =
      upto total (lesser_of naming n (Some m)) m u (lesser_second n m (naming.order n m) refl)
      (more m e)

  -- the least of the names is above none of them
  least_below : (names : List N) (t u : N) → least naming names ≡ Some t → Contains names u
      → is_gt (naming.order t u) ≡ false
  least_below [] t u e there = absurd (contains_none u there)
  least_below (n ∷ names) t u e there =
      let is : lesser_of naming n (least naming names) ≡ t = cc in
      subst (λ m. is_gt (naming.order m u) ≡ false) is
      (elim (contains_cases n names u there) [
        | inl same ↦ subst
            (λ m. is_gt (naming.order (lesser_of naming n (least naming names)) m) ≡ false) same
            (below_first n (least naming names))
        | inr later ↦ below_later n u names (least naming names) refl later
            (λ m found. least_below names m u found later)
      ])

  let_go_of : (builds_one builds_other : Bool) (one other : N)
      → cond builds_one (Failed one) (Unlock one) ≡ cond builds_other (Failed other) (Unlock other)
      → one ≡ other
  let_go_of true true one other e = cc
  let_go_of true false one other e = absurd (cc)
  let_go_of false true one other e = absurd (cc)
  let_go_of false false one other e = cc

  found : (own : List (Line N)) (t : N) (o : Option N)
      → option_map (letting_go naming own) o ≡ Some (letting_go naming own t) → o ≡ Some t
  found own t None e = absurd (cc)
  found own t (Some u) e =
      ap Some (let_go_of (builds naming own u) (builds naming own t) u t (let
      same : letting_go naming own u ≡ letting_go naming own t = cc in same))

  closes_least : (own : List (Line N)) (t : N)
      → closing_of naming own ≡ Some (letting_go naming own t) → IsLeastHeld naming own t
  closes_least own t e =
      let is = found own t (least naming (held_in naming own)) e in (
        is_held law own t (least_in naming (held_in naming own) t is),
        λ u held. not_less (naming.order t u) (naming.order u t) (total.antisymm t u)
            (least_below (held_in naming own) t u is (held_is_in law own u held)),
      )

  least_is : (own : List (Line N)) (t : N) (o : Option N) → least naming (held_in naming own) ≡ o
      → IsLeastHeld naming own t → o ≡ Some t
  least_is own t None e held =
      absurd (contains_none t (subst (λ names. Contains names t)
      (least_none naming (held_in naming own) e) (held_is_in law own t held.0)))
  least_is own t (Some u) e held =
      ap Some (tied u t (neither (naming.order u t)
      (least_below (held_in naming own) u t e (held_is_in law own t held.0))
      (held.1 u (is_held law own u (least_in naming (held_in naming own) u e)))))

  pub closing_least : (own : List (Line N)) (t : N)
      → (closing_of naming own ≡ Some (letting_go naming own t)) ↔ IsLeastHeld naming own t
  closing_least own t = (
    closes_least own t,
    λ held. ap (option_map (letting_go naming own))
        (least_is own t (least naming (held_in naming own)) refl held),
  )

  none_held : (own : List (Line N)) (o : Option N) → least naming (held_in naming own) ≡ o
      → ((t : N) → holds naming own t ≡ false) → option_map (letting_go naming own) o ≡ None
  none_held own None e free = refl
  none_held own (Some t) e free =
      absurd (false≢true (sym (free t)
      ∙ is_held law own t (least_in naming (held_in naming own) t e)))

  pub closing_nothing : (own : List (Line N))
      → (closing_of naming own ≡ None) ↔ ((t : N) → holds naming own t ≡ false)
  closing_nothing own = (
    closing_none law own,
    none_held own (least naming (held_in naming own)) refl,
  )
