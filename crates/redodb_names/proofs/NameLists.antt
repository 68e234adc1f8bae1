-- Growing lists of names.
use Rattle.std.proofs.Common.{◌≡◌, ℕ, zero, suc, ◌<◌, ◌+◌, ◌^◌, Bool, true, false, ◌||◌, List, [], ◌∷◌, ◌++◌, length, take, Some, slice_get, refl, sym, ap, ◌∙◌, arith, length-append, append-nil, append_assoc}
use Rattle.std.specs.Prelude.{bytes_eq}
use Rattle.std.specs.List.{AllByRecursion, IsDistinct}
use Rattle.std.proofs.lemmas.Cmp.{nat_list_eq_equiv}
use Rattle.std.proofs.lemmas.List.{length-take}
use Rattle.std.proofs.lemmas.Slice.Eq.{bytes_eq-Decides}
use Rattle.std.proofs.lemmas.Map.Keys.{IsDistinct-push}
use Rattle.redodb_names.specs.Names.{is_name, has, AreAllNames}
use Rattle.redodb_names.specs.Support.Names.{Extends, AreNames}

pub Extends-same : (names : List (List ℕ)) → Extends names names
Extends-same names = record { more = []; is = sym (append-nil names) }

pub Extends-then : (first second third : List (List ℕ)) → Extends first second
    → Extends second third → Extends first third
Extends-then first second third a b = record {
  more = a.more ++ b.more;
  is = b.is ∙ ap (λ (names : List (List ℕ)). names ++ b.more) a.is
      ∙ append_assoc first a.more b.more;
}

-- what has a number is among the names
pub has-at : (names : List (List ℕ)) (text : List ℕ) (number : ℕ)
    → slice_get names number ≡ Some text → has names text ≡ true
has-at [] text number e = absurd cc
has-at (name ∷ names) text zero e =
    ap (λ (same : Bool). same || has names text)
    ((bytes_eq-Decides text name).1 (sym (same_in e)))
  where
    same_in : Some name ≡ Some text → name ≡ text
    same_in e = cc
has-at (name ∷ names) text (suc number) e = by (bytes_eq text name) (has-at names text number e)
  where
    by : (same : Bool) → has names text ≡ true → (same || has names text) ≡ true
    by true there = refl
    by false there = there

pub AreNames-none : AreNames []
unfolding IsDistinct
AreNames-none = record { few = omega arith; distinct = tt; each = tt }

each-push : (names : List (List ℕ)) (text : List ℕ) → AreAllNames names → is_name text ≡ true
    → AreAllNames (names ++ text ∷ [])
each-push [] text each is = (is, tt)
each-push (_ ∷ names) text each is = (each.0, each-push names text each.1 is)

pub AreNames-push : (names : List (List ℕ)) (text : List ℕ) → AreNames names → is_name text ≡ true
    → has names text ≡ false → length names + 1 < 2 ^ 32 → AreNames (names ++ text ∷ [])
AreNames-push names text are is new room = record {
  few = omega (arith, length-append names (text ∷ []));
  distinct = IsDistinct-push nat_list_eq_equiv names text are.distinct new;
  each = each-push names text are.each is;
}

each-take : {X : Type 0} (P : X → Type 0) (n : ℕ) (xs : List X) → AllByRecursion P xs
    → AllByRecursion P (take n xs)
each-take P zero xs each = tt
each-take P (suc n) [] each = tt
each-take P (suc n) (x ∷ xs) each = (each.0, each-take P n xs each.1)

distinct-take : (n : ℕ) (names : List (List ℕ)) → IsDistinct bytes_eq names
    → IsDistinct bytes_eq (take n names)
unfolding IsDistinct
distinct-take zero names distinct = tt
distinct-take (suc n) [] distinct = tt
distinct-take (suc n) (text ∷ names) distinct = (
  each-take (λ y. bytes_eq text y ≡ false) n names distinct.0,
  distinct-take n names distinct.1,
)

-- the first of some names are names
pub AreNames-take : (names : List (List ℕ)) (n : ℕ) → AreNames names → AreNames (take n names)
AreNames-take names n are = record {
  few = omega (arith, length-take n names, are.few);
  distinct = distinct-take n names are.distinct;
  each = each-take (λ text. is_name text ≡ true) n names are.each;
}
