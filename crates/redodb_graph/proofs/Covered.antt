-- Pairs that lines list.
use Rattle.std.proofs.Common.{◌≡◌, ℕ, zero, suc, ◌<◌, ◌+◌, inl, inr, Some, slice_get, List, [], ◌∷◌, ◌++◌, length, get_or, map, take, refl, sym, ap, ◌∙◌, subst, arith}
use Rattle.std.specs.List.{Contains, flat_map}
use Rattle.std.proofs.lemmas.Bool.{cases_lt}
use Rattle.std.proofs.lemmas.Option.{slice_get_read}
use Rattle.std.proofs.lemmas.List.{get_or-map, get_or_past, length-map, flat_map_more, map_more}
use Rattle.std.proofs.lemmas.List.Elements.{Contains-append_left, Contains-append_right}
use Rattle.redodb_graph.specs.Support.Tables.{Covers}

module _ {X A : Type 0} (f : X → List A) where
  contains_part : (xs : List X) (i : ℕ) (d : X) → i < length xs → (a : A)
      → Contains (f (get_or xs i d)) a → Contains (flat_map f xs) a
  contains_part [] i d below a c = absurd (omega (arith, below))
  contains_part (x ∷ xs) zero d below a c = Contains-append_left (f x) (flat_map f xs) a c
  contains_part (x ∷ xs) (suc i) d below a c =
      Contains-append_right (f x) (flat_map f xs) a
      (contains_part xs i d (omega (arith, below)) a c)

  pub flat_map_map : {W : Type 0} (g : W → X) (ws : List W)
      → flat_map f (map g ws) ≡ flat_map (λ w. f (g w)) ws
  flat_map_map g [] = refl
  flat_map_map g (w ∷ ws) = ap (λ (l : List A). f (g w) ++ l) (flat_map_map g ws)

-- what covers all parts covers each
pub covers_part : {W X : Type 0} (f : X → List (ℕ × ℕ)) (g : W → X) (pairs : List (ℕ × ℕ))
    (ws : List W) (i : ℕ) (w : W) → i < length ws → w ≡ get_or ws i w
    → Covers pairs (flat_map f (map g ws))
    → Covers pairs (f (g w))
covers_part {W = W} f g pairs ws i w below at covers p c =
    covers p (subst (λ (l : List (ℕ × ℕ)). Contains l p) (sym (flat_map_map f g ws))
    (contains_part (λ (v : W). f (g v)) ws i w below p
    (subst (λ (v : W). Contains (f (g v)) p) at c)))

pub covers_name : (pairs : List (ℕ × ℕ)) (t : ℕ) (names : List ℕ) (i n : ℕ) → i < length names
    → n ≡ get_or names i n → Covers pairs (map (λ m. (t, m)) names) → Contains pairs (t, n)
covers_name pairs t names i n below at covers =
    covers (t, n) (
      i,
      omega (arith, below, length-map {B = ℕ × ℕ} names (λ (m : ℕ). (t, m))),
      get_or-map {Y = ℕ × ℕ} (λ (m : ℕ). (t, m)) names i n (t, n) below
          ∙ ap {B = ℕ × ℕ} (λ (m : ℕ). (t, m)) (sym at),
    )

-- one more part is appended
pub part_more : {W X A : Type 0} (f : X → List A) (g : W → X) (bs : List A) (ws : List W) (i : ℕ)
    (w : W) → i < length ws → w ≡ get_or ws i w
    → (bs ++ flat_map f (map g (take i ws))) ++ f (g w) ≡ bs ++ flat_map f (map g (take (i + 1) ws))
part_more {W = W} {X = X} f g bs ws i w below at =
    flat_map_more f bs (map g (take i ws)) (g w)
    ∙ ap (λ (l : List X). bs ++ flat_map f l)
    (ap (λ (v : W). map g (take i ws) ++ g v ∷ []) at ∙ sym (map_more g ws i w below))

-- a row of lists that was read
pub row_read : {W X : Type 0} (g : W → List X) (ws : List W) (i k : ℕ) (w : W) (x : X)
    → k < length (get_or (map g ws) i []) → w ≡ get_or ws i w → x ≡ get_or (g w) k x
    → slice_get (get_or (map g ws) i []) k ≡ Some x
row_read {X = X} g ws i k w x below at read =
    let within : i < length ws = elim (cases_lt i (length ws)) [
      | inl lt ↦ lt
      | inr past ↦
          let none : get_or (map g ws) i [] ≡ [] =
          get_or_past (map g ws) i [] (omega (arith, past, length-map {B = List X} ws g)) in
          absurd (omega (arith, below, ap length none))
    ] in
    let row : get_or (map g ws) i [] ≡ g w =
    get_or-map g ws i w [] within ∙ ap g (sym at) in
    rw row (slice_get_read (g w) (length (g w)) k x refl (omega (arith, below, ap length row)) read)
