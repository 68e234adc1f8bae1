-- The members of a list.
use Rattle.std.proofs.Common.{◌≡◌, ◌⊎◌, ◌↔◌, ◌∙◌, ◌<◌, Bool, true, false, cond, IsTrue, List, [], ◌∷◌, ◌++◌, length, get_or, refl, sym, subst, inl, inr, arith, zero, suc, map}
use Rattle.std.proofs.lemmas.Bool.{false≢true}
use Rattle.std.proofs.lemmas.List.{get_or-map, length-map}
use Rattle.std.proofs.lemmas.List.Elements.{Contains-get_or}
use Rattle.std.specs.List.{AllByRecursion, AllPairs, Contains, filter}

pub contains_first : {X : Type 0} (x : X) (xs : List X) → Contains (x ∷ xs) x
contains_first x xs = (0, omega arith, refl)

pub contains_later : {X : Type 0} (x : X) (xs : List X) (n : X) → Contains xs n
    → Contains (x ∷ xs) n
contains_later x xs n (k, below, is) = (suc k, omega arith, is)

pub contains_cases : {X : Type 0} (x : X) (xs : List X) (n : X) → Contains (x ∷ xs) n
    → (x ≡ n) ⊎ Contains xs n
contains_cases x xs n (zero, below, is) = inl is
contains_cases x xs n (suc k, below, is) = inr (k, omega arith, is)

pub contains_none : {X : Type 0} (n : X) → Contains [] n → ⊥
contains_none n (k, below, is) = absurd (omega arith)

pub contains_map : {X Y : Type 0} (f : X → Y) (xs : List X) (x : X) → Contains xs x
    → Contains (map f xs) (f x)
contains_map f [] x h = absurd (contains_none x h)
contains_map f (y ∷ xs) x h = elim (contains_cases y xs x h) [
  | inl e ↦ subst (λ z. Contains (f y ∷ map f xs) (f z)) e (contains_first (f y) (map f xs))
  | inr k ↦ contains_later (f y) (map f xs) (f x) (contains_map f xs x k)
]

pub contains_from_map : {X Y : Type 0} (f : X → Y) (xs : List X) (y : Y) → Contains (map f xs) y
    → (x : X) × Contains xs x × (f x ≡ y)
contains_from_map f [] y h = absurd (contains_none y h)
contains_from_map f (x ∷ xs) y h = elim (contains_cases (f x) (map f xs) y h) [
  | inl e ↦ (x, contains_first x xs, e)
  | inr k ↦ let r = contains_from_map f xs y k in (r.0, contains_later x xs r.0 r.1, r.2)
]

-- the members that pass the test
pub contains_filter : {X : Type 0} (p : X → Bool) (xs : List X) (t : X)
    → Contains (filter p xs) t ↔ (Contains xs t × IsTrue (p t))
contains_filter p [] t =
    (λ c. absurd (contains_none t c), λ h. absurd (contains_none t h.0))
contains_filter p (x ∷ xs) t = at (contains_filter p xs t) (p x) refl
  where
    at : Contains (filter p xs) t ↔ (Contains xs t × IsTrue (p t)) → (b : Bool) → p x ≡ b
        → Contains (cond b (x ∷ filter p xs) (filter p xs)) t
        ↔ (Contains (x ∷ xs) t × IsTrue (p t))
    at rest true passed = (
      λ c. elim (contains_cases x (filter p xs) t c) [
        | inl e ↦ (
          subst (Contains (x ∷ xs)) e (contains_first x xs),
          subst (λ u. IsTrue (p u)) e passed,
        )
        | inr later ↦ (let h = rest.0 later in
            (contains_later x xs t h.0, h.1))
      ],
      λ h. elim (contains_cases x xs t h.0) [
        | inl e ↦ subst (Contains (x ∷ filter p xs)) e (contains_first x (filter p xs))
        | inr later ↦
            contains_later x (filter p xs) t (rest.1 (later, h.1))
      ],
    )
    at rest false failed = (
      λ c. (let h = rest.0 c in (contains_later x xs t h.0, h.1)),
      λ h. elim (contains_cases x xs t h.0) [
        | inl e ↦ absurd (false≢true (sym failed ∙ subst (λ u. IsTrue (p u)) (sym e) h.1))
        | inr later ↦ rest.1 (later, h.1)
      ],
    )

-- what is true of each element of two lists
pub all_joined : {X : Type 0} (P : X → Type 0) (xs ys : List X) → AllByRecursion P xs
    → AllByRecursion P ys → AllByRecursion P (xs ++ ys)
all_joined P [] ys one other = other
all_joined P (x ∷ xs) ys one other = (one.0, all_joined P xs ys one.1 other)

-- a relation of members that their images keep
pub pairs_map : {X Y : Type 0} (R : X → X → Type 0) (S : Y → Y → Type 0) (f : X → Y) (xs : List X)
    → ((x y : X) → Contains xs x → Contains xs y → R x y → S (f x) (f y)) → AllPairs R xs
    → AllPairs S (map f xs)
pairs_map R S f [] kept h i j d before below = absurd (omega arith)
pairs_map R S f (x ∷ xs) kept h i j d before below =
    let l : length (map f (x ∷ xs)) ≡ length (x ∷ xs) = length-map (x ∷ xs) f in
    let bi : i < length (x ∷ xs) = omega arith in
    let bj : j < length (x ∷ xs) = omega arith in
    rw (get_or-map f (x ∷ xs) i x d bi, get_or-map f (x ∷ xs) j x d bj)
    (kept (get_or (x ∷ xs) i x) (get_or (x ∷ xs) j x) (Contains-get_or (x ∷ xs) i x bi)
    (Contains-get_or (x ∷ xs) j x bj) (h i j x before bj))
