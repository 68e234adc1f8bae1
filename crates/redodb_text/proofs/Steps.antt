-- When reading by steps comes to its end.
use Rattle.std.proofs.Common.{◌≡◌, ℕ, zero, suc, ◌+◌, ◌<◌, Bool, true, false, cond, List, [], ◌∷◌, length, drop, slice_index_or, Option, Some, Result, Ok, Err, refl, ap, ◌∙◌, arith}
use Rattle.std.specs.List.{find}
pub use Rattle.std.proofs.lemmas.Bool.{and_parts as both, or_parts as neither}
use Rattle.redodb_model.specs.Names.{Text}
use Rattle.redodb_model.specs.Command.{Command}
use Rattle.redodb_text.specs.declared.fault.LineFault.{LineFault}
use Rattle.redodb_text.specs.Support.Reading.{◌>>=◌, Reading}

-- each of two steps succeeds
pub bind_ok : {A B : Type 0} (r : Result A LineFault) (f : A → Result B LineFault) (y : B)
    → (r >>= f) ≡ Ok y → (x : A) × (r ≡ Ok x) × (f x ≡ Ok y)
bind_ok (Ok x) f y e = (x, refl, e)
bind_ok (Err d) f y e = absurd cc

-- a test that else leads to a fault passes
pub guard_ok : {A : Type 0} (b : Bool) (d : LineFault) (x y : A) → cond b (Ok x) (Err d) ≡ Ok y
    → (b ≡ true) × (x ≡ y)
guard_ok true d x y e = (refl, cc)
guard_ok false d x y e = absurd cc

-- a test that leads to a fault does not pass
pub unless_ok : {A : Type 0} (b : Bool) (d : LineFault) (r : Result A LineFault) (y : A)
    → cond b (Err d) r ≡ Ok y → (b ≡ false) × (r ≡ Ok y)
unless_ok true d r y e = absurd cc
unless_ok false d r y e = (refl, e)

-- what a search finds passes its test
pub found_passes : {X : Type 0} (test : X → Bool) (xs : List X) (x : X) → find test xs ≡ Some x
    → test x ≡ true
found_passes test [] x e = absurd cc
found_passes test (y ∷ ys) x e = by (test y) refl e (found_passes test ys x)
  where
    by : (b : Bool) → test y ≡ b → cond b (Some y) (find test ys) ≡ Some x
        → (find test ys ≡ Some x → test x ≡ true) → test x ≡ true
    by true passes h later = cc
    by false fails h later = later h

-- a search passes over what doesn't pass its test
pub find_past : {X : Type 0} (test : X → Bool) (xs : List X) (k : ℕ) (d : X) → k < length xs
    → test (slice_index_or xs k d) ≡ false → find test (drop k xs) ≡ find test (drop (k + 1) xs)
find_past test [] k d below fails = absurd (omega arith)
find_past test (x ∷ xs) zero d below fails =
    ap (λ (b : Bool). cond b (Some x) (find test xs)) fails
find_past test (x ∷ xs) (suc k) d below fails =
    let next : suc (k + 1) ≡ suc k + 1 = omega arith in
    find_past test xs k d (omega (arith, below)) fails
    ∙ ap (λ (n : ℕ). find test (drop n (x ∷ xs))) next

-- and ends at the first that does
pub find_here : {X : Type 0} (test : X → Bool) (xs : List X) (k : ℕ) (d : X) → k < length xs
    → test (slice_index_or xs k d) ≡ true → find test (drop k xs) ≡ Some (slice_index_or xs k d)
find_here test [] k d below passes = absurd (omega arith)
find_here test (x ∷ xs) zero d below passes =
    ap (λ (b : Bool). cond b (Some x) (find test xs)) passes
find_here test (x ∷ xs) (suc k) d below passes =
    find_here test xs k d (omega (arith, below)) passes

-- the end of reading a line
abbrev pub read : Command Text × List Text → Reading
read x = Ok x

abbrev pub gave : {X : Type 0} → X → Result X LineFault
gave x = Ok x

-- a step gives one result
pub same_given : {X : Type 0} (x y : X) → gave x ≡ gave y → x ≡ y
same_given x y e = cc

abbrev pub found : {X : Type 0} → X → Option X
found x = Some x

-- and so does a search
pub same_found : {X : Type 0} (x y : X) → found x ≡ found y → x ≡ y
same_found x y e = cc
