-- A list that is gone through chunk by chunk.
use Rattle.std.proofs.Common.{◌≡◌, ℕ, ◌+◌, ◌*◌, ◌<◌, min, List, ◌++◌, sym, ap, ◌∙◌, length, map, take, drop, take-add, arith, length-drop}
use native.Mathlib.Nat.{suc-mul}
use Rattle.std.specs.Fork.{slice_chunk}
use Rattle.std.specs.List.{flat_map}
use Rattle.std.proofs.lemmas.Grind.{flat_map-append}
use Rattle.std.proofs.lemmas.List.{length-take, map-append, take_min, drop_min}

module _ {X : Type 0} (xs : List X) (size n from count : ℕ) (at : from ≡ min (n * size) (length xs))
    (long : count ≡ length (slice_chunk xs size n)) where
  abbrev rest : List X
  rest = drop (n * size) xs

  counted : count ≡ min size (length rest)
  counted = long ∙ length-take size rest

  -- where the next chunk begins
  pub next_chunk : from + count ≡ min ((n + 1) * size) (length xs)
  next_chunk =
      omega (arith, counted, length-drop (n * size) xs, suc-mul n size)

  -- where a chunk with a line begins
  pub chunk_begins : 0 < count → from ≡ n * size
  chunk_begins some =
      omega (arith, counted, length-drop (n * size) xs)

  -- what is gone through with this chunk
  chunk_taken : take (from + count) xs ≡ take from xs ++ slice_chunk xs size n
  chunk_taken =
      let begun : drop from xs ≡ rest = ap (λ (k : ℕ). drop k xs) at ∙ drop_min (n * size) xs in
      take-add from count xs
      ∙ (λ k. take from xs ++ take (counted k) (begun k))
      ∙ ap (λ (ys : List X). take from xs ++ ys) (take_min size rest)

  -- the text of what is gone through with this chunk
  pub chunk_shown : {Y A : Type 0} (f : Y → List A) (g : X → Y)
      → flat_map f (map g (take from xs)) ++ flat_map f (map g (slice_chunk xs size n))
      ≡ flat_map f (map g (take (from + count) xs))
  chunk_shown f g =
      sym (ap (λ (ys : List X). flat_map f (map g ys)) chunk_taken
      ∙ ap (flat_map f) (map-append g (take from xs) (slice_chunk xs size n))
      ∙ flat_map-append f (map g (take from xs)) (map g (slice_chunk xs size n)))
