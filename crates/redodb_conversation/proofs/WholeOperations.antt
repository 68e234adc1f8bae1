-- What is always true of operations that have no parts.
use Rattle.std.proofs.Common.{◌≡◌, true, false, Bool, List, ◌∷◌, sym, subst}
use Rattle.redodb_log.specs.Operations.{Operation, Append, Write, IsPartOf, IsAlways}

-- an operation that is done whole or not at all
abbrev pub is_whole : Operation → Bool
is_whole (Append bytes) = false
is_whole (Write bytes) = false
is_whole operation = true

part_is_whole : (operation part : Operation) → is_whole operation ≡ true → IsPartOf part operation
    → part ≡ operation
part_is_whole (Append bytes) part part_too is = absurd (cc)
part_is_whole (Write bytes) part part_too is = absurd (cc)
part_is_whole operation part whole is = is

module _ (P : List Operation → Type 0) (done : List Operation) (always : IsAlways P done) where
  pub always_whole : (operation : Operation) → is_whole operation ≡ true → P (operation ∷ done)
      → IsAlways P (operation ∷ done)
  always_whole operation whole now = (
    λ part is. subst (λ (o : Operation). P (o ∷ done))
        (sym (part_is_whole operation part whole is)) now,
    always,
  )
