use Rattle.std.proofs.Common.{◌<◌, ℕ, get_or}
use Rattle.redodb_replica.specs.Support.Lists.{HasRowAt}
use Rattle.redodb_replica.proofs.lists.has_row_on.Given as goal

abbrev pub invariant-loop-pair : goal.invariant-loop-pair
invariant-loop-pair l =
    (k : ℕ) → k < l.pair-index → HasRowAt l.rows (get_or l.pair-items k (0, 0)).1 → ⊥
