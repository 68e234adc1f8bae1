use Rattle.std.proofs.Common.{take}
use Rattle.std.specs.List.{Contains}
use Rattle.redodb_names.specs.Support.Orders.{ArePlaces}
use Rattle.redodb_replica.specs.Support.Lists.{IsStaleIn, names_on}
use Rattle.redodb_replica.proofs.lists.stale_ranks.Given as goal

abbrev pub invariant-loop-place : goal.invariant-loop-place
invariant-loop-place l =
    ArePlaces l.graph.sorted (λ n. Contains (take l.place-index
    (names_on l.graph.tables.pairs.items l.places)) n × IsStaleIn l.cells l.out.marks n)
    (Contains l.ranks.items)
