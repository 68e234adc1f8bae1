use Rattle.std.proofs.Common.{take}
use Rattle.redodb_graph.specs.Support.Tables.{ArePlaces}
use Rattle.redodb_graph.proofs.numbering.push_places.Given as goal

abbrev pub invariant-loop-name : goal.invariant-loop-name
invariant-loop-name l =
    ArePlaces l.pairs.items l.target (take l.name-index l.names) l.fn.listed.items l.listed.items
