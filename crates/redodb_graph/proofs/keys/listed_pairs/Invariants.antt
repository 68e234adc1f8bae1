use Rattle.std.proofs.Common.{◌≡◌, take}
use Rattle.redodb_journal.specs.Plans.{scripts_of}
use Rattle.redodb_graph.specs.Steps.{listed_by}
use Rattle.redodb_graph.proofs.keys.listed_pairs.Given as goal

abbrev pub invariant-loop-script : goal.invariant-loop-script
invariant-loop-script l =
    l.keys.items ≡ listed_by (scripts_of (take l.script-index l.scripts))
