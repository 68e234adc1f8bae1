use Rattle.std.proofs.Common.{ltb, ℕ, rules}
use Rattle.std.proofs.lemmas.List.Sorted.{IsPartitionPoint-from_clause}
use Rattle.redodb_graph.proofs.Found.{parted_by, start_found}
use Rattle.redodb_graph.proofs.once.start_of.Goals as goal

pub returns : goal.returns
returns c =
    let pairs = c.args.pairs.now in
    let t = c.args.first in
    let facts = c.partition_point.ensures in
    start_found pairs t c.partition_point.result facts.bound
    (IsPartitionPoint-from_clause (λ (p : ℕ × ℕ). ltb p.0 t) pairs c.partition_point.result
    facts.partitioned (parted_by pairs t c.requires) (λ a r f called. search rules))
