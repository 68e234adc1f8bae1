use Rattle.std.proofs.Common.{◌≡◌, replicate}
use Rattle.redodb_records.specs.Rows.{bare}
use Rattle.redodb_records.proofs.made.bare_targets.Given as goal

abbrev pub invariant-fill : goal.invariant-fill
invariant-fill l = l.targets.items ≡ replicate l.counter bare
