use Rattle.redodb_records.proofs.Refusals.{verdict_on_target, verdict_without_target}
use Rattle.redodb_records.proofs.laws.verdict_by_kind.Goals as goal

pub returns : goal.returns
returns c = record { with_target = verdict_on_target; without_target = verdict_without_target }
