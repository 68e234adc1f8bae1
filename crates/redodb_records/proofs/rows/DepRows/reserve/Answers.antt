use Rattle.std.proofs.Common.{arith}
use Rattle.std.proofs.lemmas.Grind.{common_steps}
use Rattle.redodb_records.proofs.rows.DepRows.reserve.Goals as goal

pub reserve_slot-requires-clause-name : goal.reserve_slot-requires-clause-name
reserve_slot-requires-clause-name c = grind (arith, common_steps)
