use Rattle.std.proofs.Common.{[]}
use Rattle.redodb_model.specs.Names.{texts}
use Rattle.redodb_history_laws.proofs.Orders.{prefix_placed}
use Rattle.redodb_history_laws.proofs.histories.placed_prefix.Goals as goal

pub returns : goal.returns
returns c = prefix_placed texts []
