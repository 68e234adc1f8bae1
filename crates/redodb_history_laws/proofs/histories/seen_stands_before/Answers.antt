use Rattle.std.proofs.Common.{[], ◌∷◌}
use Rattle.redodb_model.specs.Names.{texts}
use Rattle.redodb_model.proofs.Texts.{texts_are_names}
use Rattle.redodb_history_laws.proofs.Orders.{prefix_placed}
use Rattle.redodb_history_laws.proofs.Standing.{seen_stands}
use Rattle.redodb_history_laws.proofs.histories.seen_stands_before.Goals as goal

pub returns : goal.returns
returns c before later line place placed seen =
    seen_stands texts_are_names line.session before place
    (prefix_placed texts [] before (line ∷ later) placed) seen
