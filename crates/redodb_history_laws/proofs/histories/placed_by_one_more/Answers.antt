use Rattle.std.proofs.Common.{[]}
use Rattle.redodb_model.specs.Names.{texts}
use Rattle.redodb_history_laws.proofs.Orders.{placed_more, placed_less}
use Rattle.redodb_history_laws.proofs.histories.placed_by_one_more.Goals as goal

pub returns : goal.returns
returns c lines line =
    (placed_less texts [] lines line, λ h. placed_more texts [] lines line h.0 h.1 h.2)
