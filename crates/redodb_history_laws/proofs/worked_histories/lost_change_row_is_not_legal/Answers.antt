use Rattle.std.proofs.Common.{[], refl}
use Rattle.redodb_model.specs.Reply.{Ood}
use Rattle.redodb_history_laws.specs.WorkedHistories.{change_rows}
use Rattle.redodb_history_laws.proofs.Legal.{change_rows_legal}
use Rattle.redodb_history_laws.proofs.Changed.{reply_kept}
use Rattle.redodb_history_laws.proofs.worked_histories.lost_change_row_is_not_legal.Goals as goal

pub returns : goal.returns
returns c wrong =
    let e = reply_kept 11 (Ood []) change_rows refl change_rows_legal wrong in cc
