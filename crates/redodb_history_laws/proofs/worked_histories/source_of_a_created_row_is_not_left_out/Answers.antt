use Rattle.std.proofs.Common.{[], refl}
use Rattle.redodb_model.specs.Reply.{Sources}
use Rattle.redodb_history_laws.specs.WorkedHistories.{created_rows}
use Rattle.redodb_history_laws.proofs.Legal.{created_rows_legal}
use Rattle.redodb_history_laws.proofs.Changed.{reply_kept}
use Rattle.redodb_history_laws.proofs.worked_histories.source_of_a_created_row_is_not_left_out.Goals as goal

pub returns : goal.returns
returns c wrong =
    let e = reply_kept 8 (Sources []) created_rows refl created_rows_legal wrong in cc
