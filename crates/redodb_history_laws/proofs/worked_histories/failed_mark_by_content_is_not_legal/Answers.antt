use Rattle.std.proofs.Common.{[], refl}
use Rattle.redodb_model.specs.Reply.{Ood}
use Rattle.redodb_history_laws.specs.WorkedHistories.{failed_mark}
use Rattle.redodb_history_laws.proofs.Legal.{failed_mark_legal}
use Rattle.redodb_history_laws.proofs.Changed.{reply_kept}
use Rattle.redodb_history_laws.proofs.worked_histories.failed_mark_by_content_is_not_legal.Goals as goal

pub returns : goal.returns
returns c wrong =
    let e = reply_kept 11 (Ood []) failed_mark refl failed_mark_legal wrong in cc
