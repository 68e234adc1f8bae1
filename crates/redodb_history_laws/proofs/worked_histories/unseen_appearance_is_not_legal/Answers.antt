use Rattle.std.proofs.Common.{[], refl}
use Rattle.redodb_model.specs.Reply.{Ood}
use Rattle.redodb_history_laws.specs.WorkedHistories.{appearance}
use Rattle.redodb_history_laws.proofs.Legal.{appearance_legal}
use Rattle.redodb_history_laws.proofs.Changed.{reply_kept}
use Rattle.redodb_history_laws.proofs.worked_histories.unseen_appearance_is_not_legal.Goals as goal

pub returns : goal.returns
returns c wrong =
    let e = reply_kept 6 (Ood []) appearance refl appearance_legal wrong in cc
