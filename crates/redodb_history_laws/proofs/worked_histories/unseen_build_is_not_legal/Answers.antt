use Rattle.std.proofs.Common.{[], refl}
use Rattle.redodb_model.specs.Reply.{Ood}
use Rattle.redodb_history_laws.specs.WorkedHistories.{contents_and_builds}
use Rattle.redodb_history_laws.proofs.Legal.{contents_and_builds_legal}
use Rattle.redodb_history_laws.proofs.Changed.{reply_kept}
use Rattle.redodb_history_laws.proofs.worked_histories.unseen_build_is_not_legal.Goals as goal

pub returns : goal.returns
returns c wrong =
    let e = reply_kept 17 (Ood []) contents_and_builds refl contents_and_builds_legal wrong in cc
