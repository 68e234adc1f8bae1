use Rattle.std.proofs.Common.{[], refl}
use Rattle.redodb_model.specs.Reply.{Ood}
use Rattle.redodb_history_laws.specs.WorkedHistories.{own_reasons}
use Rattle.redodb_history_laws.proofs.Legal.{own_reasons_legal}
use Rattle.redodb_history_laws.proofs.Changed.{reply_kept}
use Rattle.redodb_history_laws.proofs.worked_histories.building_up_to_date_is_not_legal.Goals as goal

pub returns : goal.returns
returns c wrong =
    let e = reply_kept 6 (Ood []) own_reasons refl own_reasons_legal wrong in cc
