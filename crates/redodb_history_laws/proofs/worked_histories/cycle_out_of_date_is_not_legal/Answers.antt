use Rattle.std.proofs.Common.{[], ◌∷◌, refl}
use Rattle.std.specs.Prelude.{codes}
use Rattle.redodb_model.specs.Reply.{Ood}
use Rattle.redodb_history_laws.specs.WorkedHistories.{cycle}
use Rattle.redodb_history_laws.proofs.Legal.{cycle_legal}
use Rattle.redodb_history_laws.proofs.Changed.{reply_kept}
use Rattle.redodb_history_laws.proofs.worked_histories.cycle_out_of_date_is_not_legal.Goals as goal

pub returns : goal.returns
returns c wrong =
    let e = reply_kept 13 (Ood (codes "a" ∷ codes "b" ∷ [])) cycle refl cycle_legal wrong in cc
