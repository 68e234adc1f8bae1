use Rattle.std.proofs.Common.{[], ◌∷◌, refl}
use Rattle.std.specs.Prelude.{codes}
use Rattle.redodb_model.specs.Reply.{Ood}
use Rattle.redodb_history_laws.specs.WorkedHistories.{rows_of_both_kinds}
use Rattle.redodb_history_laws.proofs.Legal.{rows_of_both_kinds_legal}
use Rattle.redodb_history_laws.proofs.Changed.{reply_kept}
use Rattle.redodb_history_laws.proofs.worked_histories.dependence_by_a_created_row_is_not_legal.Goals as goal

pub returns : goal.returns
returns c wrong =
    let e =
    reply_kept 7 (Ood (codes "T" ∷ [])) rows_of_both_kinds
    refl rows_of_both_kinds_legal wrong in
    cc
