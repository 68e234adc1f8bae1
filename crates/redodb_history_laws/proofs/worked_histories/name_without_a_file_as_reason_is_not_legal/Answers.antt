use Rattle.std.proofs.Common.{[], ◌∷◌, refl}
use Rattle.std.specs.Prelude.{codes}
use Rattle.redodb_model.specs.Reply.{Ood}
use Rattle.redodb_history_laws.specs.WorkedHistories.{names_without_a_file}
use Rattle.redodb_history_laws.proofs.Legal.{names_without_a_file_legal}
use Rattle.redodb_history_laws.proofs.Changed.{reply_kept}
use Rattle.redodb_history_laws.proofs.worked_histories.name_without_a_file_as_reason_is_not_legal.Goals as goal

pub returns : goal.returns
returns c wrong =
    let e =
    reply_kept 4 (Ood (codes "T" ∷ [])) names_without_a_file
    refl names_without_a_file_legal wrong in
    cc
