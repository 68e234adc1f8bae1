use Rattle.std.proofs.Common.{[], ◌∷◌, refl}
use Rattle.std.specs.Prelude.{codes}
use Rattle.redodb_model.specs.Reply.{Ood}
use Rattle.redodb_history_laws.specs.WorkedHistories.{chain_without_a_file}
use Rattle.redodb_history_laws.proofs.Legal.{chain_legal}
use Rattle.redodb_history_laws.proofs.Changed.{reply_kept}
use Rattle.redodb_history_laws.proofs.worked_histories.cut_chain_is_not_legal.Goals as goal

pub returns : goal.returns
returns c wrong =
    let e = reply_kept 12 (Ood (codes "lib" ∷ [])) chain_without_a_file refl chain_legal wrong in cc
