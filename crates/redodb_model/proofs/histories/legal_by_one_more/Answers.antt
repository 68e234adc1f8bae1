use Rattle.redodb_model.specs.Names.{texts}
use Rattle.redodb_model.specs.State.{empty}
use Rattle.redodb_model.proofs.OneMore.{legal_more, legal_prefix}
use Rattle.redodb_model.proofs.histories.legal_by_one_more.Goals as goal

pub returns : goal.returns
returns c lines line =
    (legal_prefix texts empty lines line, λ h. legal_more texts empty lines line h.0 h.1)
