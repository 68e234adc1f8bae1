use Rattle.redodb_model.specs.State.{empty}
use Rattle.redodb_model.proofs.Texts.{texts_are_names}
use Rattle.redodb_model.proofs.Held.{builders_hold, builders_hold_at_first}
use Rattle.redodb_model.proofs.histories.builder_holds.Goals as goal

pub returns : goal.returns
returns c lines t session legal is =
    (builders_hold texts_are_names empty lines builders_hold_at_first).held t session is
