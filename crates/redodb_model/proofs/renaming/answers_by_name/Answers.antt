use Rattle.redodb_model.specs.Names.{texts}
use Rattle.redodb_model.proofs.Texts.{texts_are_names}
use Rattle.redodb_model.proofs.AnswersByName.{answers_by_name}
use Rattle.redodb_model.proofs.renaming.answers_by_name.Goals as goal

pub returns : goal.returns
returns c to order state session command reply law orders within below reply_below =
    answers_by_name law texts texts_are_names order orders state within session command reply below
    reply_below
