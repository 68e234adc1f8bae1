use Rattle.std.proofs.Common.{sym, ◌∙◌, arith}
use Rattle.redodb_live.proofs.OneAnswer.{one_answer}
use Rattle.redodb_conversation.proofs.LawfulTexts.{fits_has_name}
use Rattle.redodb_conversation.proofs.laws.answers_differ.Goals as goal

pub returns : goal.returns
returns c old new other_old other_new a b one other same =
    let small = one.asks.0 in
    let few = other.asks.0 in
    one_answer one.session other.session one.name other.name one.answers.is.answer
    other.answers.is.answer (omega arith) (omega arith)
    (fits_has_name one.inquiry one.name one.fits)
    (fits_has_name other.inquiry other.name other.fits) one.answers.form other.answers.form
    (sym one.answers.is.line_is ∙ same ∙ other.answers.is.line_is)
