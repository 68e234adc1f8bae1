use Rattle.redodb_text.proofs.FirstWords.{no_words_some, okay_some}
use Rattle.redodb_text.proofs.forms.check_no_words.Goals as goal

pub returns-in-Some-clause-command : goal.returns-in-Some-clause-command
returns-in-Some-clause-command c form names =
    rw c.in-Some.is (no_words_some form names c.in-Some.field-0.now)

pub returns-in-Some-clause-reply : goal.returns-in-Some-clause-reply
returns-in-Some-clause-reply c = rw c.in-Some.is (okay_some c.in-Some.field-0.now)
