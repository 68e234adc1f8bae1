use Rattle.redodb_text.proofs.FirstWords.{more_words}
use Rattle.redodb_text.proofs.args.one.Goals as goal

pub returns-in-Some-others : goal.returns-in-Some-others
returns-in-Some-others c one =
    let all = rw c.in-Some.is at one in
    let words = rw c.in-Some-others.is at c.cut_word.ensures in
    more_words c.in-Some.text.now _ c.in-Some-others.field-0.now words all
