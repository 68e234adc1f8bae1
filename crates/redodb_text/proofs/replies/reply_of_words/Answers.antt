use Rattle.redodb_text.proofs.ReplyNames.{okay_read}
use Rattle.redodb_text.proofs.replies.reply_of_words.Goals as goal

pub returns-then-eq-clause-reads : goal.returns-then-eq-clause-reads
returns-then-eq-clause-reads c =
    okay_read c.args.names.now c.args.text.now c.as_slice.result.now c.requires c.as_slice.ensures
    c.if-eq.ensures
