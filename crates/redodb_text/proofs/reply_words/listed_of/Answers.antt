use Rattle.redodb_text.proofs.Numbered.{listed_known}
use Rattle.redodb_text.proofs.reply_words.listed_of.Goals as goal

pub returns-in-Some-clause-reads : goal.returns-in-Some-clause-reads
returns-in-Some-clause-reads c =
    let found = rw c.in-Some.is at c.in_ok-known.ensures.known in
    rw c.in_ok-known.ensures.kept
    (listed_known _ c.args.names.now _ c.in-Some.known.items c.are_names.ensures c.requires found.1 found.0)
