use Rattle.std.proofs.Common.{[]}
use Rattle.std.proofs.lemmas.Option.{get_or_from_slice_get}
use Rattle.redodb_text.proofs.Numbered.{added_known, text_at_known, below_known}
use Rattle.redodb_text.proofs.words.number_of.Goals as goal

pub returns-in-Some-clause-reads : goal.returns-in-Some-clause-reads
returns-in-Some-clause-reads c =
    rw c.remember.ensures
    (added_known _ c.args.names.now _ c.in-Some.number (rw c.in-Some.is at c.requires.known))

pub returns-in-Some-clause-number : goal.returns-in-Some-clause-number
returns-in-Some-clause-number c =
    rw c.remember.ensures
    (text_at_known c.args.names.now _ c.in-Some.number (rw c.in-Some.is at c.requires.known))

pub returns-in-Some-clause-within : goal.returns-in-Some-clause-within
returns-in-Some-clause-within c =
    rw c.remember.ensures
    (below_known c.args.names.now _ c.in-Some.number (rw c.in-Some.is at c.requires.known))

pub returns-in-Ok-clause-number : goal.returns-in-Ok-clause-number
returns-in-Ok-clause-number c =
    get_or_from_slice_get c.add.new.self c.in-Ok.number c.args.name.now [] c.in-Ok.ensures.number
