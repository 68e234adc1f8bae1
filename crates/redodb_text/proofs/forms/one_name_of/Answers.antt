use Rattle.redodb_text.proofs.Numbered.{one_name_known, below_known}
use Rattle.redodb_text.proofs.forms.one_name_of.Goals as goal

pub returns-in-Some-clause-reads : goal.returns-in-Some-clause-reads
returns-in-Some-clause-reads c form =
    rw c.remember.ensures (one_name_known _ form c.args.names.now _ c.in-Some.ensures.0
    c.in-Some.number c.in-Some.ensures.1 c.in-Some.ensures.2)

pub returns-in-Some-clause-within : goal.returns-in-Some-clause-within
returns-in-Some-clause-within c =
    rw c.remember.ensures
    (below_known c.args.names.now c.in-Some.ensures.0 c.in-Some.number c.in-Some.ensures.2)
