use Rattle.std.proofs.Common.{sym}
use Rattle.redodb_names.proofs.NameLists.{has-at}
use Rattle.redodb_names.proofs.names.Names.number_of.Goals as goal

pub returns-in-Some-clause-there : goal.returns-in-Some-clause-there
returns-in-Some-clause-there c =
    sym (has-at c.args.self.now c.args.text.now c.in-Some.number c.in-Some.ensures.found)

pub returns-in-Some-if_at-clause-there : goal.returns-in-Some-if_at-clause-there
returns-in-Some-if_at-clause-there c =
    sym (has-at c.args.self.now c.args.text.now c.in-Some-if_at.number c.in-Some-if_at.ensures.found)
