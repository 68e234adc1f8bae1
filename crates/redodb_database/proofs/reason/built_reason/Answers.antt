use Rattle.std.proofs.Common.{rules}
use Rattle.redodb_database.proofs.reason.built_reason.Goals as goal

pub returns-then-changed-clause-reason : goal.returns-then-changed-clause-reason
returns-then-changed-clause-reason c = c.changed.ensures.0 c.if-changed.true

pub returns-in-Some-Appeared-clause-reason : goal.returns-in-Some-Appeared-clause-reason
returns-in-Some-Appeared-clause-reason c = search rules
