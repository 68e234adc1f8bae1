use Rattle.std.proofs.Common.{rules}
use Rattle.redodb_database.proofs.why.find_if.Goals as goal

pub returns-in_ok-push-clause-found : goal.returns-in_ok-push-clause-found
returns-in_ok-push-clause-found c = search rules
