use Rattle.std.proofs.Common.{ap, arith}
use Rattle.redodb_database.specs.Tables.{calls_of}
use Rattle.redodb_database.proofs.redo.Redo.count_call.Goals as goal

pub returns-clause-left : goal.returns-clause-left
returns-clause-left c = record {
  builds = λ n. omega (arith, c.self.invariant.tables.few_builds n);
  grants = λ n. omega (arith, c.self.invariant.tables.few_grants n);
  calls = omega (arith, c.requires, ap calls_of c.self.view_is);
}
