use Rattle.std.proofs.Common.{◌≤◌}
use Rattle.redodb_names.specs.Support.Names.{AreNumbered}
use Rattle.redodb_names.proofs.names.forget.Given as goal

abbrev pub invariant-loop-number : goal.invariant-loop-number
invariant-loop-number l = record {
  numbered : AreNumbered l.numbers l.number l.texts;
  from : l.first ≤ l.number;
}
