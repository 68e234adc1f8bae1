use Rattle.std.proofs.Common.{◌≡◌, length}
use Rattle.std.specs.List.{All}
use Rattle.redodb_run.specs.Support.Printed.{IsBlank}
use Rattle.redodb_run.proofs.printed.blank_parts.Given as goal

abbrev pub invariant-loop-script : goal.invariant-loop-script
invariant-loop-script l = record {
  count : length l.parts.items ≡ l.script-index;
  blank : All IsBlank l.parts.items;
}
