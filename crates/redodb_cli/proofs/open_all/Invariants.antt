use Rattle.std.proofs.Common.{◌≡◌, length}
use Rattle.redodb_cli.proofs.open_all.Given as goal

abbrev pub invariant-loop-file : goal.invariant-loop-file
invariant-loop-file g l = length l.opened.items ≡ l.file
