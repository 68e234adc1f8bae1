use Rattle.std.proofs.Common.{◌≡◌, ◌≤◌, ◌-◌, length}
use Rattle.std.specs.Io.KnownBytes.{Consumes}
use Rattle.redodb_io.specs.Watched.{failures_of, inner_of}
use Rattle.redodb_io.proofs.whole.read_whole.Given as goal

abbrev pub invariant-loop-n : goal.invariant-loop-n
invariant-loop-n g l = record {
  so_far : Consumes (g.R.Read.remaining (inner_of l.initial.reader))
      (g.R.Read.remaining (inner_of l.reader)) l.whole.items;
  few : length l.whole.items ≤ l.limit;
  count : failures_of l.reader ≡ failures_of l.initial.reader;
}

abbrev pub decreases-loop-n : goal.decreases-loop-n
decreases-loop-n g l = l.limit - length l.whole.items
