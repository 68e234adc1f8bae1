use Rattle.std.proofs.Common.{◌≡◌, ◌<◌, ◌≤◌, length, map, drop, filter}
use Rattle.std.specs.Option.{ForSome}
use Rattle.redodb_model.specs.Closing.{least}
use Rattle.redodb_model.specs.Names.{by_text}
use Rattle.redodb_commands.specs.Support.Meaning.{item_of}
use Rattle.redodb_journal.specs.Support.Holds.{is_held, locked_in}
use Rattle.redodb_journal.proofs.holds.Holds.least_held.Given as goal

abbrev pub invariant-loop-at : goal.invariant-loop-at
invariant-loop-at l = record {
  within : l.at ≤ length l.entries;
  below : ForSome l.least (λ name. name < length l.names);
  found : l.least
      ≡ least (by_text l.names)
      (filter (is_held l.self) (locked_in (map item_of l.script) (drop l.at l.entries)));
}

abbrev pub decreases-loop-at : goal.decreases-loop-at
decreases-loop-at l = l.at
