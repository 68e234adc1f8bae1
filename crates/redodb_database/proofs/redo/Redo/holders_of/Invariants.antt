use Rattle.std.proofs.Common.{◌≡◌, take}
use Rattle.std.specs.List.{filter_map}
use Rattle.redodb_database.specs.Tables.{locks_of}
use Rattle.redodb_database.proofs.redo.Redo.holders_of.Given as goal

abbrev pub invariant-loop-t : goal.invariant-loop-t
invariant-loop-t l =
    l.sessions.items ≡ filter_map (locks_of l.self).holder (take l.t-index l.names)
