use Rattle.std.proofs.Common.{◌≡◌, true, take}
use Rattle.std.specs.List.{list_all}
use Rattle.redodb_records.specs.Rows.{room_of}
use Rattle.redodb_database.proofs.redo.Redo.has_room_on.Given as goal

abbrev pub invariant-loop-place : goal.invariant-loop-place
invariant-loop-place l = list_all (room_of l.self.rows l.t) (take l.place l.names) ≡ true
