use Rattle.std.proofs.Common.{IsTrue, take}
use Rattle.std.specs.List.{Contains}
use Rattle.redodb_model.specs.Names.{IsListed, by_number}
use Rattle.redodb_records.specs.Rows.{slot_at, target_at}
use Rattle.redodb_records.proofs.Walked.{slot_names}
use Rattle.redodb_database.specs.Support.Tables.{has_row}
use Rattle.redodb_database.proofs.redo.Redo.names_with.Given as goal

abbrev pub invariant-loop-slot : goal.invariant-loop-slot
invariant-loop-slot l = IsListed by_number
    (λ n. Contains (take l.slot-index (slot_names l.slot-items)) n
    × IsTrue (has_row l.created (slot_at (target_at l.fn.self.rows l.t).slots n)))
    l.names.items
