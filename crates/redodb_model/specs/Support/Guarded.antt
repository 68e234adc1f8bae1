-- A script with guarded lines, and what it does if its lock is granted and if it is busy.
use Rattle.std.specs.Prelude.{true, false, List, [], ◌∷◌, codes}
use Rattle.redodb_model.specs.Names.{Text}
use Rattle.redodb_model.specs.Command.{Command, Item, Lock, Unlock, Start, IfChange, Failed}
use Rattle.redodb_model.specs.Reply.{NotLocked, Okay, Stale, Refused}
use Rattle.redodb_model.specs.Reply as replies
use Rattle.redodb_model.specs.Placed.{Row, Granted, Busy, Released, PlacedLine}
use Rattle.redodb_model.specs.Support.Merging.{shared, placed_at}

abbrev pub plain_line : Command Text → Item Text
plain_line command = record { guarded = false; command = command }

abbrev pub guarded_line : Command Text → Item Text
guarded_line command = record { guarded = true; command = command }

abbrev pub needs : Command Text
needs = IfChange shared (codes "a" ∷ [])

-- it builds the target if it gets the lock
abbrev pub guarded_script : List (Item Text)
guarded_script =
    plain_line (Lock shared)
    ∷ guarded_line (Start shared)
    ∷ guarded_line needs
    ∷ guarded_line (Failed shared)
    ∷ plain_line (Unlock shared)
    ∷ []

-- it gets it: a stale reply stops no guarded line
abbrev pub with_lock : List (PlacedLine Text)
with_lock =
    placed_at 0 0 (Lock shared) (replies.Granted 1) (Granted shared 1)
    ∷ placed_at 0 1 (Start shared) Okay (Row 0)
    ∷ placed_at 0 2 needs (Stale (codes "a" ∷ [])) (Row 1)
    ∷ placed_at 0 3 (Failed shared) Okay (Row 2)
    ∷ placed_at 0 4 (Unlock shared) Okay (Released shared 1)
    ∷ []

-- another session holds it: all three guarded lines are skipped
abbrev pub without_lock : List (PlacedLine Text)
without_lock =
    placed_at 1 0 (Lock shared) (replies.Busy 1) (Busy shared 1)
    ∷ placed_at 1 4 (Unlock shared) (Refused NotLocked) (Row 0)
    ∷ []

-- the second of them isn't done
abbrev pub needs_all_the_same : List (PlacedLine Text)
needs_all_the_same =
    placed_at 1 0 (Lock shared) (replies.Busy 1) (Busy shared 1)
    ∷ placed_at 1 2 needs (Stale (codes "a" ∷ [])) (Row 0)
    ∷ []
