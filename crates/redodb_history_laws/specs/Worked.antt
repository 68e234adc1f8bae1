-- Placed histories that were worked out by hand, as a check of the definitions.
use Rattle.std.specs.Prelude.{ℕ, zero, suc, false, List, [], ◌∷◌, ◌++◌, codes}
use Rattle.std.specs.Ordering.{nat_cmp}
use Rattle.redodb_model.specs.Names.{Text, Naming, numbers}
use Rattle.redodb_model.specs.Command.{Command, Item, File, Lock, Unlock, Start, Failed}
use Rattle.redodb_model.specs.Reply.{Reply, Okay}
use Rattle.redodb_model.specs.Reply as replies
use Rattle.redodb_model.specs.Placed.{Place, Row, Granted, Released, PlacedLine}
use Rattle.redodb_model.specs.Support.Guarded.{plain_line}
use Rattle.redodb_model.specs.Support.Merging.{placed_at, shared}

-- numbers as names, in their order
abbrev pub by_number : Naming ℕ
by_number = numbers nat_cmp

abbrev pub numbered_at : ℕ → ℕ → Command ℕ → Reply ℕ → Place ℕ → PlacedLine ℕ
numbered_at session number command reply place =
    record { session = session; number = number; command = command; reply = reply; place = place }

abbrev pub item_of : Command ℕ → Item ℕ
item_of command = record { guarded = false; command = command }

-- the first session reports a file, locks a target and starts it; the second reports a file
abbrev pub two_scripts : ℕ → List (Item ℕ)
two_scripts zero = item_of (File 0 (codes "1")) ∷ item_of (Lock 1) ∷ item_of (Start 1) ∷ []
two_scripts (suc zero) = item_of (File 2 (codes "1")) ∷ []
two_scripts (suc (suc s)) = []

abbrev pub three_rows : List (PlacedLine ℕ)
three_rows =
    numbered_at 0 0 (File 0 (codes "1")) Okay (Row 0)
    ∷ numbered_at 0 1 (Lock 1) (replies.Granted 1) (Granted 1 1)
    ∷ numbered_at 1 0 (File 2 (codes "1")) Okay (Row 1)
    ∷ numbered_at 0 2 (Start 1) Okay (Row 2)
    ∷ []

-- the first session locks a target and starts it, the second locks it; each script ends there
abbrev pub broken_off : ℕ → List (Item ℕ)
broken_off zero = item_of (Lock 0) ∷ item_of (Start 0) ∷ []
broken_off (suc zero) = item_of (Lock 0) ∷ []
broken_off (suc (suc s)) = []

-- the first fails and releases the target, then the second locks it
abbrev pub let_go : List (PlacedLine ℕ)
let_go =
    numbered_at 0 0 (Lock 0) (replies.Granted 1) (Granted 0 1)
    ∷ numbered_at 0 1 (Start 0) Okay (Row 0)
    ∷ numbered_at 0 2 (Failed 0) Okay (Row 1)
    ∷ numbered_at 0 3 (Unlock 0) Okay (Released 0 1)
    ∷ numbered_at 1 0 (Lock 0) (replies.Granted 2) (Granted 0 2)
    ∷ numbered_at 1 1 (Unlock 0) Okay (Released 0 2)
    ∷ []

-- a session's closing command fails a build
abbrev pub closing_row : ℕ → ℕ → ℕ → PlacedLine ℕ
closing_row session number t = numbered_at session number (Failed t) Okay (Row 0)

-- the session's first command, a lock
abbrev pub one_lock : ℕ → Text → PlacedLine Text
one_lock session t = placed_at session 0 (Lock t) (replies.Granted 1) (Granted t 1)

-- two sessions that lock a name each, in both orders
abbrev pub two_locks : List (PlacedLine Text)
two_locks = one_lock 0 (codes "a") ∷ one_lock 1 (codes "b") ∷ []

abbrev pub two_locks_turned : List (PlacedLine Text)
two_locks_turned = one_lock 1 (codes "b") ∷ one_lock 0 (codes "a") ∷ []

-- a script that locks and unlocks the target
abbrev pub one_hold : List (Item Text)
one_hold = plain_line (Lock shared) ∷ plain_line (Unlock shared) ∷ []

-- the same in the other order
abbrev pub one_hold_turned : List (Item Text)
one_hold_turned = plain_line (Unlock shared) ∷ plain_line (Lock shared) ∷ []

-- and one line more
abbrev pub one_hold_and_more : List (Item Text)
one_hold_and_more = one_hold ++ plain_line (Lock shared) ∷ []
