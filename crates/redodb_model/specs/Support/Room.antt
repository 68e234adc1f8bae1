-- How many lines a session can have: those of its script, and the closing lines of what it locked
-- and started.
use Rattle.std.specs.Prelude.{ℕ, ◌+◌, Bool, true, false, List, length, count_by}
use Rattle.redodb_model.specs.Command.{Command, Item, Lock, Start, Failed}

abbrev pub is_lock : {N : Type 0} → Command N → Bool
is_lock (Lock t) = true
is_lock command = false

abbrev pub is_start : {N : Type 0} → Command N → Bool
is_start (Start t) = true
is_start command = false

abbrev pub is_failed : {N : Type 0} → Command N → Bool
is_failed (Failed t) = true
is_failed command = false

-- how many lines of the script lock, and how many start a build
abbrev pub locks_in : {N : Type 0} → List (Item N) → ℕ
locks_in script = count_by (λ item. is_lock item.command) script

abbrev pub starts_in : {N : Type 0} → List (Item N) → ℕ
starts_in script = count_by (λ item. is_start item.command) script

-- each lock can need an unlock, and each start a failed
abbrev pub room_of : {N : Type 0} → List (Item N) → ℕ
room_of script = length script + locks_in script + starts_in script
