-- Readers and writers that count their failures.
use Rattle.std.specs.Prelude.{ℕ, ◌==◌, Bool, not}
use Rattle.redodb_io.specs.declared.watched.Watched.{Watched}

-- how many calls of it failed; after 2^64 - 1 comes 1, so it is 0 only if none failed
abbrev pub failures_of : {T : Type 0} → Watched T → ℕ
failures_of watched = watched.failures

-- whether a call failed between the two counts, if at most one of these calls did
abbrev pub has_failed : {T : Type 0} → Watched T → Watched T → Bool
has_failed old new = not (failures_of new == failures_of old)

-- the reader or writer itself
abbrev pub inner_of : {T : Type 0} → Watched T → T
inner_of watched = watched.inner
