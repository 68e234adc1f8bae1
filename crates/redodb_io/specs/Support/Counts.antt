-- How failures are counted.
use Rattle.std.specs.Prelude.{ℕ, ◌+◌, ◌==◌, Bool, cond, not}
use Rattle.redodb_io.specs.Watched.{failures_of}
use Rattle.redodb_io.specs.declared.watched.Watched.{Watched}

-- the count after one failure more
abbrev pub one_more : ℕ → ℕ
one_more failures = cond (failures == 18446744073709551615) 1 (failures + 1)

-- the count after a call that failed, or did not
abbrev pub counted : Bool → ℕ → ℕ
counted failed failures = cond failed (one_more failures) failures

-- whether a call of it failed
abbrev pub is_faulted : {T : Type 0} → Watched T → Bool
is_faulted watched = not (failures_of watched == 0)
