-- What devices in memory hold.
use Rattle.std.specs.Prelude.{◌≡◌, ◌≤◌, ℕ, List, IsTrue, length, take}
use Rattle.redodb_model.specs.Names.{Text}
use Rattle.redodb_log.specs.Operations.{Operation, has_read, held_after, written_by}

-- the log and the output have these bytes by these operations, the log once it was read; its first bytes, `synced` of
-- them, were synced
abbrev pub HoldAsDone : Text → ℕ → Text → List Operation → Type 0
HoldAsDone log synced output done =
    (synced ≤ length log) × (output ≡ written_by done)
    × (IsTrue (has_read done)
    → (log ≡ (held_after done).all) × (take synced log ≡ (held_after done).synced))
