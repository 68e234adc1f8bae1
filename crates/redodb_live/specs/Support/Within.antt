-- States that know only some numbers.
use Rattle.std.specs.Prelude.{◌≡◌, ℕ, ◌≤◌, false, None}
use Rattle.redodb_model.specs.State.{State}
use Rattle.redodb_model.specs.Support.Renaming.{IsWithin}

-- nothing is known of numbers from n on
pub record IsStateWithin (n : ℕ) (st : State ℕ) : Type 0 where
  pub records : IsWithin n st.records
  pub always : (k : ℕ) → n ≤ k → st.records.rows.always k ≡ false
  pub holder : (k : ℕ) → n ≤ k → st.locks.holder k ≡ None
  pub grants : (k : ℕ) → n ≤ k → st.locks.grants k ≡ 0
