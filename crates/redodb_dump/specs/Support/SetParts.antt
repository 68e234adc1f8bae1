-- The parts of a database for which the first names were set.
use Rattle.std.specs.Prelude.{ℕ, ◌<◌, ◌≤◌, IfSome}
use Rattle.redodb_model.specs.State.{State}
use Rattle.redodb_database.specs.Support.Parts.{Parts, state_made}

-- none of the first `count` names was built or granted more often
pub record HasNumbersUpTo (count : ℕ) (st : State ℕ) (most : ℕ) : Type 0 where
  pub builds : (n : ℕ) → n < count → (st.records.cell n).builds ≤ most
  pub grants : (n : ℕ) → n < count → st.locks.grants n ≤ most

-- the holders are sessions that a conversation can have, and the first `count` names have no smaller bound
pub record AreSetUpTo (parts : Parts) (count : ℕ) : Type 0 where
  pub sessions : (k : ℕ) → IfSome ((state_made parts).locks.holder k) (λ s. s < 65535)
  pub least : (most : ℕ) → HasNumbersUpTo count (state_made parts) most → parts.most ≤ most
