-- Names of which nothing is known.
use Rattle.std.specs.Prelude.{◌≡◌, false, None}
use Rattle.redodb_model.specs.State.{State, idle}

-- the name is idle, without a file, rows and holder
pub record IsUnknown {N : Type 0} (st : State N) (t : N) : Type 0 where
  pub cell : st.records.cell t ≡ idle
  pub change : (n : N) → st.records.rows.change t n ≡ None
  pub created : (n : N) → st.records.rows.created t n ≡ false
  pub always : st.records.rows.always t ≡ false
  pub holder : st.locks.holder t ≡ None
