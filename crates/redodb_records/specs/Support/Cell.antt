-- What a cell of the code means.
use Rattle.std.specs.Prelude.{◌≡◌}
use Rattle.std.proofs.Common.{ap}
use Rattle.redodb_model.specs.State as states
use Rattle.redodb_records.specs.declared.kept_state.KeptState.{KeptState}
use Rattle.redodb_records.specs.declared.cell.Cell.TheInside.{Inside}
use Rattle.redodb_records.specs.Support.KeptState.{kept_state_of, kept_state_for, kept_state_for-kept_state_of}

abbrev pub cell_of : Inside → states.Cell
cell_of c = record {
  file = c.file;
  state = kept_state_of c.state;
  builds = c.builds;
  done = c.done;
  digest = c.digest;
}

-- the fields that mean it
abbrev pub fields_for : states.Cell → Inside
fields_for c = record {
  file = c.file;
  state = kept_state_for c.state;
  builds = c.builds;
  done = c.done;
  digest = c.digest;
}

-- a cell's meaning gives its fields back
pub fields_for-cell_of : (c : Inside) → fields_for (cell_of c) ≡ c
fields_for-cell_of c =
    ap (λ (kept : KeptState). record c { state = kept }) (kept_state_for-kept_state_of c.state)
