-- What is known of a name, by numbers of entries of two tables: of stamps and of digests.
use Rattle.std.specs.Prelude.{ℕ, ◌<◌, false, List, [], None, ⊤, IfSome, option_map, length, slice_index_or}
use Rattle.redodb_model.specs.Names.{Text}
use Rattle.redodb_model.specs.State as states
use Rattle.redodb_replica.specs.declared.state.CompactState.{CompactState}
use Rattle.redodb_replica.specs.declared.state.CompactState.TheVariants as coded
use Rattle.redodb_replica.specs.declared.mark.Mark.{Mark}
use Rattle.redodb_replica.specs.declared.mark.Mark.TheVariants.{Absent, Pending, File, Digest, Builds}
use Rattle.redodb_replica.specs.declared.cell.CompactCell.{CompactCell}

-- the entry with this number
abbrev pub entry_of : List Text → ℕ → Text
entry_of table i = slice_index_or table i []

-- what the state stands for
abbrev pub compact_state_of : CompactState → states.TargetState
compact_state_of coded.Idle = states.Idle
compact_state_of (coded.Building session) = states.Building session
compact_state_of coded.Built = states.Built
compact_state_of coded.Failed = states.Failed

-- what the cell says of its name
abbrev pub cell_of : List Text → List Text → CompactCell → states.Cell
cell_of stamps digests cell = record {
  file = option_map (entry_of stamps) cell.file;
  state = compact_state_of cell.state;
  builds = cell.builds;
  done = option_map (entry_of stamps) cell.done;
  digest = option_map (entry_of digests) cell.digest;
}

-- a name that no command reported
abbrev pub idle_cell : CompactCell
idle_cell = record {
  file = None;
  done = None;
  digest = None;
  builds = 0;
  state = coded.Idle;
  always = false;
}

-- what is known of the name with this number
abbrev pub cell_at : List CompactCell → ℕ → CompactCell
cell_at cells n = slice_index_or cells n idle_cell

-- what the mark stands for
abbrev pub mark_for : List Text → List Text → Mark → states.Mark
mark_for stamps digests Absent = states.Absent
mark_for stamps digests Pending = states.Pending
mark_for stamps digests (File i) = states.File (entry_of stamps i)
mark_for stamps digests (Digest i) = states.Digest (entry_of digests i)
mark_for stamps digests (Builds builds) = states.Builds builds

-- the tables have an entry with the mark's number
abbrev pub HasEntry : List Text → List Text → Mark → Type 0
HasEntry stamps digests Absent = ⊤
HasEntry stamps digests Pending = ⊤
HasEntry stamps digests (File i) = i < length stamps
HasEntry stamps digests (Digest i) = i < length digests
HasEntry stamps digests (Builds builds) = ⊤

-- the tables have an entry for each number of the cell
pub record HasEntries (stamps digests : List Text) (cell : CompactCell) : Type 0 where
  pub file : IfSome cell.file (λ i. i < length stamps)
  pub done : IfSome cell.done (λ i. i < length stamps)
  pub digest : IfSome cell.digest (λ i. i < length digests)
