-- What is known of the names, by their numbers.
use Rattle.std.specs.Prelude.{◌≡◌, ◌≢◌, ℕ, List, slice_index_or, slice_set}
use Rattle.redodb_model.specs.State.{Cell, Built, idle}

-- what is known of the name with this number
abbrev pub cell_at : List Cell → ℕ → Cell
cell_at cells n = slice_index_or cells n idle

-- the same but for the name with this number
abbrev pub with_cell_at : List Cell → ℕ → Cell → List Cell
with_cell_at cells n c = slice_set cells n c

-- the name is built, and its file differs from the one that its last done gave
abbrev pub IsBuiltAndEdited : Cell → Type 0
IsBuiltAndEdited c = (c.state ≡ Built) × (c.file ≢ c.done)
