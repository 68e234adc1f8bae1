-- The region of seeds, and records that differ only at them.
use Rattle.std.specs.Prelude.{◌≡◌, ◌⊎◌, List, Contains}
use Rattle.redodb_model.specs.State.{Records}
use Rattle.redodb_model.specs.OutOfDate.{IsTarget, Chain, Depends, HasRow}

-- a seed, or a target with a row on a seed
abbrev pub TouchesSeed : {N : Type 0} → Records N → List N → N → Type 0
TouchesSeed {N} r seeds t =
    Contains seeds t ⊎ (IsTarget r t × ((n : N) × Contains seeds n × HasRow r t n))

-- the region of the seeds: the seeds, the targets with a row on one, and all from which a chain leads to one of these
abbrev pub InRegion : {N : Type 0} → Records N → List N → N → Type 0
InRegion {N} r seeds t = (ns : List N) × Chain (Depends r) (TouchesSeed r seeds) t ns

-- two states that differ only in the cells and the rows of the seeds
pub record DifferAt {N : Type 0} (seeds : List N) (old new : Records N) : Type 0 where
  pub cell : (n : N) → (Contains seeds n → ⊥) → old.cell n ≡ new.cell n
  pub change : (t n : N) → (Contains seeds t → ⊥) → old.rows.change t n ≡ new.rows.change t n
  pub created : (t n : N) → (Contains seeds t → ⊥) → old.rows.created t n ≡ new.rows.created t n
  pub always : (t : N) → (Contains seeds t → ⊥) → old.rows.always t ≡ new.rows.always t
