-- How a legal placed history can be extended.
use Rattle.std.specs.Prelude.{ℕ, ◌+◌, cond, List, [], ◌∷◌, ◌++◌, map}
use Rattle.redodb_model.specs.Names.{Naming}
use Rattle.redodb_model.specs.History.{Legal}
use Rattle.redodb_model.specs.Placed.{Place, PlacedLine, line_of, is_grant, is_release, IsPlaced}

module _ {N : Type 0} (naming : Naming N) where
  -- with this line at the end the history is placed and legal
  abbrev pub GoesOnBy : List (PlacedLine N) → PlacedLine N → Type 0
  GoesOnBy lines line =
      let more = lines ++ line ∷ [] in IsPlaced naming more × Legal naming (map line_of more)

  -- by how much a line increases the claim word of t
  abbrev pub moved_by : Place N → N → ℕ
  moved_by place t = cond (is_grant naming t place) 1 0 + cond (is_release naming t place) 1 0
