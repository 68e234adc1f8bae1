-- What a session's own lines say of its locks.
use Rattle.std.specs.Prelude.{◌+◌, Bool, false, List, Option, Some, None, ◌==◌}
use Rattle.redodb_model.specs.Names.{Naming}
use Rattle.redodb_model.specs.Placed.{PlacedLine, grants_in, releases_in}

module _ {N : Type 0} (naming : Naming N) where
  -- whether a session with these lines holds the target: it was granted once more than released
  abbrev pub holds_by : List (PlacedLine N) → Option N → Bool
  holds_by own None = false
  holds_by own (Some t) = grants_in naming own t == releases_in naming own t + 1
