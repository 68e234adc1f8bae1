-- The invariant of a list of names, and how it grows.
use Rattle.std.specs.Prelude.{◌≡◌, ◌↔◌, ℕ, ◌<◌, ◌≤◌, ◌^◌, List, ◌++◌, length, take, bytes_eq, Some, slice_get, String}
use Rattle.std.specs.Global.{Global}
use Rattle.std.specs.HashMap.{HashMap, get_by_text}
use Rattle.std.specs.List.{IsDistinct}
use Rattle.redodb_names.specs.Names.{AreAllNames}

-- the old names are a prefix of the new ones, so they keep their numbers
pub record Extends (old new : List (List ℕ)) : Type 0 where
  pub more : List (List ℕ)
  pub is : new ≡ old ++ more

-- fewer than 2^32 texts, no two of them equal, and each of them a name
pub record AreNames (names : List (List ℕ)) : Type 0 where
  pub few : length names < 2 ^ 32
  pub distinct : IsDistinct bytes_eq names
  pub each : AreAllNames names

-- the first `count` of the texts are names, and the map has the number of each and no more
pub record AreNumbered {S : Type 0} (numbers : HashMap (String Global) ℕ S) (count : ℕ)
    (texts : List (List ℕ)) : Type 0 where
  pub are : AreNames (take count texts)
  pub long : count ≤ length texts
  pub found : (number : ℕ) (text : List ℕ) → slice_get (take count texts) number ≡ Some text
      ↔ get_by_text numbers text ≡ Some number
