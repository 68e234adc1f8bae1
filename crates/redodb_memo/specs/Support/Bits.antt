-- Which numbers below a count are in a set: a flag for each.
use Rattle.std.specs.Prelude.{◌<◌, ℕ, Bool, List}
use Rattle.redodb_model.specs.Names.{IsListed, by_number}
use Rattle.redodb_memo.specs.Bits.{IsSet}

-- the numbers of the set below this one, ascending
abbrev pub IsListedBelow : List Bool → ℕ → List ℕ → Type 0
IsListedBelow flags end = IsListed by_number (λ t. (t < end) × IsSet flags t)
