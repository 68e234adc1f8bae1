-- The value of a memo's fields, and their invariant.
use Rattle.std.specs.Prelude.{Bool, List}
use Rattle.redodb_memo.specs.NameSet.{size_of}
use Rattle.redodb_memo.specs.Support.NameSet.{IsCleared}
use Rattle.redodb_memo.specs.declared.memo.Memo.TheInside.{Inside}

abbrev pub memo_of : Inside → List Bool
memo_of inside = inside.out.marks

-- between two calls the region, and the list of its out-of-date names, are empty
pub record KeepsMemo (inside : Inside) : Type 0 where
  pub region : IsCleared (size_of inside.out) inside.region
  pub outdated : IsCleared (size_of inside.out) inside.outdated
