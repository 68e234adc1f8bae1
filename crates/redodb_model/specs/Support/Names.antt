-- The invariant of a naming.
use Rattle.std.specs.Prelude.{◌≡◌, ◌≢◌, Decides}
use Rattle.std.specs.declared.cmp.Ordering.TheVariants.{Less}
use Rattle.redodb_model.specs.Names.{Naming}

-- the invariant of a naming: the test tells equal names, and the order is strict
pub record IsNaming {N : Type 0} (naming : Naming N) : Type 0 where
  pub decides : (m n : N) → Decides (naming.same m n) (m ≡ n)
  pub irreflexive : (n : N) → naming.order n n ≢ Less
  pub transitive : (l m n : N) → naming.order l m ≡ Less → naming.order m n ≡ Less
      → naming.order l n ≡ Less
