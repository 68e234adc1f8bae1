use Rattle.std.proofs.Common.{ℕ, Option, IfSome, ◌<◌, length, sym, subst}
use Rattle.redodb_replica.specs.Replicas.{records_in}
use Rattle.redodb_replica.specs.Support.Seeds.{IsSeed}
use Rattle.redodb_replica.proofs.Seeds.{seed_below, seed_is}
use Rattle.redodb_replica.proofs.seed.seed_of.Goals as goal

pub returns-clause-below : goal.returns-clause-below
returns-clause-below c =
    subst (λ (seed : Option ℕ). IfSome seed (λ n. n < length c.args.cells.now))
    (sym c.name_of.ensures)
    (seed_below c.requires.0 (length c.args.cells.now) c.args.step.now c.requires.1)

pub returns-clause-seed : goal.returns-clause-seed
returns-clause-seed c = λ tables rows.
    subst (IsSeed tables c.args.step.now (records_in tables c.args.cells.now rows))
    (sym c.name_of.ensures)
    (λ s. seed_is tables (records_in tables c.args.cells.now rows) s c.args.step.now)
