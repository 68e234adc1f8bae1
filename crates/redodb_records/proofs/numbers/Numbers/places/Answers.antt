use Rattle.std.proofs.Common.{sym, subst}
use Rattle.redodb_records.specs.Numbers.{Rising, numbers_there}
use Rattle.redodb_records.proofs.Places.{there_rises}
use Rattle.redodb_records.proofs.numbers.Numbers.places.Goals as goal

pub returns-clause-ascending : goal.returns-clause-ascending
returns-clause-ascending c =
    subst (λ ps. Rising (numbers_there ps)) (sym c.as_slice.ensures.value)
    (there_rises c.self.inside.places.items c.self.invariant)
