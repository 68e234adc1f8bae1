use Rattle.std.proofs.Common.{ℕ, ◌<◌, List, refl, subst}
use Rattle.redodb_records.specs.Support.Kept.{has_change, has_created}
use Rattle.redodb_records.specs.Rows.{TargetRows, HasChangeRowOn, HasCreatedRowOn, rows_count, rows_of, target_at}
use Rattle.redodb_records.proofs.Inverses.{slotted_row}
use Rattle.redodb_records.proofs.rows.DepRows.are_on_names.Goals as goal

pub returns-clause-change : goal.returns-clause-change
returns-clause-change c =
    subst (λ (targets : List TargetRows). (t n : ℕ) → HasChangeRowOn (rows_of targets) t n
    → n < rows_count targets) c.self.view_is (λ t n row. c.self.invariant.below t n
    (slotted_row has_change (λ k. refl) (target_at c.self.inside.targets.items t).slots n row))

pub returns-clause-created : goal.returns-clause-created
returns-clause-created c =
    subst (λ (targets : List TargetRows). (t n : ℕ) → HasCreatedRowOn (rows_of targets) t n
    → n < rows_count targets) c.self.view_is (λ t n row. c.self.invariant.below t n
    (slotted_row has_created (λ k. refl) (target_at c.self.inside.targets.items t).slots n row))
