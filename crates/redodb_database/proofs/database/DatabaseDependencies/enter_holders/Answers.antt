use Rattle.std.proofs.Common.{inl, inr}
use Rattle.redodb_model.specs.OutOfDate.{IsTarget, HasRow}
use Rattle.redodb_records.specs.Rows.{with_rows}
use Rattle.redodb_memo.proofs.Marking.{enters_then}
use Rattle.redodb_database.proofs.database.DatabaseDependencies.enter_holders.Goals as goal

pub returns : goal.returns
returns c =
    let r = with_rows c.args.self.now.records.now c.args.self.now.rows.now in
    enters_then (λ t. IsTarget r t × HasRow r t c.args.n) (λ t. (
      λ h. elim h.1 [
        | inl change ↦ inl (h.0, change)
        | inr created ↦ inr (h.0, (c.awaited_by.ensures.listed.1 t).1 created)
      ],
      λ s. elim s [
        | inl d ↦ (d.0, inl d.1)
        | inr w ↦ (w.0, inr ((c.awaited_by.ensures.listed.1 t).0 w.1))
      ],
    )) c.enter_dependents.ensures c.enter_targets.ensures
