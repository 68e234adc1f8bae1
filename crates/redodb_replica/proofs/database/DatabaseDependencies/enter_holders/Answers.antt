use Rattle.std.proofs.Common.{refl, inl, inr, subst}
use Rattle.redodb_model.specs.OutOfDate.{IsTarget, HasRow}
use Rattle.redodb_memo.specs.NameSet.{Enters}
use Rattle.redodb_replica.specs.Replicas.{records_in}
use Rattle.redodb_replica.specs.Support.Fits.{DatabaseOf}
use Rattle.redodb_replica.proofs.Walks.{enters_alike}
use Rattle.redodb_replica.proofs.database.DatabaseDependencies.enter_holders.Goals as goal

pub returns : goal.returns
returns c =
    subst
    (λ (it : DatabaseOf). Enters
    (λ t. IsTarget (records_in it.graph.tables it.cells it.rows) t
    × HasRow (records_in it.graph.tables it.cells it.rows) t c.args.n)
    c.args.marks.now c.enter_holders.new.marks)
    c.self.view_is
    (enters_alike
    (λ t. (
      λ h. (h.0, elim h.1 [ inl change ↦ inl change | inr made ↦ inr made.1 ]),
      λ d. (d.0, elim d.1 [ inl change ↦ inl change | inr made ↦ inr (refl, made) ]),
    )) c.enter_holders.ensures)
