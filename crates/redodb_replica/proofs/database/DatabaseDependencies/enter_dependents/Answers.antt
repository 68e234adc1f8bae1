use Rattle.std.proofs.Common.{inl, inr, subst}
use Rattle.std.proofs.lemmas.Bool.{false≢true}
use Rattle.redodb_model.specs.OutOfDate.{Depends}
use Rattle.redodb_memo.specs.NameSet.{Enters}
use Rattle.redodb_replica.specs.Replicas.{records_in}
use Rattle.redodb_replica.specs.Support.Fits.{DatabaseOf}
use Rattle.redodb_replica.proofs.Walks.{enters_alike}
use Rattle.redodb_replica.proofs.database.DatabaseDependencies.enter_dependents.Goals as goal

pub returns : goal.returns
returns c =
    subst
    (λ (it : DatabaseOf). Enters
    (λ t. Depends (records_in it.graph.tables it.cells it.rows) t c.args.n)
    c.args.marks.now c.enter_holders.new.marks)
    c.self.view_is
    (enters_alike
    (λ t. (
      λ h. (h.0, elim h.1 [ inl change ↦ change | inr made ↦ absurd (false≢true made.0) ]),
      λ d. (d.0, inl d.1),
    )) c.enter_holders.ensures)
