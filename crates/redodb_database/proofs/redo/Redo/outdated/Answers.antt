use Rattle.std.proofs.Common.{IsTrue, subst}
use Rattle.std.proofs.lemmas.Result.{IfOk-weaker}
use Rattle.redodb_model.specs.OutOfDate.{OutOfDate}
use Rattle.redodb_memo.specs.Memo.{IsRight, is_out}
use Rattle.redodb_model.specs.Names.{by_number}
use Rattle.redodb_database.specs.Tables.{Tables, tables_records}
use Rattle.redodb_names.proofs.Listed.{listed_alike}
use Rattle.redodb_database.proofs.redo.Redo.outdated.Goals as goal

pub returns-clause-listed : goal.returns-clause-listed
returns-clause-listed c =
    let memo = c.self.inside.memo in
    let right = subst (λ (t : Tables). IsRight memo (tables_records t)) c.self.view_is
    c.self.invariant.memo_right in
    IfOk-weaker c.list.result _ _ (λ out listed.
    listed_alike by_number out.items (λ n. IsTrue (is_out memo n))
    (OutOfDate (tables_records c.args.self.now))
    right listed)
    c.list.ensures.listed
