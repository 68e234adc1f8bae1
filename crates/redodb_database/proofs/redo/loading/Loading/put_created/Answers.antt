use Rattle.std.proofs.Common.{◌≡◌, ◌∙◌, ap}
use Rattle.redodb_records.specs.Rows.{rows_of, with_created}
use Rattle.redodb_database.specs.Support.Parts.{Parts}
use Rattle.redodb_database.proofs.redo.loading.Loading.put_created.Goals as goal

pub returns-clause-rows : goal.returns-clause-rows
returns-clause-rows c =
    let reserved : rows_of c.reserve.new.self ≡ rows_of c.args.self.now.rows =
    c.in_ok-reserve.ensures.rows ∙ ap (λ (parts : Parts). rows_of parts.rows) c.self.view_is in
    c.put_created.ensures.rows ∙ λ i. with_created (reserved i) c.args.t c.args.n
