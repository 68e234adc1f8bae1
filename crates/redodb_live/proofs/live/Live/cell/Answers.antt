use Rattle.std.proofs.Common.{◌≡◌, ◌<◌, ◌∙◌, length, sym, subst, arith}
use Rattle.redodb_model.specs.Names.{text_at}
use Rattle.redodb_model.proofs.RecordsByName.{cell_at_name}
use Rattle.redodb_database.specs.Tables.{tables_records}
use Rattle.redodb_live.specs.Support.LiveState.{LiveState, state_in}
use Rattle.redodb_live.proofs.Answering.{renaming}
use Rattle.redodb_live.proofs.live.Live.cell.Goals as goal

pub returns-then-n-count : goal.returns-then-n-count
returns-then-n-count c =
    let n = c.args.n in
    let below = subst (λ (l : LiveState). n < length l.names) (sym c.self.view_is) c.requires in
    let named = cell_at_name (renaming c.self.inside.names c.are_names.ensures)
    (tables_records c.self.inside.redo) n below in
    subst (λ (l : LiveState).
    c.cell.result.now ≡ (state_in l).records.cell (text_at l.names n)) c.self.view_is
    (c.cell.ensures ∙ sym named)

pub returns-else-n-count : goal.returns-else-n-count
returns-else-n-count c =
    let n = c.args.n in
    let unknown = c.count.ensures.others n
    (omega (arith, c.if-n-count.false, c.count.ensures.count)) in
    let below = subst (λ (l : LiveState). n < length l.names) (sym c.self.view_is) c.requires in
    let named = cell_at_name (renaming c.self.inside.names c.are_names.ensures)
    (tables_records c.self.inside.redo) n below in
    subst (λ (l : LiveState).
    c.idle.result ≡ (state_in l).records.cell (text_at l.names n)) c.self.view_is
    (c.idle.ensures ∙ sym unknown.cell ∙ sym named)
