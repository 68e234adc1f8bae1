use Rattle.std.proofs.Common.{◌≡◌, ◌<◌, ◌∙◌, false, length, sym, subst, arith}
use Rattle.redodb_model.specs.Names.{text_at}
use Rattle.redodb_model.proofs.RecordsByName.{value_at_name}
use Rattle.redodb_database.specs.Tables.{tables_records}
use Rattle.redodb_live.specs.Support.LiveState.{LiveState, state_in}
use Rattle.redodb_live.proofs.Answering.{renaming}
use Rattle.redodb_live.proofs.live.Live.always.Goals as goal

pub returns-then-t-count : goal.returns-then-t-count
returns-then-t-count c =
    let t = c.args.t in
    let below = subst (λ (l : LiveState). t < length l.names) (sym c.self.view_is) c.requires in
    let named = value_at_name (renaming c.self.inside.names c.are_names.ensures) false
    (tables_records c.self.inside.redo).rows.always t below in
    subst (λ (l : LiveState).
    c.always.result ≡ (state_in l).records.rows.always (text_at l.names t)) c.self.view_is
    (c.always.ensures ∙ sym named)

pub returns-else-t-count : goal.returns-else-t-count
returns-else-t-count c =
    let t = c.args.t in
    let unknown = c.count.ensures.others t
    (omega (arith, c.if-t-count.false, c.count.ensures.count)) in
    let below = subst (λ (l : LiveState). t < length l.names) (sym c.self.view_is) c.requires in
    let named = value_at_name (renaming c.self.inside.names c.are_names.ensures) false
    (tables_records c.self.inside.redo).rows.always t below in
    subst (λ (l : LiveState). false ≡ (state_in l).records.rows.always (text_at l.names t))
    c.self.view_is (sym unknown.always ∙ sym named)
