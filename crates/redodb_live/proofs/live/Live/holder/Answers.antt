use Rattle.std.proofs.Common.{◌≡◌, ◌<◌, ◌∙◌, None, length, sym, subst, arith}
use Rattle.redodb_model.specs.Names.{text_at}
use Rattle.redodb_model.proofs.RecordsByName.{value_at_name}
use Rattle.redodb_database.specs.Tables.{locks_of}
use Rattle.redodb_live.specs.Support.LiveState.{LiveState, state_in}
use Rattle.redodb_live.proofs.Answering.{renaming}
use Rattle.redodb_live.proofs.live.Live.holder.Goals as goal

pub returns-then-n-count : goal.returns-then-n-count
returns-then-n-count c =
    let n = c.args.n in
    let below = subst (λ (l : LiveState). n < length l.names) (sym c.self.view_is) c.requires in
    let named = value_at_name (renaming c.self.inside.names c.are_names.ensures) None
    (locks_of c.self.inside.redo).holder n below in
    subst (λ (l : LiveState). c.holder.result ≡ (state_in l).locks.holder (text_at l.names n))
    c.self.view_is (c.holder.ensures ∙ sym named)

pub returns-else-n-count : goal.returns-else-n-count
returns-else-n-count c =
    let n = c.args.n in
    let unknown = c.count.ensures.others n
    (omega (arith, c.if-n-count.false, c.count.ensures.count)) in
    let below = subst (λ (l : LiveState). n < length l.names) (sym c.self.view_is) c.requires in
    let named = value_at_name (renaming c.self.inside.names c.are_names.ensures) None
    (locks_of c.self.inside.redo).holder n below in
    subst (λ (l : LiveState). None ≡ (state_in l).locks.holder (text_at l.names n)) c.self.view_is
    (sym unknown.holder ∙ sym named)
