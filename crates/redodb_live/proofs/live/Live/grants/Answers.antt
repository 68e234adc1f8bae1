use Rattle.std.proofs.Common.{◌≡◌, ◌<◌, ◌∙◌, length, sym, subst}
use Rattle.redodb_model.specs.Names.{text_at}
use Rattle.redodb_model.proofs.RecordsByName.{value_at_name}
use Rattle.redodb_database.specs.Tables.{locks_of}
use Rattle.redodb_live.specs.Support.LiveState.{LiveState, state_in}
use Rattle.redodb_live.proofs.Answering.{renaming}
use Rattle.redodb_live.proofs.live.Live.grants.Goals as goal

pub returns : goal.returns
returns c =
    let n = c.args.n in
    let below = subst (λ (l : LiveState). n < length l.names) (sym c.self.view_is) c.requires in
    let named = value_at_name (renaming c.self.inside.names c.are_names.ensures) 0
    (locks_of c.self.inside.redo).grants n below in
    subst (λ (l : LiveState). c.grants.result ≡ (state_in l).locks.grants (text_at l.names n))
    c.self.view_is (c.grants.ensures ∙ sym named)
