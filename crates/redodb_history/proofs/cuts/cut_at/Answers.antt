use Rattle.std.proofs.Common.{sym, ◌∙◌}
use Rattle.redodb_history.proofs.TextCuts.{not_placed, cut_at_place}
use Rattle.redodb_history.proofs.cuts.cut_at.Goals as goal

pub returns-in_err-at : goal.returns-in_err-at
returns-in_err-at c =
    rw c.from_residual.ensures
    (not_placed c.args.text.now c.args.byte (sym c.position_of.ensures ∙ c.in_err-at.was))

pub returns : goal.returns
returns c =
    cut_at_place c.args.text.now c.args.byte c.in_ok-at.at (sym c.position_of.ensures
    ∙ c.in_ok-at.was)
