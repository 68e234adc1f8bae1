use Rattle.std.proofs.Common.{◌∙◌}
use Rattle.redodb_model.specs.Names.{text_at}
use Rattle.redodb_live.proofs.Asking.{end_is_last}
use Rattle.redodb_live.proofs.asked.end_name.Goals as goal

pub returns-in-Some : goal.returns-in-Some
returns-in-Some c =
    c.text.ensures
    ∙ end_is_last (text_at c.args.names.now) c.args.t.now c.args.chain.now c.in-Some.n.now
    c.in-Some.ensures.value
