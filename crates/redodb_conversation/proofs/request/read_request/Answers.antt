use Rattle.std.proofs.Common.{sym, ◌∙◌}
use Rattle.std.proofs.lemmas.Slice.Eq.{bytes_eq-Decides}
use Rattle.redodb_conversation.proofs.request.read_request.Goals as goal

pub returns-then-eq : goal.returns-then-eq
returns-then-eq c =
    (bytes_eq-Decides c.args.text.now c.as_slice.result.now).0 (sym c.if-eq.ensures)
    ∙ c.as_slice.ensures

pub returns-then-eq-2 : goal.returns-then-eq-2
returns-then-eq-2 c =
    (bytes_eq-Decides c.args.text.now c.as_slice-2.result.now).0 (sym c.if-eq-2.ensures)
    ∙ c.as_slice-2.ensures
