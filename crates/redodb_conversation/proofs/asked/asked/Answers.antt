use Rattle.redodb_conversation.proofs.Asking.{no_number_no_session}
use Rattle.redodb_conversation.proofs.asked.asked.Goals as goal

pub returns-in_err-session : goal.returns-in_err-session
returns-in_err-session c =
    rw c.from_residual-in_err-session.ensures
    (no_number_no_session c.args.line.now c.in_ok-word.word.now c.in_ok-word.text.now
    c.in_ok-word.ensures c.in_err-session.ensures)
