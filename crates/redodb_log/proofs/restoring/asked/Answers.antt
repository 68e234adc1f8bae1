use Rattle.redodb_log.proofs.Asked.{is_session_word, same_session, has_arrow, same_wanted}
use Rattle.redodb_log.proofs.restoring.asked.Goals as goal

pub returns-in_err-session-clause-found : goal.returns-in_err-session-clause-found
returns-in_err-session-clause-found c session wanted command few is asks =
    absurd (c.in_err-session.ensures session (is_session_word c.args.text.now
    c.cut_at_space.result.0.now c.cut_at_space.result.1.now wanted session few
    c.cut_at_space.ensures asks))

pub returns-in_err-command-clause-found : goal.returns-in_err-command-clause-found
returns-in_err-command-clause-found c session wanted command few is asks =
    absurd (has_arrow c.args.text.now c.cut_at_space.result.0.now c.cut_at_space.result.1.now wanted
    session few c.cut_at_space.ensures asks c.in_err-command.ensures)

pub returns-clause-found : goal.returns-clause-found
returns-clause-found c session wanted command few is asks = (
  same_session c.args.text.now c.cut_at_space.result.0.now c.cut_at_space.result.1.now wanted
      session
      few c.cut_at_space.ensures asks c.in_ok-session.session c.in_ok-session.ensures,
  same_wanted c.args.text.now c.cut_at_space.result.0.now c.cut_at_space.result.1.now wanted session
      few c.cut_at_space.ensures asks command c.in_ok-command.command.now
      c.in_ok-command.field-0-1.now is c.in_ok-command.ensures,
)
