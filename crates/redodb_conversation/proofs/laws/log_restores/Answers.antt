use Rattle.redodb_conversation.proofs.LawfulTalks.{logged_leave_state, restores_all}
use Rattle.redodb_conversation.proofs.laws.log_restores.Goals as goal

pub returns-clause-log : goal.returns-clause-log
returns-clause-log c = restores_all

pub returns-clause-state : goal.returns-clause-state
returns-clause-state c = logged_leave_state
