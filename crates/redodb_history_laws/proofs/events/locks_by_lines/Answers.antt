use Rattle.redodb_model.proofs.Texts.{texts_are_names}
use Rattle.redodb_history_laws.proofs.EndMore.{locks_told}
use Rattle.redodb_history_laws.proofs.events.locks_by_lines.Goals as goal

pub returns-clause-grants : goal.returns-clause-grants
returns-clause-grants c lines t placed legal = (locks_told texts_are_names lines placed legal t).0

pub returns-clause-holders : goal.returns-clause-holders
returns-clause-holders c lines t s placed legal =
    (locks_told texts_are_names lines placed legal t).1 s
