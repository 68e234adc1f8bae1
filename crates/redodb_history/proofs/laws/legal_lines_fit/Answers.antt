use Rattle.redodb_history.proofs.LinesFit.{legal_lines_fit}
use Rattle.redodb_history.proofs.laws.legal_lines_fit.Goals as goal

pub returns-clause-form : goal.returns-clause-form
returns-clause-form c most lines legal said few = (legal_lines_fit most lines legal said few).forms

pub returns-clause-names : goal.returns-clause-names
returns-clause-names c most lines legal said few =
    (legal_lines_fit most lines legal said few).same_names
