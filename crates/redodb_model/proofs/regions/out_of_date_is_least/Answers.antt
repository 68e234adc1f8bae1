use Rattle.redodb_model.proofs.Region.{out_of_date_by_step, least_along}
use Rattle.redodb_model.proofs.regions.out_of_date_is_least.Goals as goal

pub returns-clause-dependents : goal.returns-clause-dependents
returns-clause-dependents c = out_of_date_by_step

pub returns-clause-least : goal.returns-clause-least
returns-clause-least c records has reasons spreads t is =
    least_along records has reasons spreads is.0 t is.1
