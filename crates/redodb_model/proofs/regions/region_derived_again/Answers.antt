use Rattle.redodb_model.proofs.Region.{derived_along}
use Rattle.redodb_model.proofs.regions.region_derived_again.Goals as goal

pub returns : goal.returns
returns c seeds old new has differ outside reasons spreads t is =
    derived_along differ has outside reasons spreads is.0 t is.1
