use Rattle.redodb_model.proofs.Region.{as_before_outside}
use Rattle.redodb_model.proofs.regions.outside_region_as_before.Goals as goal

pub returns : goal.returns
returns c seeds old new t differ out = as_before_outside differ t out
