use Rattle.redodb_model.proofs.RecordsByName.{out_to_name, out_from_name}
use Rattle.redodb_model.proofs.renaming.out_of_date_by_name.Goals as goal

pub returns : goal.returns
returns c to records k law within below =
    (out_to_name law records within k below, out_from_name law records within k below)
