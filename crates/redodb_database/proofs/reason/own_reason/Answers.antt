use Rattle.std.proofs.Common.{◌∙◌, ap, sym}
use Rattle.redodb_model.specs.State.{is_building}
use Rattle.redodb_records.specs.Meaning.{target_state_of}
use Rattle.redodb_database.proofs.reason.own_reason.Goals as goal

pub returns-in-Building-clause-reason : goal.returns-in-Building-clause-reason
returns-in-Building-clause-reason c =
    ap is_building (sym c.state.ensures ∙ ap target_state_of c.in-Building.is)
