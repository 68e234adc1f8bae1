use Rattle.std.proofs.Common.{◌≢◌, ◌∙◌, ℕ, sym}
use Rattle.redodb_model.specs.State.{Idle}
use Rattle.redodb_records.specs.Cells.{cell_at}
use Rattle.redodb_database.proofs.Places.{number_told, enters_number}
use Rattle.redodb_database.proofs.targets.enter_place.Goals as goal

pub returns-in-Some : goal.returns-in-Some
returns-in-Some c =
    let IsTarget : ℕ → Type 0 = λ t. (cell_at c.args.records.now t).state ≢ Idle in
    enters_number IsTarget c.args.place.now c.in-Some.t c.is_target-is_due.result
    (number_told c.args.place.now c.in-Some.t (sym c.in-Some.is ∙ c.number.ensures))
    c.is_target-is_due.ensures c.enter_if.ensures
