use Rattle.std.proofs.Common.{sym, ap, ◌∙◌, option_map}
use Rattle.redodb_model.specs.State.{mark_in}
use Rattle.redodb_records.specs.Support.KeptMark.{kept_mark_of}
use Rattle.redodb_records.specs.Rows.{Slot}
use Rattle.redodb_records.proofs.Told.{other_told}
use Rattle.redodb_records.proofs.target.Slot.has_changed.Goals as goal

pub returns-in-Some : goal.returns-in-Some
returns-in-Some c =
    let cell = c.args.cell.now in
    other_told c.args.self.now.change (kept_mark_of c.in-Some.kept) (mark_in cell.state cell)
    c.is_of.result
    (sym (ap (λ (slot : Slot). slot.change) c.self.view_is)
    ∙ ap (option_map kept_mark_of) c.in-Some.is) c.is_of.ensures
