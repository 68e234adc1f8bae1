use Rattle.std.proofs.Common.{sym, ap, ◌∙◌, subst}
use Rattle.redodb_records.specs.Rows.{TargetRows, slot_at, has_slot}
use Rattle.redodb_records.specs.Support.Target.{IsSlotOf, IsGapFor}
use Rattle.redodb_records.proofs.Slots.{slot_stands, none_in_gap, nothing_stands}
use Rattle.redodb_records.proofs.target.Target.find.Goals as goal

pub returns-in-Ok-clause-there : goal.returns-in-Ok-clause-there
returns-in-Ok-clause-there c =
    let at =
    subst (λ slots. IsSlotOf slots c.args.n c.in-Ok.place) c.as_slice.ensures.value
    c.in-Ok.ensures.found in
    sym (slot_stands c.self.inside.slots.items c.args.n c.in-Ok.place c.index.result.now
    c.self.invariant at).1
    ∙ ap (λ (rows : TargetRows). has_slot rows.slots c.args.n) c.self.view_is

pub returns-in-Ok-clause-slot : goal.returns-in-Ok-clause-slot
returns-in-Ok-clause-slot c =
    let at =
    subst (λ slots. IsSlotOf slots c.args.n c.in-Ok.place) c.as_slice.ensures.value
    c.in-Ok.ensures.found in
    c.index.ensures ∙ (slot_stands c.self.inside.slots.items c.args.n c.in-Ok.place
    c.index.result.now c.self.invariant at).0
    ∙ ap (λ (rows : TargetRows). slot_at rows.slots c.args.n) c.self.view_is

pub returns-in-Err-clause-there : goal.returns-in-Err-clause-there
returns-in-Err-clause-there c =
    let gap =
    subst (λ slots. IsGapFor slots c.args.n c.in-Err.field-0) c.as_slice.ensures.value
    c.in-Err.ensures.absent in
    sym (none_in_gap c.self.inside.slots.items c.args.n c.in-Err.field-0 gap)
    ∙ ap (λ (rows : TargetRows). has_slot rows.slots c.args.n) c.self.view_is

pub returns-in-Err-clause-slot : goal.returns-in-Err-clause-slot
returns-in-Err-clause-slot c =
    let gap =
    subst (λ slots. IsGapFor slots c.args.n c.in-Err.field-0) c.as_slice.ensures.value
    c.in-Err.ensures.absent in
    sym (ap (λ (rows : TargetRows). slot_at rows.slots c.args.n) c.self.view_is)
    ∙ nothing_stands c.self.inside.slots.items c.args.n
    (none_in_gap c.self.inside.slots.items c.args.n c.in-Err.field-0 gap)
