use Rattle.std.proofs.Common.{◌≡◌, ◌∙◌, ap, subst, refl, Some, is_some, List, cond, eqb}
use Rattle.redodb_model.specs.State.{Cell, mark_in}
use Rattle.redodb_records.specs.Rows.{Slot, TargetRows, slot_at, has_slot}
use Rattle.redodb_records.specs.Support.Target.{IsSlotOf}
use Rattle.redodb_records.proofs.Slots.{slot_stands}
use Rattle.redodb_records.proofs.SlotEdits.{has_slot-set, set_ascends}
use Rattle.redodb_records.proofs.Keeping.{new_named, rows_written}
use Rattle.redodb_records.proofs.target.Target.put_change.Goals as goal
use Rattle.redodb_records.proofs.target.Target.put_change.Goals.{After-put_change}

-- the slot after the call
abbrev with_mark : Cell → Slot → Slot
with_mark cell slot = record slot { change = Some (mark_in cell.state cell) }

-- the place is that of the name's slot
at : (c : After-put_change) → IsSlotOf c.self.inside.slots.items c.args.n c.slot_place-place.result
at c =
    let there =
    ap (λ (slots : List Slot). has_slot slots c.args.n) c.as_slice.ensures.value
    ∙ (ap (λ (rows : TargetRows). has_slot rows.slots c.args.n) c.self.view_is ∙ c.requires) in
    subst (λ slots. IsSlotOf slots c.args.n c.slot_place-place.result) c.as_slice.ensures.value
    (c.slot_place-place.ensures.there there)

-- the slot there has the rows on the name
stood : (c : After-put_change)
    → c.index_mut-slot.result.now ≡ slot_at c.self.inside.slots.items c.args.n
stood c =
    c.index_mut-slot.ensures.value ∙ (slot_stands c.self.inside.slots.items c.args.n
    c.slot_place-place.result c.index_mut-slot.result.now c.self.invariant (at c)).0

stands : (c : After-put_change)
    → c.put_change.new.self ≡ with_mark c.args.cell.now (slot_at c.self.inside.slots.items c.args.n)
stands c = c.put_change.ensures ∙ ap (with_mark c.args.cell.now) (stood c)

named : (c : After-put_change) → c.put_change.new.self.name ≡ c.args.n
named c =
    new_named (with_mark c.args.cell.now) (λ slot. refl) c.self.inside.slots.items c.args.n
    c.slot_place-place.result c.put_change.new.self (at c) (stands c)

pub invariant_of-self : goal.invariant_of-self
invariant_of-self c =
    let w = (goal.at.invariant_of-self c).After-put_change in
    set_ascends c.self.inside.slots.items c.args.n c.slot_place-place.result c.put_change.new.self
    c.self.invariant (at w) (named w)

pub returns-clause-was : goal.returns-clause-was
returns-clause-was c =
    let was = λ (slot : Slot). is_some slot.change in
    c.has_change-was.ensures ∙ (ap was (stood (goal.at.returns-clause-was c).After-put_change)
    ∙ ap (λ (rows : TargetRows). was (slot_at rows.slots c.args.n)) c.self.view_is)

pub returns-clause-rows : goal.returns-clause-rows
returns-clause-rows c k =
    let w = (goal.at.returns-clause-rows c).After-put_change in
    rows_written (with_mark c.args.cell.now) (λ slot. refl) c.self.inside.slots.items c.args.n
    c.slot_place-place.result c.put_change.new.self (at w) (stands w) c.self.invariant k
    ∙ ap (λ (rows : TargetRows). cond (eqb c.args.n k)
    (with_mark c.args.cell.now (slot_at rows.slots k)) (slot_at rows.slots k)) c.self.view_is

pub returns-clause-room : goal.returns-clause-room
returns-clause-room c k =
    let w = (goal.at.returns-clause-room c).After-put_change in
    has_slot-set c.self.inside.slots.items c.args.n c.slot_place-place.result c.put_change.new.self
    (at w) (named w) k ∙ ap (λ (rows : TargetRows). has_slot rows.slots k) c.self.view_is
