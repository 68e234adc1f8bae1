use Rattle.std.proofs.Common.{◌≡◌, ◌∙◌, ◌||◌, ap, sym, subst, refl, false, eqb, List}
use Rattle.std.specs.List.{insert}
use Rattle.redodb_records.specs.Rows.{Slot, TargetRows, slot_at, has_slot}
use Rattle.redodb_records.specs.Target.{Ascending}
use Rattle.redodb_records.specs.Support.Target.{blank, IsGapFor}
use Rattle.redodb_records.proofs.SlotEdits.{slot_at-insert, has_slot-insert, insert_ascends}
use Rattle.redodb_records.proofs.target.Target.add_slot.Goals as goal
use Rattle.redodb_records.proofs.target.Target.add_slot.Goals.{In_ok-insert}

none : (c : In_ok-insert) → has_slot c.self.inside.slots.items c.args.n ≡ false
none c = ap (λ (rows : TargetRows). has_slot rows.slots c.args.n) c.self.view_is ∙ c.requires.new

gap : (c : In_ok-insert) → IsGapFor c.self.inside.slots.items c.args.n c.slot_place-place.result
gap c =
    subst (λ slots. IsGapFor slots c.args.n c.slot_place-place.result) c.as_slice.ensures.value
    (c.slot_place-place.ensures.absent
    (ap (λ (slots : List Slot). has_slot slots c.args.n) c.as_slice.ensures.value ∙ none c))

placed : (c : In_ok-insert) → c.insert.new.self.items
    ≡ insert c.self.inside.slots.items c.slot_place-place.result (blank c.args.n)
placed c =
    c.in_ok-insert.ensures.items
    ∙ ap (insert c.self.inside.slots.items c.slot_place-place.result) c.blank.ensures

pub invariant_of-self-2 : goal.invariant_of-self-2
invariant_of-self-2 c =
    let w = (goal.at.invariant_of-self-2 c).In_ok-insert in
    subst Ascending (sym (placed w)) (insert_ascends c.self.inside.slots.items c.args.n
    c.slot_place-place.result (blank c.args.n) c.self.invariant (gap w) refl)

pub returns-clause-rows : goal.returns-clause-rows
returns-clause-rows c k =
    let w = (goal.at.returns-clause-rows c).In_ok-insert in
    ap (λ (slots : List Slot). slot_at slots k) (placed w)
    ∙ (slot_at-insert c.self.inside.slots.items c.args.n c.slot_place-place.result (none w) k
    ∙ ap (λ (rows : TargetRows). slot_at rows.slots k) c.self.view_is)

pub returns-clause-made : goal.returns-clause-made
returns-clause-made c k =
    let w = (goal.at.returns-clause-made c).In_ok-insert in
    ap (λ (slots : List Slot). has_slot slots k) (placed w)
    ∙ (has_slot-insert c.self.inside.slots.items c.args.n c.slot_place-place.result k
    ∙ ap (λ (rows : TargetRows). eqb k c.args.n || has_slot rows.slots k) c.self.view_is)
