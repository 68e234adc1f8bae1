use Rattle.std.proofs.Common.{◌≡◌, ◌∙◌, ◌<◌, sym, ap, arith, length}
use Rattle.std.proofs.lemmas.Grind.{common_steps}
use Rattle.std.proofs.lemmas.List.{get_or_default}
use Rattle.redodb_records.specs.Rows.{TargetRows}
use Rattle.redodb_records.specs.Support.Kept.{slots_on, sits_on}
use Rattle.std.proofs.lemmas.List.Sums.{count_by-le-length}
use Rattle.redodb_records.proofs.Changed.{slot_added_rows}
use Rattle.redodb_records.proofs.Writing.{kept_needed, kept_awaited, kept_always, kept_slot}
use Rattle.redodb_records.proofs.rows.DepRows.reserve_slot.Goals as goal

pub overflow_add-slots : goal.overflow_add-slots
overflow_add-slots c =
    let targets = c.self.inside.targets.items in
    let slotted = c.self.inside.slotted.items in
    let name : c.args.n < length targets =
    omega (arith, c.requires.name, ap length c.self.view_is) in
    let h = c.self.invariant in
    let inside : c.args.n < length slotted = omega (arith, name, h.counts.sized) in
    let is : c.index.result.now ≡ slots_on targets c.args.n =
    c.index.ensures
    ∙ (get_or_default slotted c.args.n c.index.result.now 0 inside ∙ h.counts.each c.args.n name) in
    let few = count_by-le-length (sits_on c.args.n) targets in
    omega (arith, is, few, h.small)

pub invariant_of-self : goal.invariant_of-self
invariant_of-self c =
    let name : c.args.n < length c.self.inside.targets.items =
    omega (arith, c.requires.name, ap length c.self.view_is) in
    kept_needed c.args.n c.reserve.new.self name c.index_mut.ensures.value c.reserve.ensures.items
    c.reserve.ensures.kept c.self.invariant

pub invariant_of-self-in_err-reserve-2 : goal.invariant_of-self-in_err-reserve-2
invariant_of-self-in_err-reserve-2 c =
    let name : c.args.n < length c.self.inside.targets.items =
    omega (arith, c.requires.name, ap length c.self.view_is) in
    let needed = c.reserve.ensures in
    let h = kept_needed c.args.n c.reserve.new.self name c.index_mut.ensures.value needed.items
    needed.kept c.self.invariant in
    let awaited = c.reserve-2.ensures in
    kept_awaited c.args.n c.reserve-2.new.self name c.index_mut-2.ensures.value awaited.items
    awaited.kept h

pub invariant_of-self-in_err-add_slot : goal.invariant_of-self-in_err-add_slot
invariant_of-self-in_err-add_slot c =
    let name : c.args.n < length c.self.inside.targets.items =
    omega (arith, c.requires.name, ap length c.self.view_is) in
    let needed = c.reserve.ensures in
    let h = kept_needed c.args.n c.reserve.new.self name c.index_mut.ensures.value needed.items
    needed.kept c.self.invariant in
    let awaited = c.reserve-2.ensures in
    let h2 = kept_awaited c.args.n c.reserve-2.new.self name c.index_mut-2.ensures.value awaited.items
    awaited.kept h in
    kept_always c.args.t c.add_slot.new.self c.self.view_is c.requires.target
    c.index_mut-3.ensures.value (ap (λ (x : TargetRows). x.slots) c.in_err-add_slot.ensures.err) h2

pub invariant_of-self-2 : goal.invariant_of-self-2
invariant_of-self-2 c =
    let e = c.add_slot.ensures in
    let name : c.args.n < length c.self.inside.targets.items =
    omega (arith, c.requires.name, ap length c.self.view_is) in
    let needed = c.reserve.ensures in
    let h = kept_needed c.args.n c.reserve.new.self name c.index_mut.ensures.value needed.items
    needed.kept c.self.invariant in
    let awaited = c.reserve-2.ensures in
    let h2 = kept_awaited c.args.n c.reserve-2.new.self name c.index_mut-2.ensures.value awaited.items
    awaited.kept h in
    kept_slot c.args.t c.args.n c.add_slot.new.self c.self.inside.needed.items
    c.self.inside.awaited.items c.reserve.new.self c.reserve-2.new.self c.self.view_is
    c.requires.target c.requires.name c.index_mut-3.ensures.value
    (record { rows = e.rows; room = c.in_ok-add_slot.ensures.made; always = e.always })
    (sym c.has_room.ensures ∙ c.if-has_room.false) c.index.ensures c.in_ok-reserve.ensures.ok
    c.in_ok-reserve-2.ensures.ok h2

pub returns-clause-rows : goal.returns-clause-rows
returns-clause-rows c =
    let e = c.add_slot.ensures in
    slot_added_rows c.args.t c.args.n c.add_slot.new.self c.self.view_is c.requires.target
    c.index_mut-3.ensures.value
    (record { rows = e.rows; room = c.in_ok-add_slot.ensures.made; always = e.always })

pub add_slot-requires : goal.add_slot-requires
add_slot-requires c = grind (arith, common_steps)

pub returns-in_err-add_slot-clause-rows : goal.returns-in_err-add_slot-clause-rows
returns-in_err-add_slot-clause-rows c = grind (arith, common_steps)

pub returns-in_err-add_slot-clause-err : goal.returns-in_err-add_slot-clause-err
returns-in_err-add_slot-clause-err c = grind (arith, common_steps)

pub returns-clause-made : goal.returns-clause-made
returns-clause-made c = grind (arith, common_steps)
