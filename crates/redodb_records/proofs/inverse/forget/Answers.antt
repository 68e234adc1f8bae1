use Rattle.std.proofs.Common.{refl, subst}
use Rattle.redodb_records.specs.Support.Kept.{has_change, has_created}
use Rattle.redodb_records.proofs.Forgetting.{IsTakenOut, at_slot, all_slots, taken_begins, all_taken, slot_known, slot_taken}
use Rattle.redodb_records.proofs.inverse.forget.Goals as goal

pub loop-slot-init : goal.loop-slot-init
loop-slot-init c = record {
  needs = taken_begins has_change (λ k. refl) c.args.t c.requires.needs;
  awaits = taken_begins has_created (λ k. refl) c.args.t c.requires.awaits;
}

pub take_out-requires : goal.take_out-requires
take_out-requires c =
    let at =
    at_slot has_change c.args.targets.now.items c.args.t c.loop-slot.slot-index c.requires.target
    c.index.ensures c.slots-slot-items.ensures.same c.slots-slot-items.ensures.ascending
    c.loop-slot-test.true c.slot-item.is c.name-n.ensures c.has_change.ensures in
    let known = slot_known at c.loop-slot.invariant.needs c.requires.names c.requires.needs in
    record { name = known.0; was = known.1 }

pub take_out-requires-in-loop-slot : goal.take_out-requires-in-loop-slot
take_out-requires-in-loop-slot c =
    let at =
    at_slot has_created c.args.targets.now.items c.args.t c.loop-slot.slot-index c.requires.target
    c.index.ensures c.slots-slot-items.ensures.same c.slots-slot-items.ensures.ascending
    c.loop-slot-test.true c.slot-item.is c.name-n.ensures c.created.ensures in
    let known = slot_known at c.loop-slot.invariant.awaits c.requires.names c.requires.awaits in
    record { name = known.0; was = known.1 }

pub loop-slot-preserved : goal.loop-slot-preserved
loop-slot-preserved c =
    let changed =
    at_slot has_change c.args.targets.now.items c.args.t c.loop-slot.slot-index c.requires.target
    c.index.ensures c.slots-slot-items.ensures.same c.slots-slot-items.ensures.ascending
    c.loop-slot-test.true c.slot-item.is c.name-n.ensures c.has_change.ensures in
    let created =
    at_slot has_created c.args.targets.now.items c.args.t c.loop-slot.slot-index c.requires.target
    c.index.ensures c.slots-slot-items.ensures.same c.slots-slot-items.ensures.ascending
    c.loop-slot-test.true c.slot-item.is c.name-n.ensures c.created.ensures in
    record {
      needs = slot_taken changed c.loop-slot.invariant.needs c.take_out.ensures;
      awaits = slot_taken created c.loop-slot.invariant.awaits c.take_out-in-loop-slot.ensures;
    }

pub returns-clause-needs : goal.returns-clause-needs
returns-clause-needs c =
    let targets = c.args.targets.now.items in
    let all = all_slots targets c.args.t c.loop-slot.slot-index c.requires.target c.index.ensures
    c.slots-slot-items.ensures.same c.loop-slot-test.false in
    all_taken has_change (λ k. refl) c.args.t c.requires.needs c.requires.target
    (subst (λ rest. IsTakenOut has_change targets c.args.t rest c.args.needed.now.items
    c.loop-slot.needed.items) all c.loop-slot.invariant.needs)

pub returns-clause-awaits : goal.returns-clause-awaits
returns-clause-awaits c =
    let targets = c.args.targets.now.items in
    let all = all_slots targets c.args.t c.loop-slot.slot-index c.requires.target c.index.ensures
    c.slots-slot-items.ensures.same c.loop-slot-test.false in
    all_taken has_created (λ k. refl) c.args.t c.requires.awaits c.requires.target
    (subst (λ rest. IsTakenOut has_created targets c.args.t rest c.args.awaited.now.items
    c.loop-slot.awaited.items) all c.loop-slot.invariant.awaits)
