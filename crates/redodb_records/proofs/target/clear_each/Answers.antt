use Rattle.std.proofs.Common.{◌≡◌, ◌<◌, ◌∙◌, List, set, sym, ap, length, arith}
use Rattle.std.proofs.lemmas.List.Edits.{map_over_more}
use Rattle.redodb_records.specs.Rows.{Slot}
use Rattle.redodb_records.specs.Support.Target.{blank}
use Rattle.redodb_records.proofs.target.clear_each.Goals as goal

pub loop-slot-preserved : goal.loop-slot-preserved
loop-slot-preserved c =
    let slots = c.args.slots.now.items in
    let at = c.loop-slot.slot-index in
    let slot = c.slot-item.result in
    let is_read = c.deref_mut-slot-items.ensures.value in
    let inside : at < length slots =
    omega (arith, c.loop-slot-test.true, ap (λ (xs : List Slot). length xs) is_read) in
    let cleared : c.clear.new.self ≡ blank slot.name =
    c.clear.ensures ∙ ap (λ (s : Slot). blank s.name) (sym c.slot-item.is) in
    ap (set c.loop-slot.slot-items at) cleared
    ∙ map_over_more (λ (s : Slot). blank s.name) slots c.loop-slot.slot-items at slot inside
    c.loop-slot.invariant c.slot-item.is
