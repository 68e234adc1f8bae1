use Rattle.std.proofs.Common.{IsSome, refl, sym, subst, arith}
use Rattle.std.proofs.lemmas.Bool.{false≢true}
use Rattle.redodb_records.specs.Rows.{rows_count}
use Rattle.redodb_records.specs.Support.Target.{blank}
use Rattle.redodb_records.proofs.Walked.{name_below_all, row_of_slot, slot_of_row}
use Rattle.redodb_memo.specs.NameSet.{IsMarked}
use Rattle.redodb_database.proofs.needs.needs_any_marked.Goals as goal

pub needs_marked-requires : goal.needs_marked-requires
needs_marked-requires c = omega (
  arith,
  c.requires.sized,
  name_below_all c.slots_of-slot-items.result.now (rows_count c.args.rows.now)
      c.loop-slot.slot-index c.slot-item.result c.slots_of-slot-items.ensures.ascending
      c.slots_of-slot-items.ensures.below c.loop-slot-test.true c.slot-item.is,
)

pub returns-then-needs_marked : goal.returns-then-needs_marked
returns-then-needs_marked c =
    let slot = c.slot-item.result in
    let given = c.slots_of-slot-items.ensures in
    let on = c.needs_marked.ensures.0 c.if-needs_marked.true in
    let row = row_of_slot c.args.rows.now c.args.t c.slots_of-slot-items.result.now given.same
    given.ascending c.loop-slot.slot-index slot c.loop-slot-test.true c.slot-item.is in
    (λ yes. (slot.name, subst IsSome (sym row) on.0, on.1), λ some. refl)

pub returns : goal.returns
returns c =
    let given = c.slots_of-slot-items.ensures in (
      λ yes. absurd (false≢true yes),
      λ some.
          let at = slot_of_row c.args.rows.now c.args.t c.slots_of-slot-items.result.now given.same
          given.ascending some.0 some.1 in
          let marked = subst (IsMarked c.args.marks.now) (sym at.2) some.2 in
          absurd (c.loop-slot.invariant at.0 (blank 0)
          (omega (arith, at.1, c.loop-slot-test.false)) (at.3, marked)),
    )
