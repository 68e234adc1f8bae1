use Rattle.std.proofs.Common.{◌-◌, ◌<◌, sym, ap, ◌∙◌, length, arith}
use Rattle.redodb_journal.proofs.Nexts.{number_after, number_at_first}
use Rattle.redodb_journal.proofs.Steps.{of_last}
use Rattle.redodb_journal.proofs.next.closing_number.Goals as goal

pub returns-in-None-clause-number : goal.returns-in-None-clause-number
returns-in-None-clause-number c s =
    number_at_first s c.args.script.now c.args.entries.now (sym c.in-None.ensures.value)
    ∙ ap length (sym c.items-lines.ensures.items)

pub returns-in-Some-clause-number : goal.returns-in-Some-clause-number
returns-in-Some-clause-number c s =
    let number = number_after s c.args.script.now c.args.entries.now c.in-Some.last.now
    (sym c.in-Some.ensures.value) in
    let long = ap length c.items-lines.ensures.items in
    let max = c.max.ensures in
    number ∙ omega arith

pub returns-in-Some-clause-fits : goal.returns-in-Some-clause-fits
returns-in-Some-clause-fits c all =
    let entries = c.args.entries.now in
    let last : c.in-Some.last.now.number < 4294967295 =
    of_last (λ entry. entry.number < 4294967295) entries (length entries - 1) c.in-Some.last.now all
    (sym c.in-Some.ensures.value) in
    omega (arith, c.items-lines.ensures.few, ap length c.items-lines.ensures.items, c.max.ensures)
