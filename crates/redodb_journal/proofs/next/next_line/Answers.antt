use Rattle.std.proofs.Common.{Bool, sym, ap, ◌∙◌, ◌+◌}
use Rattle.redodb_journal.proofs.Nexts.{first_at, line_after, line_at_first}
use Rattle.redodb_journal.proofs.next.next_line.Goals as goal

pub returns-in-None-clause-next : goal.returns-in-None-clause-next
returns-in-None-clause-next c s =
    line_at_first s c.args.script.now c.args.entries.now (sym c.in-None.ensures.value)
    ∙ c.first_done.ensures.next

pub returns-in-Some-clause-next : goal.returns-in-Some-clause-next
returns-in-Some-clause-next c s =
    let last = c.in-Some.last.now in
    line_after s c.args.script.now c.args.entries.now last (sym c.in-Some.ensures.value)
    ∙ ap (λ (through : Bool). first_at c.args.script.now through (last.number + 1))
    (sym c.lets_through.ensures)
    ∙ c.first_done-in-Some.ensures.next
