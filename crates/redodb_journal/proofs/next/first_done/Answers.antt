use Rattle.std.proofs.Common.{sym, ◌∙◌}
use Rattle.redodb_journal.proofs.Nexts.{done_here, passed_here, none_past}
use Rattle.redodb_journal.proofs.next.first_done.Goals as goal

pub returns-then-is_done-clause-next : goal.returns-then-is_done-clause-next
returns-then-is_done-clause-next c =
    sym c.loop-at.invariant
    ∙ done_here c.items-items.result.now c.args.script.now
    c.items-items.ensures.items c.args.through
    c.loop-at.at c.index-items-at.result c.loop-at-test.true c.index-items-at.is
    (sym c.is_done.ensures ∙ c.if-is_done.true)

pub loop-at-preserved : goal.loop-at-preserved
loop-at-preserved c =
    passed_here c.items-items.result.now c.args.script.now
    c.items-items.ensures.items c.args.through
    c.loop-at.at c.index-items-at.result c.loop-at-test.true c.index-items-at.is
    (sym c.is_done.ensures ∙ c.if-is_done.false)
    ∙ c.loop-at.invariant

pub returns-clause-next : goal.returns-clause-next
returns-clause-next c =
    sym c.loop-at.invariant
    ∙ none_past c.items-items.result.now c.args.script.now
    c.items-items.ensures.items c.args.through
    c.loop-at.at c.loop-at-test.false
