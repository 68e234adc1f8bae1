use Rattle.redodb_memo.proofs.Deriving.{closed_then, due_spread}
use Rattle.redodb_memo.proofs.walk.enter_due.Goals as goal

pub spread-requires-clause-closed : goal.spread-requires-clause-closed
spread-requires-clause-closed g c =
    closed_then (g.D.Dependencies.records c.args.database.now) c.queue_len-next.result
    c.queue_len-next.ensures.len c.enter.ensures.grown c.requires.closed

pub returns-then-is_due : goal.returns-then-is_due
returns-then-is_due g c =
    due_spread (g.D.Dependencies.records c.args.database.now) c.args.t
    (c.is_due.ensures.0 c.if-is_due.true) c.enter.ensures c.spread.ensures
