use Rattle.std.proofs.Common.{All, length}
use Rattle.redodb_board.specs.Kept.{SitsAt, IsFreshOf, WorksAt}
use Rattle.redodb_tests.proofs.schedules.workers_of.Given as goal

abbrev pub invariant-loop-session : goal.invariant-loop-session
invariant-loop-session l = record {
  workers : All (WorksAt l.plan l.board) l.workers.items;
  sits : SitsAt l.plan l.board l.rest;
  fresh : IsFreshOf l.session (length l.plan.scripts) l.rest;
}
