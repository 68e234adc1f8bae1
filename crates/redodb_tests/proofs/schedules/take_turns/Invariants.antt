use Rattle.std.proofs.Common.{All}
use Rattle.redodb_board.specs.Kept.{WorksAt}
use Rattle.redodb_tests.proofs.schedules.take_turns.Given as goal

abbrev pub invariant-loop-turn : goal.invariant-loop-turn
invariant-loop-turn g l = All (WorksAt l.plan l.board) l.workers
