use Rattle.std.proofs.Common.{slice_index_or}
use Rattle.std.proofs.lemmas.List.Elements.{All-set}
use Rattle.redodb_board.specs.Kept.{WorksAt}
use Rattle.redodb_tests.proofs.schedules.take_turns.Goals as goal

pub loop-turn-preserved : goal.loop-turn-preserved
loop-turn-preserved g c =
    All-set (WorksAt c.args.plan.now c.args.board.now) c.loop-turn.workers
    (slice_index_or c.args.turns.now c.loop-turn.turn-index 0) c.take_turn.new.worker
    c.take_turn.ensures c.loop-turn.invariant
