use Rattle.std.proofs.Common.{◌-◌, ◌≡◌}
use Rattle.redodb_board.specs.Kept.{WorksAt}
use Rattle.redodb_board.specs.Outcomes.{Waits}
use Rattle.redodb_board.proofs.worker.Worker.place.Given as goal

abbrev pub invariant-rows : goal.invariant-rows
invariant-rows g l =
    WorksAt l.plan l.board l.self × (l.self.session ≡ l.initial.self.session)
    × Waits l.plan l.initial.self l.self

abbrev pub decreases-rows : goal.decreases-rows
decreases-rows g l = l.board.rows - l.self.tries
