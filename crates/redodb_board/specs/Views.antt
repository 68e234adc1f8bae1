-- What a seat knows of the board.
use Rattle.std.specs.Prelude.{ℕ, List}
use Rattle.redodb_journal.specs.Plans.{PlanOf}
use Rattle.redodb_board.specs.Core.{Line}

-- a session, and its lines so far
abbrev pub Part : Type 0
Part = ℕ × List Line

-- the plan, the lines of each session that the seat has, the row words that it saw, and those that
-- it was shown besides: by the other seat of a join until the look, or by a load until the exchange
pub record ViewOf : Type 0 where
  pub plan : PlanOf
  pub parts : List Part
  pub seen : List ℕ
  pub also : List ℕ

abbrev pub view : PlanOf → List Part → List ℕ → List ℕ → ViewOf
view p parts seen also = record { plan = p; parts = parts; seen = seen; also = also }
