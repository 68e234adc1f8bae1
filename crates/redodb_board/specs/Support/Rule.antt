-- The views of the first seat, of both parts of a seat, and of two joined seats.
use Rattle.std.specs.Prelude.{ℕ, List, [], ◌++◌, length, filter, nat_lt, not}
use Rattle.redodb_journal.specs.Plans.{PlanOf}
use Rattle.redodb_board.specs.Views.{Part, ViewOf, view}
use Rattle.redodb_board.specs.Rule.{range}

abbrev pub first_view : PlanOf → ViewOf
first_view p = view p (range 0 (length p.scripts)) [] []

-- the parts of the sessions below m, and the others
abbrev pub below : ℕ → List Part → List Part
below m ps = filter (λ x. nat_lt x.0 m) ps

abbrev pub from : ℕ → List Part → List Part
from m ps = filter (λ x. not (nat_lt x.0 m)) ps

abbrev pub left_of : ℕ → ViewOf → ViewOf
left_of m v = view v.plan (below m v.parts) v.seen v.also

abbrev pub right_of : ℕ → ViewOf → ViewOf
right_of m v = view v.plan (from m v.parts) v.seen v.also

abbrev pub met : ViewOf → ViewOf → ViewOf
met v w = view v.plan (v.parts ++ w.parts) v.seen w.seen
