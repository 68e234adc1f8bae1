-- The view of a seat in the code.
use Rattle.std.specs.Prelude.{[]}
use Rattle.redodb_journal.specs.Plans.{PlanOf}
use Rattle.redodb_board.specs.Views.{ViewOf, view}

abbrev pub nothing : PlanOf
nothing = record { names = []; scripts = [] }

abbrev pub nobody : ViewOf
nobody = view nothing [] [] []
