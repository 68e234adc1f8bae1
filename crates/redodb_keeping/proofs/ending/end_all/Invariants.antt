use Rattle.std.proofs.Common.{List, take}
use Rattle.redodb_model.specs.Names.{Text}
use Rattle.redodb_model.specs.History.{Line}
use Rattle.redodb_log.specs.Logs.{AreLogged}
use Rattle.redodb_keeping.specs.Support.Steps.{known_of, LeadsTo}
use Rattle.redodb_keeping.proofs.EndedAll.{AreEndedSoFar}
use Rattle.redodb_keeping.proofs.ending.end_all.Given as goal

abbrev pub invariant-loop-session : goal.invariant-loop-session
invariant-loop-session l =
    (before : List (Line Text)) → AreLogged before → LeadsTo before (known_of l.initial.live)
    → AreEndedSoFar l.initial.live l.live (take l.session-index l.session-items)
    l.initial.logged.items l.logged.items
