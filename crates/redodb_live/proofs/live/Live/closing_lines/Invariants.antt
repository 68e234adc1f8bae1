use Rattle.std.proofs.Common.{◌≡◌, map, take}
use Rattle.redodb_model.specs.Support.Ending.{closing_lines_of}
use Rattle.redodb_commands.specs.Meaning.{line_of}
use Rattle.redodb_database.specs.Tables.{state_of}
use Rattle.redodb_live.proofs.live.Live.closing_lines.Given as goal

abbrev pub invariant-loop-t : goal.invariant-loop-t
invariant-loop-t l =
    map line_of l.lines.items
    ≡ closing_lines_of l.session (state_of l.self.tables) (take l.t-index l.t-items)
