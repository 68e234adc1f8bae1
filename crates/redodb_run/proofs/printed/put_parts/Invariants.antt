use Rattle.std.proofs.Common.{◌+◌, drop, map}
use Rattle.redodb_commands.specs.Meaning.{line_at}
use Rattle.redodb_journal.specs.Plans.{scripts_named}
use Rattle.redodb_run.specs.Support.Printed.{ArePrinted}
use Rattle.redodb_run.proofs.printed.put_parts.Given as goal

-- the lines before this one are printed
abbrev pub invariant-loop-at : goal.invariant-loop-at
invariant-loop-at l = ArePrinted (scripts_named l.plan) (map (line_at l.plan.names) l.lines)
    (map (line_at l.plan.names) (drop (l.from + l.at) l.lines)) l.parts.items
