use Rattle.std.proofs.Common.{◌≡◌, map}
use Rattle.redodb_commands.specs.Meaning.{line_at}
use Rattle.redodb_journal.specs.Plans.{scripts_named}
use Rattle.redodb_run.specs.RunTexts.{run_text_of, sessions_below}
use Rattle.redodb_run.proofs.printed.run_text.Given as goal

-- the parts of the sessions before this one are added
abbrev pub invariant-loop-session : goal.invariant-loop-session
invariant-loop-session g l = l.text.items ≡ run_text_of (scripts_named l.plan)
    (sessions_below l.session) (map (line_at l.plan.names) l.outcome.history.items)
