use Rattle.std.proofs.Common.{◌≡◌, ◌++◌, drop, map}
use Rattle.std.specs.List.{flat_map}
use Rattle.redodb_commands.specs.Support.Meaning.{item_at}
use Rattle.redodb_history.specs.Histories.{ended}
use Rattle.redodb_run.specs.Support.Printed.{skipped_lines_of}
use Rattle.redodb_run.proofs.part.put_rest.Given as goal

-- what is printed, with the lines that are left
abbrev pub invariant-loop-at : goal.invariant-loop-at
invariant-loop-at l =
    let script = map (item_at l.names) l.items in
    l.text.items ++ flat_map ended (skipped_lines_of (drop l.at script))
    ≡ l.fn.text.items ++ flat_map ended (skipped_lines_of (drop l.from script))
