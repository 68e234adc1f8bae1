use Rattle.std.proofs.Common.{◌≡◌, ◌*◌, ◌++◌, drop, length, map, min, take}
use Rattle.std.specs.List.{flat_map}
use Rattle.redodb_commands.specs.Meaning.{line_at}
use Rattle.redodb_journal.specs.Plans.{scripts_named}
use Rattle.redodb_history.specs.Histories.{line_text_of}
use Rattle.redodb_run.specs.Support.Printed.{ArePrinted}
use Rattle.redodb_run.proofs.printed.put_chunks.Given as goal

-- the lines of the chunks before this one are printed
abbrev pub invariant-loop-chunk : goal.invariant-loop-chunk
invariant-loop-chunk l =
    let line = line_at l.plan.names in record {
      from : l.from ≡ min (l.chunk-index * l.size) (length l.lines);
      text : l.text.items
          ≡ l.fn.text.items ++ flat_map line_text_of (map line (take l.from l.lines));
      parts : ArePrinted (scripts_named l.plan) (map line l.lines)
          (map line (drop l.from l.lines)) l.parts.items;
    }
