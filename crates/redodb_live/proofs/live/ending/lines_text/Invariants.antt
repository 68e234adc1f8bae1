use Rattle.std.proofs.Common.{◌≡◌, map, take}
use Rattle.std.specs.List.{flat_map}
use Rattle.redodb_commands.specs.Meaning.{line_at}
use Rattle.redodb_history.specs.Histories.{line_text_of}
use Rattle.redodb_live.proofs.live.ending.lines_text.Given as goal

abbrev pub invariant-loop-line : goal.invariant-loop-line
invariant-loop-line l =
    l.text.items ≡ flat_map line_text_of (map (line_at l.names) (take l.line-index l.lines))
