use Rattle.std.proofs.Common.{◌≡◌, ◌++◌, length, map, take}
use Rattle.std.specs.List.{flat_map}
use Rattle.redodb_commands.specs.Meaning.{line_at}
use Rattle.redodb_history.specs.Histories.{line_text_of}
use Rattle.redodb_run.specs.Support.Lines.{AreAnswersAt}
use Rattle.redodb_run.proofs.lines.put_lines.Given as goal

-- the lines before this one are printed
abbrev pub invariant-loop-line : goal.invariant-loop-line
invariant-loop-line l = record {
  text : l.text.items
      ≡ l.fn.text.items
      ++ flat_map line_text_of (map (line_at l.names) (take l.line-index l.lines));
  count : length l.spans.items ≡ l.line-index;
  spans : AreAnswersAt l.names l.text.items l.lines 0 l.spans.items;
}
