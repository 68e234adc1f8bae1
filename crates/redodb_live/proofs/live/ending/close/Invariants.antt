use Rattle.std.proofs.Common.{◌≡◌, ◌+◌, map, take}
use Rattle.redodb_model.specs.Names.{by_number}
use Rattle.redodb_model.specs.History.{left_by}
use Rattle.redodb_commands.specs.Meaning.{line_of}
use Rattle.redodb_database.specs.Tables.{state_of, tables_count, calls_of}
use Rattle.redodb_live.proofs.live.ending.close.Given as goal

abbrev pub invariant-loop-line : goal.invariant-loop-line
invariant-loop-line l = record {
  left : state_of l.redo
      ≡ left_by by_number (state_of l.initial.redo) (map line_of (take l.line-index l.lines));
  calls : calls_of l.redo ≡ calls_of l.initial.redo + l.line-index;
  count : tables_count l.redo ≡ tables_count l.initial.redo;
}
