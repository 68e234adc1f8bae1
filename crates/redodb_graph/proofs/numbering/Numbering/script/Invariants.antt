use Rattle.std.proofs.Common.{take}
use Rattle.std.specs.List.{AllZip}
use Rattle.redodb_commands.specs.Meaning.{command_of}
use Rattle.redodb_graph.specs.Steps.{Means}
use Rattle.redodb_graph.specs.Support.Tables.{Grows}
use Rattle.redodb_graph.proofs.numbering.Numbering.script.Given as goal

abbrev pub invariant-loop-item : goal.invariant-loop-item
invariant-loop-item l = record {
  means : AllZip (λ item step. Means l.self step (command_of item.command))
      (take l.item-index l.items) l.steps.items;
  grows : Grows l.fn.self l.self;
}
