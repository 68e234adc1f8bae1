use Rattle.std.proofs.Common.{map, take}
use Rattle.std.specs.List.{AllZip}
use Rattle.redodb_commands.specs.Support.Meaning.{item_of}
use Rattle.redodb_graph.specs.Steps.{AllMean}
use Rattle.redodb_graph.specs.Support.Tables.{Grows}
use Rattle.redodb_graph.proofs.numbering.Numbering.scripts.Given as goal

abbrev pub invariant-loop-script : goal.invariant-loop-script
invariant-loop-script l = record {
  means : AllZip (λ script steps. AllMean l.self (map item_of script) steps.items)
      (take l.script-index l.scripts) l.steps.items;
  grows : Grows l.fn.self l.self;
}
