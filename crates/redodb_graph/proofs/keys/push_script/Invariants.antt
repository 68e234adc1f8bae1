use Rattle.std.proofs.Common.{◌≡◌, ◌++◌, map, take}
use Rattle.std.specs.List.{flat_map}
use Rattle.redodb_commands.specs.Support.Meaning.{item_of}
use Rattle.redodb_graph.specs.Steps.{listed_in}
use Rattle.redodb_graph.proofs.keys.push_script.Given as goal

abbrev pub invariant-loop-item : goal.invariant-loop-item
invariant-loop-item l =
    l.keys.items ≡ l.fn.keys.items
    ++ flat_map (λ item. listed_in item.command) (map item_of (take l.item-index l.item-items))
