use Rattle.std.proofs.Common.{◌≡◌, ◌++◌, map, take}
use Rattle.std.specs.List.{flat_map}
use Rattle.redodb_model.specs.Names.{text_at}
use Rattle.redodb_text.specs.Texts.{after_space}
use Rattle.redodb_text.proofs.text.put_names.Given as goal

abbrev pub invariant-loop-number : goal.invariant-loop-number
invariant-loop-number l =
    l.out.items
    ≡ l.fn.out.items ++ flat_map after_space (map (text_at l.names) (take l.number-index l.numbers))
