use Rattle.std.proofs.Common.{◌≡◌, ◌++◌, map, length}
use Rattle.redodb_model.specs.Names.{text_at}
use Rattle.redodb_model.specs.Renaming.{AllBelow}
use Rattle.redodb_text.specs.Support.Reading.{words_after}
use Rattle.redodb_text.proofs.known.known_numbers.Given as goal

abbrev pub invariant-loop-left : goal.invariant-loop-left
invariant-loop-left l = record {
  same : l.names ≡ l.fn.names;
  words : words_after l.fn.args ≡ map (text_at l.names) l.numbers.items ++ words_after l.left;
  below : AllBelow (length l.names) l.numbers.items;
}

abbrev pub decreases-loop-left : goal.decreases-loop-left
decreases-loop-left l = length (words_after l.left)
