use Rattle.std.proofs.Common.{◌≡◌, ◌≤◌, map, length, take, drop}
use Rattle.redodb_model.specs.Names.{text_at}
use Rattle.redodb_names.specs.Support.Names.{Extends}
use Rattle.redodb_model.specs.Renaming.{AllBelow}
use Rattle.redodb_text.specs.Grammar.{with_names}
use Rattle.redodb_text.proofs.name_lists.numbers_of.Given as goal

abbrev pub invariant-loop-word : goal.invariant-loop-word
invariant-loop-word l = record {
  rest : with_names l.fn.names (map (λ w. w.now) l.words)
      ≡ with_names l.names (drop l.word-index (map (λ w. w.now) l.words));
  prefix : l.names ≡ with_names l.fn.names (take l.word-index (map (λ w. w.now) l.words));
  few : length l.names ≤ l.most;
  numbers : map (text_at l.names) l.numbers.items ≡ take l.word-index (map (λ w. w.now) l.words);
  within : AllBelow (length l.names) l.numbers.items;
  kept : Extends l.fn.names l.names;
}
