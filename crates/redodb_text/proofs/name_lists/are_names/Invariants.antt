use Rattle.std.proofs.Common.{◌≡◌, take, map, true}
use Rattle.std.specs.List.{list_all}
use Rattle.redodb_names.specs.Names.{is_name}
use Rattle.redodb_text.proofs.name_lists.are_names.Given as goal

abbrev pub invariant-loop-word : goal.invariant-loop-word
invariant-loop-word l = list_all is_name (take l.word-index (map (λ w. w.now) l.words)) ≡ true
