use Rattle.std.proofs.Common.{◌≡◌, drop}
use Rattle.std.specs.Prelude.{bytes_eq, find}
use Rattle.redodb_text.specs.Texts.{word_of}
use Rattle.redodb_text.specs.Questions.{all_kinds, kind_named}
use Rattle.redodb_text.proofs.keywords.kind_of_word.Given as goal

abbrev pub invariant-loop-kind : goal.invariant-loop-kind
invariant-loop-kind l =
    kind_named l.word
    ≡ find (λ kind. bytes_eq l.word (word_of kind)) (drop l.kind-index all_kinds)
