use Rattle.std.proofs.Common.{rules, tests, ◌==◌}
use Rattle.std.proofs.lemmas.Iterator.Splits.{YieldsList-from_slice_split}
use Rattle.std.proofs.lemmas.Iterator.Consumers.{map_from_collect}
use Rattle.redodb_text.proofs.args.words.Goals as goal

pub returns-in-Some : goal.returns-in-Some
returns-in-Some c =
    rw c.in-Some.is (map_from_collect _ c.collect.ensures.ran
    (YieldsList-from_slice_split _ (λ b. b == 32) c.in-Some.text.now c.split.ensures.rest
    c.split.ensures.done c.split.ensures.closure (λ x b q h. search (rules, tests))))
