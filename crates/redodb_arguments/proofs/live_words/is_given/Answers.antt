use Rattle.std.proofs.Common.{◌∙◌, ap, sym, Some}
use Rattle.std.specs.Cmp.Lexicographic.{bytes_decides}
use Rattle.redodb_arguments.proofs.LogAsked.{value_of, same_value}
use Rattle.redodb_arguments.proofs.live_words.is_given.Goals as goal

pub returns-in-Some : goal.returns-in-Some
returns-in-Some c =
    let found = value_of c.args.matches.now c.args.flag.now (Some c.in-Some.value)
    c.in-Some.ensures in (
      λ yes. found ∙ ap Some ((bytes_decides _ _).0 (sym c.eq.ensures ∙ yes)),
      λ given. c.eq.ensures ∙ (bytes_decides _ _).1 (same_value _ _ (sym found ∙ given)),
    )
