use Rattle.std.proofs.Common.{rules, ◌≡◌, ◌∙◌, refl, sym, subst, true≢false, false, is_some, List, map, string_bytes}
use Rattle.clap.specs.Words.{Row, app_of}
use Rattle.redodb_arguments.specs.LiveWords.{Asks, redodb_live}
use Rattle.redodb_arguments.proofs.Matched.{by_words, no_fault}
use Rattle.redodb_arguments.proofs.live_words.live_job.Goals as goal

pub returns-in-Ok-Some-clause-asked : goal.returns-in-Ok-Some-clause-asked
returns-in-Ok-Some-clause-asked c =
    let found = by_words redodb_live (app_of c.in-Ok.command) (map string_bytes c.args.words.now)
    c.in-Ok-try_get_matches_from.matches refl c.in-Ok.ensures
    c.in-Ok-try_get_matches_from.ensures.matches in
    subst (λ (rows : List Row). Asks rows c.in-Ok-Some.job) found.0
    (rw c.in-Ok-Some.field-0-is at c.in-Ok-Some.ensures.asked)

pub returns-in-Ok-Some-clause-sound : goal.returns-in-Ok-Some-clause-sound
returns-in-Ok-Some-clause-sound c =
    no_fault redodb_live (app_of c.in-Ok.command) (map string_bytes c.args.words.now) refl
    c.in-Ok.ensures c.in-Ok-try_get_matches_from.ensures.kinds

pub returns-in-Ok-None-clause-only : goal.returns-in-Ok-None-clause-only
returns-in-Ok-None-clause-only c job asks faultless =
    let found = by_words redodb_live (app_of c.in-Ok.command) (map string_bytes c.args.words.now)
    c.in-Ok-try_get_matches_from.matches refl c.in-Ok.ensures
    c.in-Ok-try_get_matches_from.ensures.matches in
    let asked = subst (λ (rows : List Row). Asks rows job) (sym found.0) asks in
    let none : is_some c.in-Ok-None.field-0 ≡ false = search rules in
    absurd (true≢false (sym (c.in-Ok-None.ensures.only job asked) ∙ none))
