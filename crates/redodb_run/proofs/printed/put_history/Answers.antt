use Rattle.std.proofs.Common.{◌≡◌, ◌<◌, List, sym, subst, length, get_or, arith}
use Rattle.std.proofs.lemmas.Grind.{common_steps}
use Rattle.redodb_model.specs.Names.{Text}
use Rattle.redodb_commands.specs.Meaning.{line_at}
use Rattle.redodb_run.specs.Support.Lines.{IsAnswerAt}
use Rattle.redodb_run.specs.declared.lines.Span.{Span}
use Rattle.redodb_run.proofs.printed.put_history.Goals as goal

pub put_parts-requires-clause-spans : goal.put_parts-requires-clause-spans
put_parts-requires-clause-spans g c n line span less line_is span_is =
    let spans = c.deref-then-lines-le-MOST_ALONE.ensures.value in
    subst (λ (names : List Text). IsAnswerAt c.deref.result.now (line_at names line) span)
    c.names.ensures
    (subst (λ (text : Text). IsAnswerAt text (line_at c.names.result.now line) span)
    (sym c.deref.ensures.value)
    (c.in_ok-spans.ensures.spans n line span
    (subst (λ (xs : List Span). n < length xs) spans less) line_is
    (subst (λ (xs : List Span). span ≡ get_or xs n span) spans span_is)))

pub returns-then-lines-le-MOST_ALONE-clause-parts :
    goal.returns-then-lines-le-MOST_ALONE-clause-parts
returns-then-lines-le-MOST_ALONE-clause-parts g c = grind (arith, common_steps)
