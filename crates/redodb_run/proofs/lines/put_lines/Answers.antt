use Rattle.std.proofs.Common.{◌≡◌, ◌+◌, ◌∙◌, ap, sym, subst, length, get_or, arith}
use Rattle.std.proofs.lemmas.Grind.{common_steps}
use Rattle.std.proofs.lemmas.List.{length_push}
use Rattle.redodb_commands.specs.Meaning.{line_at}
use Rattle.redodb_history.specs.Histories.{line_text_of}
use Rattle.redodb_run.specs.Support.Lines.{AreAnswersAt}
use Rattle.redodb_run.proofs.Spans.{more_answers}
use Rattle.redodb_run.proofs.lines.put_lines.Goals as goal

pub loop-line-preserved : goal.loop-line-preserved
loop-line-preserved c =
    let names = c.args.names.now in
    let line = c.line-item.result in
    let text = c.put_line.new.text.items in
    let span = c.in_ok-put_line.field-0 in
    let was = c.loop-line.invariant in
    let count = was.count in
    record {
      text =
          let shown = was.text in
          let more = c.in_ok-put_line.ensures.text in
          grind (arith, common_steps);
      count = ap length c.in_ok-push.ensures.items ∙ length_push c.loop-line.spans.items span
          ∙ ap (λ n. n + 1) count;
      spans = subst (AreAnswersAt names text c.args.lines.now 0) (sym c.in_ok-push.ensures.items)
          (more_answers names c.loop-line.text.items text (line_text_of (line_at names line))
          c.in_ok-put_line.ensures.text c.args.lines.now c.loop-line.spans.items line span
          (omega arith)
          (subst (λ n. line ≡ get_or c.args.lines.now n line) (sym count) c.line-item.is)
          c.in_ok-put_line.ensures.span was.spans);
    }
