use Rattle.std.proofs.Common.{◌≡◌, ◌+◌, ◌*◌, ◌<◌, ◌≤◌, ◌++◌, ◌∙◌, List, IfOk, ap, sym, subst, append_assoc, drop, take, get_or, length, map, arith, rules}
use Rattle.std.proofs.lemmas.Grind.{common_steps}
use Rattle.std.specs.List.{flat_map}
use Rattle.std.proofs.lemmas.List.{length-take}
use Rattle.redodb_model.specs.Names.{Text}
use Rattle.redodb_commands.specs.Meaning.{line_at}
use Rattle.redodb_journal.specs.Plans.{scripts_named}
use Rattle.redodb_history.specs.Histories.{line_text_of}
use Rattle.redodb_run.specs.Support.Lines.{IsAnswerAt, AreShown}
use Rattle.redodb_run.specs.Support.Printed.{ArePrinted}
use Rattle.std.specs.Fork.{slice_chunk}
use Rattle.redodb_run.specs.declared.lines.Span.{Span}
use Rattle.redodb_run.proofs.Chunks.{next_chunk, chunk_begins, chunk_shown}
use Rattle.redodb_run.proofs.Spans.{chunk_answers}
use Rattle.redodb_run.proofs.printed.put_chunks.Goals as goal

pub put_parts-requires-clause-spans : goal.put_parts-requires-clause-spans
put_parts-requires-clause-spans c n line span less line_is span_is =
    let names = c.args.plan.now.names in
    let lines = c.args.lines.now in
    let size = c.args.size in
    let at = c.loop-chunk.chunk-index in
    let from = c.loop-chunk.from in
    let printed = c.in-Ok.printed in
    let spans = printed.spans.items in
    let chunk = slice_chunk lines size at in
    let shown : AreShown names chunk printed =
    subst (λ r. IfOk r (AreShown names chunk)) c.in-Ok.is
    (c.requires.chunks.each at c.chunk-item.result (omega arith) c.chunk-item.is) in
    let few : length spans ≤ size =
    let count = shown.count in
    let short = length-take size (drop (at * size) lines) in
    omega arith in
    let read = c.deref-in-loop-chunk-2.ensures.value in
    subst (λ (text : Text). IsAnswerAt text (line_at names line) span)
    (sym c.deref-in-loop-chunk.ensures.value)
    (chunk_answers names printed.text.items lines size at from spans few
    (chunk_begins lines size at from (length spans) c.loop-chunk.invariant.from shown.count)
    shown.spans n line span (subst (λ (xs : List Span). n < length xs) read less) line_is
    (subst (λ (xs : List Span). span ≡ get_or xs n span) read span_is))

pub loop-chunk-preserved : goal.loop-chunk-preserved
loop-chunk-preserved c =
    let p = c.args.plan.now in
    let lines = c.args.lines.now in
    let size = c.args.size in
    let at = c.loop-chunk.chunk-index in
    let from = c.loop-chunk.from in
    let count = c.len-from.result in
    let printed = c.in-Ok.printed in
    let spans = printed.spans.items in
    let chunk = slice_chunk lines size at in
    let shown : AreShown p.names chunk printed =
    subst (λ r. IfOk r (AreShown p.names chunk)) c.in-Ok.is
    (c.requires.chunks.each at c.chunk-item.result (omega arith) c.chunk-item.is) in
    let all : count ≡ length spans = search rules in
    let long : count ≡ length chunk = all ∙ shown.count in
    let was = c.loop-chunk.invariant in
    let before = c.args.text.now.items in
    let text = flat_map line_text_of (map (line_at p.names) (take from lines)) in
    record {
      from = next_chunk lines size at from count was.from long;
      text = c.in_ok-extend_from_slice.ensures.items
          ∙ (λ k. was.text k ++ (c.deref.ensures.value ∙ shown.text) k)
          ∙ append_assoc before text (flat_map line_text_of (map (line_at p.names) chunk))
          ∙ ap (λ (t : Text). before ++ t)
          (chunk_shown lines size at from count was.from long line_text_of (line_at p.names));
      parts = subst (λ n. ArePrinted (scripts_named p) (map (line_at p.names) lines)
          (map (line_at p.names) (drop (from + n) lines)) c.put_parts.new.parts.items)
          (ap length c.deref-in-loop-chunk-2.ensures.value ∙ sym all) c.in_ok-put_parts.ensures;
    }

pub put_parts-requires-clause-within : goal.put_parts-requires-clause-within
put_parts-requires-clause-within c = grind (arith, common_steps)

pub returns-in_err-put_parts-clause-parts : goal.returns-in_err-put_parts-clause-parts
returns-in_err-put_parts-clause-parts c = grind (arith, common_steps)

pub returns-clause-parts : goal.returns-clause-parts
returns-clause-parts c = grind (arith, common_steps)
