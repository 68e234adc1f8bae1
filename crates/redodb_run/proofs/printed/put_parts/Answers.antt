use Rattle.std.proofs.Common.{◌≡◌, ◌+◌, ◌∷◌, ◌∙◌, List, ap, sym, subst, drop, map, arith}
use Rattle.std.proofs.lemmas.Grind.{common_steps}
use Rattle.std.proofs.lemmas.List.{drop_more}
use Rattle.redodb_model.specs.Names.{Text}
use Rattle.redodb_model.specs.History as histories
use Rattle.redodb_commands.specs.Meaning.{line_at}
use Rattle.redodb_commands.specs.declared.reply.Line.{Line}
use Rattle.redodb_journal.specs.Plans.{scripts_named}
use Rattle.redodb_run.specs.Support.Printed.{ArePrinted}
use Rattle.redodb_run.proofs.Spans.{answer_here}
use Rattle.redodb_run.proofs.printed.put_parts.Goals as goal

pub cut-requires : goal.cut-requires
cut-requires c =
    let is = answer_here c.args.plan.now.names c.args.text.now c.args.lines.now c.args.from
    c.args.spans.now c.requires.spans c.loop-at.at c.index-lines-from.result (omega arith)
    c.index-lines-from.is (record { start = 0; end = 0 }) in
    (is.ordered, is.within)

pub put_own-requires-clause-answer : goal.put_own-requires-clause-answer
put_own-requires-clause-answer c =
    let is = answer_here c.args.plan.now.names c.args.text.now c.args.lines.now c.args.from
    c.args.spans.now c.requires.spans c.loop-at.at c.index-lines-from.result (omega arith)
    c.index-lines-from.is (record { start = 0; end = 0 }) in
    c.cut.ensures ∙ is.shown

pub loop-at-preserved : goal.loop-at-preserved
loop-at-preserved c =
    let p = c.args.plan.now in
    let at = c.args.from + c.loop-at.at in
    let lines = c.args.lines.now in
    let line = c.index-lines-from.result in
    let all = map (line_at p.names) lines in
    let later = map (line_at p.names) (drop (at + 1) lines) in
    let first : map (line_at p.names) (drop at lines) ≡ line_at p.names line ∷ later =
    ap (map (line_at p.names)) (drop_more lines at line (omega arith))
    ∙ ap (λ (l : Line). line_at p.names l ∷ later) (sym c.index-lines-from.is) in
    let next : at + 1 ≡ c.args.from + (c.loop-at.at + 1) = omega arith in
    subst (λ n. ArePrinted (scripts_named p) all (map (line_at p.names) (drop n lines))
    c.put_own.new.parts.items) next
    (c.in_ok-put_own.ensures all later
    (subst (λ (ls : List (histories.Line Text)). ArePrinted (scripts_named p) all ls
    c.loop-at.parts.items) first c.loop-at.invariant))

pub put_own-requires-clause-line : goal.put_own-requires-clause-line
put_own-requires-clause-line c = grind (arith, common_steps)

pub put_own-requires-clause-count : goal.put_own-requires-clause-count
put_own-requires-clause-count c = grind (arith, common_steps)

pub put_own-requires-clause-few : goal.put_own-requires-clause-few
put_own-requires-clause-few c = grind (arith, common_steps)
