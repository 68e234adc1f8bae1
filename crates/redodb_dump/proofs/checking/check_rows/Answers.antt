use Rattle.std.proofs.Common.{◌≡◌, ◌∙◌, ◌+◌, ◌-◌, suc, ◌++◌, length, ap, below_more, arith}
use Rattle.std.specs.List.{flat_map, range_with_len}
use Rattle.std.proofs.lemmas.Bool.Decides.{nat_tests}
use Rattle.redodb_model.specs.Names.{Text}
use Rattle.redodb_live.specs.Support.LiveState.{state_in}
use Rattle.redodb_dump.specs.Dumps.{rows_line}
use Rattle.redodb_dump.proofs.CutRows.{cut_more, left_after, next_number}
use Rattle.redodb_dump.proofs.checking.check_rows.Goals.{then-not-is_empty, else-not-is_empty}
use Rattle.redodb_dump.proofs.checking.check_rows.Goals as goal

pub loop-t-preserved : goal.loop-t-preserved
loop-t-preserved c =
    let line = rows_line c.args.live.now.names (state_in c.args.live.now) in
    let t = c.loop-t.t in
    let rest : Text = c.in-Some.rest.now in
    let few = c.loop-t.invariant.few in
    record {
      text = cut_more line t c.args.lines.now c.loop-t.left.now rest c.loop-t.invariant.text
          (c.in-Some.ensures ∙ ap (λ (text : Text). text ++ rest)
          (c.deref.ensures.value ∙ c.in_ok-put_rows.ensures.text
          ∙ ap (λ (text : Text). text ++ line t) c.clear.ensures.items));
      forms = below_more _ _ c.loop-t.invariant.forms c.in_ok-put_rows.ensures.forms;
      few = elim c.if-not-is_empty.branch [
        | then-not-is_empty w ↦ (let is = w.number-is in omega (arith, few, is))
        | else-not-is_empty w ↦ (let is = w.number-is in omega (arith, few, is))
      ];
    }

pub returns-then-is_empty-clause-forms : goal.returns-then-is_empty-clause-forms
returns-then-is_empty-clause-forms c =
    λ t below. c.loop-t.invariant.forms t (omega (arith, below))

pub returns-in_default-clause-only : goal.returns-in_default-clause-only
returns-in_default-clause-only c = λ whole.
    let names = c.args.live.now.names in
    let line = rows_line names (state_in c.args.live.now) in
    let t = c.loop-t.t in
    let count : length names ≡ t + suc (length names - (t + 1)) = omega arith in
    absurd (next_number line t (length names - (t + 1)) c.args.lines.now c.loop-t.left.now
    c.deref.result.now c.loop-t.invariant.text
    (whole ∙ ap (λ n. flat_map line (range_with_len 0 n)) count)
    (c.deref.ensures.value ∙ c.in_ok-put_rows.ensures.text
    ∙ ap (λ (text : Text). text ++ line t) c.clear.ensures.items)
    c.in_default.ensures)

pub returns-clause-only : goal.returns-clause-only
returns-clause-only c = λ whole.
    let names = c.args.live.now.names in
    let line = rows_line names (state_in c.args.live.now) in
    let t = c.loop-t.t in
    let all : t + 0 ≡ length names = omega arith in
    let none =
    left_after line t 0 (length names) c.args.lines.now c.loop-t.left.now all
    c.loop-t.invariant.text whole in
    let nothing : length c.loop-t.left.now ≡ 0 = ap length none in
    absurd (grind (arith, nat_tests))
