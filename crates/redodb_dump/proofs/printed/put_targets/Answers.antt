use Rattle.std.proofs.Common.{◌∙◌, ◌++◌, sym, ap, append_assoc, below_more, arith}
use Rattle.std.specs.List.{flat_map, range_with_len}
use Rattle.redodb_model.specs.Names.{Text}
use Rattle.redodb_live.specs.Support.LiveState.{state_in}
use Rattle.redodb_dump.specs.Dumps.{rows_line}
use Rattle.redodb_dump.proofs.SlotWords.{numbers_more}
use Rattle.redodb_dump.proofs.printed.put_targets.Goals as goal

pub loop-t-preserved : goal.loop-t-preserved
loop-t-preserved c =
    let line = rows_line c.args.live.now.names (state_in c.args.live.now) in
    let t = c.loop-t.t in
    let out : Text = c.args.out.now.items in
    record {
      text =
          c.in_ok-put_rows.ensures.text
          ∙ ap (λ (text : Text). text ++ line t) c.loop-t.invariant.text
          ∙ append_assoc out (flat_map line (range_with_len 0 t)) (line t)
          ∙ ap (λ (text : Text). out ++ text) (sym (numbers_more line t));
      forms = below_more _ _ c.loop-t.invariant.forms c.in_ok-put_rows.ensures.forms;
    }

pub returns-clause-forms : goal.returns-clause-forms
returns-clause-forms c = λ t below. c.loop-t.invariant.forms t (omega (arith, below))
