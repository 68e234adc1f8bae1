use Rattle.std.proofs.Common.{◌∙◌, ap, arith}
use Rattle.redodb_model.specs.State.{Cell, mark_in}
use Rattle.redodb_database.proofs.Effects.{changed_all, changed_more}
use Rattle.redodb_database.proofs.redo.changes.change_each.Goals as goal

pub loop-place-preserved : goal.loop-place-preserved
loop-place-preserved c = record {
  so_far =
      changed_more c.args.names.now c.loop-place.place c.loop-place-test.true
      c.loop-place.invariant.so_far
      c.put_change.ensures.rows
      (ap (λ (cell : Cell). mark_in cell.state cell) c.cell.ensures);
  room = λ k. c.put_change.ensures.room c.args.t k ∙ c.loop-place.invariant.room k;
  count = c.put_change.ensures.count ∙ c.loop-place.invariant.count;
}

pub returns-clause-after : goal.returns-clause-after
returns-clause-after c =
    changed_all c.args.names.now c.loop-place.place (omega arith) c.loop-place.invariant.so_far
