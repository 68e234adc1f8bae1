use Rattle.std.proofs.Common.{◌∙◌, arith}
use Rattle.redodb_database.proofs.Effects.{made_all, made_more}
use Rattle.redodb_database.proofs.redo.changes.create_each.Goals as goal

pub loop-n-preserved : goal.loop-n-preserved
loop-n-preserved c = record {
  so_far = λ cells. made_more c.args.names.now c.loop-n.n-index c.loop-n-test.true
      (c.loop-n.invariant.so_far cells) c.put_created.ensures.rows;
  room = λ k. c.put_created.ensures.room c.args.t k ∙ c.loop-n.invariant.room k;
  count = c.put_created.ensures.count ∙ c.loop-n.invariant.count;
}

pub returns-clause-after : goal.returns-clause-after
returns-clause-after c cells =
    made_all c.args.names.now c.loop-n.n-index (omega arith) (c.loop-n.invariant.so_far cells)
