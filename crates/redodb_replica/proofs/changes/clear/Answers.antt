use Rattle.redodb_replica.proofs.Blocks.{block_of}
use Rattle.redodb_replica.proofs.Fitting.{cleared_marks}
use Rattle.redodb_replica.proofs.Written.{rows_cleared}
use Rattle.redodb_replica.proofs.changes.clear.Goals as goal

pub returns : goal.returns
returns c = record {
  sized = c.clear.ensures.sized;
  rows = λ always.
      rows_cleared c.args.graph.now.tables.stamps c.args.graph.now.tables.digests
      c.args.graph.now.tables.pairs.items c.args.rows.now c.clear.new.self always c.args.t
      c.start.result c.start-2.result c.requires.rows
      (block_of c.args.graph.now.tables.pairs.items c.args.t c.start.result c.start-2.result
      c.start.ensures c.start-2.ensures)
      c.start-2.ensures.within c.clear.ensures;
  marks =
      cleared_marks c.args.graph.now.tables c.args.rows.now c.clear.new.self c.start.result
      c.start-2.result c.clear.ensures;
}
