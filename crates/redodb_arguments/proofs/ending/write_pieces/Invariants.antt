use Rattle.std.proofs.Common.{◌≡◌, take}
use Rattle.std.specs.List.{flat_map}
use Rattle.redodb_io.specs.Watched.{failures_of}
use Rattle.redodb_io.specs.Devices.{Writes}
use Rattle.redodb_arguments.proofs.ending.write_pieces.Given as goal

abbrev pub invariant-loop-piece : goal.invariant-loop-piece
invariant-loop-piece g l = record {
  written : Writes g.W.Write.contents l.fn.err l.err
      (flat_map (λ piece. piece.now) (take l.piece-index l.pieces));
  count : failures_of l.err ≡ failures_of l.fn.err;
}
