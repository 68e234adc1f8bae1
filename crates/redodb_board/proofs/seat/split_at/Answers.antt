use Rattle.redodb_board.proofs.Joins.{splits}
use Rattle.redodb_board.proofs.seat.split_at.Goals as goal

pub split_seat-requires : goal.split_seat-requires
split_seat-requires g c = (
  c.requires.table,
  c.requires.words,
  splits c.args.board.now.table.shared.key c.args.seat.now.id g.M.Middle.middle
      c.args.seat.now.me.0,
)
