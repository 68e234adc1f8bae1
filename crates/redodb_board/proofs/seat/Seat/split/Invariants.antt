use Rattle.redodb_board.proofs.seat.Seat.split.Given as goal

abbrev pub ghosts-split_at : goal.ghosts-split_at
ghosts-split_at a = record { middle = a.middle }
