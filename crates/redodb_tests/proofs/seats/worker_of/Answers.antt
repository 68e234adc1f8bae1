use Rattle.redodb_tests.proofs.seats.worker_of.Goals as goal

pub returns-in-Ok : goal.returns-in-Ok
returns-in-Ok c = c.in-Ok.ensures.works c.args.board.now c.requires.sits.0
