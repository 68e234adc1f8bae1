use Rattle.redodb_database.proofs.redo.changes.refresh.Goals as goal

pub correct-requires-clause-right : goal.correct-requires-clause-right
correct-requires-clause-right c = c.requires.right
