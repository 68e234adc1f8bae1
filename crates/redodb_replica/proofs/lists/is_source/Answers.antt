use Rattle.redodb_replica.proofs.lists.is_source.Goals as goal

pub returns-then-is_idle_file : goal.returns-then-is_idle_file
returns-then-is_idle_file c =
    let file = c.is_idle_file.ensures.0 c.if-is_idle_file.true in
    let row = c.has_row_on.ensures c.args.cells.now in
    (λ e. (file.0, file.1, row.0 e), λ p. row.1 p.2)
