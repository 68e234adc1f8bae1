use Rattle.redodb_database.specs.Tables.{state_of}
use Rattle.redodb_dump.proofs.StateOver.{is_state_over}
use Rattle.redodb_dump.proofs.printed.dump.Goals as goal

pub returns-clause-over : goal.returns-clause-over
returns-clause-over c =
    let live = c.args.live.now in
    λ sessions.
    is_state_over live.names c.count-count.ensures.names (state_of live.tables)
    c.builders_hold.ensures sessions c.in_ok-put_names.ensures.forms
    c.in_ok-put_targets.ensures.forms
