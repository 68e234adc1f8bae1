use Rattle.redodb_records.proofs.Forgetting.{kept_cleared}
use Rattle.redodb_records.proofs.Changed.{rows_cleared, room_cleared}
use Rattle.redodb_records.proofs.rows.DepRows.clear.Goals as goal

pub invariant_of-self : goal.invariant_of-self
invariant_of-self c =
    kept_cleared c.args.t c.self.view_is c.requires c.index_mut.ensures.value c.clear.ensures
    c.forget.ensures.needs c.forget.ensures.awaits c.self.invariant

pub returns-clause-rows : goal.returns-clause-rows
returns-clause-rows c =
    rows_cleared c.args.t c.self.view_is c.requires c.index_mut.ensures.value c.clear.ensures

pub returns-clause-room : goal.returns-clause-room
returns-clause-room c =
    room_cleared c.args.t c.self.view_is c.requires c.index_mut.ensures.value c.clear.ensures
