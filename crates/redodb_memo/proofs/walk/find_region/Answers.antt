use Rattle.redodb_memo.proofs.Spreading.{region_found, touched_first}
use Rattle.redodb_memo.proofs.walk.find_region.Goals as goal

pub returns-clause-region : goal.returns-clause-region
returns-clause-region g c =
    let r = g.D.Dependencies.records c.args.database.now in
    region_found r c.args.seeds.now c.requires.unmarked c.enter_touched.ensures c.spread.ensures
    c.requires.empty

pub returns-clause-touched : goal.returns-clause-touched
returns-clause-touched g c =
    let r = g.D.Dependencies.records c.args.database.now in
    touched_first r c.args.seeds.now c.requires.unmarked c.enter_touched.ensures c.spread.ensures
    c.queue_len-touched.result c.queue_len-touched.ensures.len
