use Rattle.redodb_records.proofs.Inverses.{follows_insert}
use Rattle.redodb_records.proofs.inverse.put_in.Goals as goal

pub returns-then-not-was : goal.returns-then-not-was
returns-then-not-was c =
    let e = c.insert.ensures in
    follows_insert c.args.n c.args.t c.args.was c.args.lists.now.items c.index_mut.result.now
    c.insert.new.self c.requires.name c.index_mut.ensures.value c.if-not-was.true e.each e.length
    e.room
