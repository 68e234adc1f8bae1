use Rattle.redodb_records.proofs.Inverses.{follows_remove}
use Rattle.redodb_records.proofs.inverse.take_out.Goals as goal

pub returns-then-was : goal.returns-then-was
returns-then-was c =
    let e = c.remove.ensures in
    follows_remove c.args.n c.args.t c.args.was c.args.lists.now.items c.index_mut.result.now
    c.remove.new.self c.requires.name c.index_mut.ensures.value c.if-was.true e.each e.length e.room
