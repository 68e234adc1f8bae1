use Rattle.redodb_conversation.proofs.DumpedPast.{dump_is}
use Rattle.redodb_conversation.proofs.dumping.dumped.Goals as goal

pub returns : goal.returns
returns c =
    dump_is c.args.live.now c.in-Ok.log.items c.in-Ok.ensures.log c.in-Ok.ensures.over
