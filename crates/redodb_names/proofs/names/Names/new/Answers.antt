use Rattle.redodb_names.proofs.Numbered.{AreNumbered-none}
use Rattle.redodb_names.proofs.names.Names.new.Goals as goal

pub invariant_of-result : goal.invariant_of-result
invariant_of-result c = AreNumbered-none c.new.result c.new-2.result c.new.ensures.empty
