use Rattle.std.proofs.Common.{◌==◌}
use Rattle.redodb_text.proofs.Places.{first_place}
use Rattle.redodb_text.proofs.scan.position_of.Goals as goal

pub returns : goal.returns
returns c = first_place (λ b. b == c.args.byte) c.args.text.now c.memchr.result c.memchr.ensures
