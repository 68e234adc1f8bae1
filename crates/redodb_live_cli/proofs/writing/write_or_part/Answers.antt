use Rattle.redodb_log.proofs.Prefixes.{take_prefix}
use Rattle.redodb_live_cli.proofs.writing.write_or_part.Goals as goal

pub returns-in_default : goal.returns-in_default
returns-in_default g c = take_prefix c.writes.at c.args.bytes.now
