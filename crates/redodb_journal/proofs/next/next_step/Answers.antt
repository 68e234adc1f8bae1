use Rattle.std.proofs.Common.{map, arith}
use Rattle.redodb_model.proofs.Nexts.{next_is_line}
use Rattle.redodb_model.specs.Names.{by_text}
use Rattle.redodb_commands.specs.Support.Meaning.{item_of}
use Rattle.redodb_journal.specs.Journals.{lines_told}
use Rattle.redodb_journal.specs.Numbers.{numbered_in}
use Rattle.redodb_journal.proofs.next.next_step.Goals as goal

pub overflow_cast-result : goal.overflow_cast-result
overflow_cast-result c = omega (arith, c.closing_number.ensures.fits c.requires.numbers)

pub returns-in-Some-clause-next : goal.returns-in-Some-clause-next
returns-in-Some-clause-next c s says =
    let script = map item_of c.args.script.now in
    next_is_line (by_text c.args.names.now) script (lines_told s script c.args.entries.now)
    (numbered_in script c.in-Some.number) (c.in-Some.ensures.next s)
