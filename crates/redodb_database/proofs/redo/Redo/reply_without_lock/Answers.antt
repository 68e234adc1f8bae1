use Rattle.std.proofs.Common.{sym, subst}
use Rattle.std.specs.Ordering.{nat_cmp}
use Rattle.redodb_commands.specs.Meaning.{command_of}
use Rattle.redodb_model.proofs.VerdictsByName.{RefusesBelow, verdict_below}
use Rattle.redodb_database.specs.Tables.{tables_count, tables_records}
use Rattle.redodb_database.proofs.redo.Redo.reply_without_lock.Goals as goal

pub returns-in-Some-clause-below : goal.returns-in-Some-clause-below
returns-in-Some-clause-below c =
    subst (RefusesBelow (tables_count c.args.self.now)) (sym c.in-Some.ensures)
    (verdict_below (tables_count c.args.self.now) nat_cmp (tables_records
    c.args.self.now) c.args.s c.args.holds (command_of c.args.command.now) c.requires.numbers)
