use Rattle.std.proofs.Common.{◌∙◌, refl, ap, sym}
use Rattle.redodb_model.specs.Names.{by_number}
use Rattle.redodb_model.proofs.LetThrough.{free_through}
use Rattle.redodb_commands.specs.Meaning.{command_of, reply_of}
use Rattle.redodb_database.specs.Tables.{Tables, state_of, tables_records, locks_of}
use Rattle.redodb_database.proofs.Obeyed.{accepted_told, freed, freed_at, obeyed_accepted}
use Rattle.redodb_database.proofs.redo.Redo.obey.Goals as goal

pub grant-requires-clause-free : goal.grant-requires-clause-free
grant-requires-clause-free c =
    let old : Tables = c.args.self.now in
    free_through by_number (state_of old) c.args.session (command_of c.args.command.now)
    (reply_of c.args.reply.now) c.in-Some.t (sym c.in-Some.ensures) c.requires.answers
    c.requires.accepted

pub apply-requires-clause-accepted : goal.apply-requires-clause-accepted
apply-requires-clause-accepted c =
    accepted_told c.args.self.now c.args.session (command_of c.args.command.now)
    (reply_of c.args.reply.now) (sym c.in-None.ensures) c.requires.answers c.requires.accepted

pub returns-in-Some-freed_by-clause-after : goal.returns-in-Some-freed_by-clause-after
returns-in-Some-freed_by-clause-after c =
    let mid : Tables = c.apply.new.self in
    obeyed_accepted c.args.self.now mid c.free.new.self c.args.session
    (command_of c.args.command.now) (reply_of c.args.reply.now) (sym c.in-None.ensures)
    c.requires.answers c.requires.accepted c.apply.ensures.after c.apply.ensures.kept
    (ap tables_records c.free.ensures)
    (ap locks_of c.free.ensures ∙ freed_at mid c.in-Some-freed_by.t
    ∙ ap (freed by_number (locks_of mid)) c.in-Some-freed_by.ensures)

pub returns-in_default-clause-after : goal.returns-in_default-clause-after
returns-in_default-clause-after c =
    let mid : Tables = c.apply.new.self in
    obeyed_accepted c.args.self.now mid mid c.args.session (command_of c.args.command.now)
    (reply_of c.args.reply.now) (sym c.in-None.ensures) c.requires.answers c.requires.accepted
    c.apply.ensures.after c.apply.ensures.kept refl
    (ap (freed by_number (locks_of mid)) c.in_default.ensures)
