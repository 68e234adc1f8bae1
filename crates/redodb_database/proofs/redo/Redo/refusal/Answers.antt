use Rattle.std.proofs.Common.{◌≡◌, Some, None, option_map, refl, arith}
use Rattle.redodb_model.specs.Names.{by_number}
use Rattle.redodb_commands.specs.Meaning.{command_of, refusal_of}
use Rattle.redodb_commands.specs.Support.Meaning.{kind_of}
use Rattle.redodb_model.specs.State.{target_state}
use Rattle.redodb_records.specs.Refusals.{refusal_by_target}
use Rattle.redodb_database.specs.Tables.{Tables, tables_records}
use Rattle.redodb_database.proofs.Refusals.{free_without_target, refusal_by_parts}
use Rattle.redodb_database.proofs.redo.Redo.refusal.Goals as goal

pub returns-in_err-t : goal.returns-in_err-t
returns-in_err-t c =
    let none : c.from_residual.result ≡ None = grind arith in
    rw none (free_without_target by_number (tables_records c.args.self.now) c.args.s
    c.args.holds (command_of c.args.command.now) c.in_err-t.ensures)

pub returns-in-Some : goal.returns-in-Some
returns-in-Some c =
    let now : Tables = c.args.self.now in
    let by_cell : Some (refusal_of c.in-Some.refusal) ≡ refusal_by_target
    (target_state (tables_records now) c.in_ok-t.t) c.args.s c.args.holds
    (kind_of c.args.command.now) =
    rw (← c.self.view_is, ← c.kind.ensures) c.in-Some.ensures
    in
    refusal_by_parts by_number (tables_records now) c.args.s c.args.holds c.args.command.now
    c.in_ok-t.t (Some (refusal_of c.in-Some.refusal)) _ c.in_ok-t.ensures by_cell refl

pub returns-in-None : goal.returns-in-None
returns-in-None c =
    let now : Tables = c.args.self.now in
    let by_cell : None ≡ refusal_by_target
    (target_state (tables_records now) c.in_ok-t.t) c.args.s c.args.holds
    (kind_of c.args.command.now) =
    rw (← c.self.view_is, ← c.kind.ensures) c.in-None.ensures
    in
    refusal_by_parts by_number (tables_records now) c.args.s c.args.holds c.args.command.now
    c.in_ok-t.t None (option_map refusal_of c.refusal_of_names.result) c.in_ok-t.ensures by_cell
    c.refusal_of_names.ensures
