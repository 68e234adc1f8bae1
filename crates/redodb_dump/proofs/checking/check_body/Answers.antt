use Rattle.std.proofs.Common.{◌∙◌, sym}
use Rattle.std.specs.List.{flat_map}
use Rattle.std.proofs.lemmas.List.{append_cancel_left}
use Rattle.redodb_live.specs.Support.LiveState.{state_in}
use Rattle.redodb_database.specs.Tables.{state_of}
use Rattle.redodb_dump.specs.Dumps.{cell_line, numbers_of, rows_line}
use Rattle.redodb_dump.proofs.Failing.{if_err_then}
use Rattle.redodb_dump.proofs.StateOver.{is_state_over}
use Rattle.redodb_dump.proofs.checking.check_body.Goals as goal

pub returns-clause-over : goal.returns-clause-over
returns-clause-over c =
    let live = c.args.live.now in
    is_state_over live.names c.count-count.ensures.names (state_of live.tables)
    c.builders_hold.ensures c.requires c.in_ok-rows.ensures.forms c.in_ok-check_rows.ensures.forms

pub returns-in_err-rows-clause-only : goal.returns-in_err-rows-clause-only
returns-in_err-rows-clause-only c =
    let live = c.args.live.now in
    if_err_then c.from_residual.result c.in_err-rows.field-0.0 _ c.from_residual.ensures.1
    (λ whole. c.in_err-rows.ensures.only
    (flat_map (rows_line live.names (state_in live)) (numbers_of live.names)) whole)

pub returns-in_err-check_rows-clause-only : goal.returns-in_err-check_rows-clause-only
returns-in_err-check_rows-clause-only c =
    let live = c.args.live.now in
    let lines = flat_map (rows_line live.names (state_in live)) (numbers_of live.names) in
    if_err_then c.from_residual-in_err-check_rows.result c.in_err-check_rows.field-0.0 _
    c.from_residual-in_err-check_rows.ensures.1
    (λ whole. c.in_err-check_rows.ensures.only
    (append_cancel_left (flat_map (cell_line (state_in live)) live.names) c.in_ok-rows.rows.now
    lines (sym c.in_ok-rows.ensures.text ∙ whole)))
