use Rattle.std.proofs.Common.{◌≡◌, ◌≤◌, ◌<◌, ◌^◌, ◌∙◌, ℕ, length, sym, ap, subst, arith}
use Rattle.std.specs.List.{flat_map}
use Rattle.redodb_model.specs.State.{Rows, State, no_rows}
use Rattle.redodb_records.specs.Rows.{rows_of}
use Rattle.redodb_database.specs.Support.Parts.{Parts, parts_count, state_made}
use Rattle.redodb_dump.specs.Dumps.{numbers_of, rows_line}
use Rattle.redodb_dump.specs.Support.Forms.{IsHolder}
use Rattle.redodb_dump.specs.Support.Read.{AreCellsUpTo, AreTargetsUpTo, IsNumbered}
use Rattle.redodb_dump.specs.Support.SetParts.{HasNumbersUpTo}
use Rattle.redodb_dump.proofs.Failing.{err_then}
use Rattle.redodb_dump.proofs.ReadTargets.{none_yet}
use Rattle.redodb_dump.proofs.SameParts.{cells_kept}
use Rattle.redodb_dump.proofs.SettingParts.{all_set}
use Rattle.redodb_dump.proofs.parsing.read_parts.Goals as goal

pub returns-clause-sessions : goal.returns-clause-sessions
returns-clause-sessions c =
    let made = c.in_ok-loading.ensures in
    let set = c.set_cells.new.loading in
    let sized : length set.grants ≡ parts_count set =
    subst (λ (parts : Parts). length parts.grants ≡ parts_count parts) c.loading.view_is
    c.loading.invariant.parts.grants_for_each in
    let put =
    all_set c.in_ok-loading.loading set c.put_targets.new.loading made.empty made.most
    c.set_cells.ensures.count c.set_cells.ensures.grants sized c.in_ok-rows.ensures.set
    c.put_targets.ensures.same in
    λ t. subst (λ (st : State ℕ). IsHolder (st.locks.holder t)) (sym c.in_ok-redo.ensures.state)
    (put.sessions t)

pub returns-clause-calls : goal.returns-clause-calls
returns-clause-calls c =
    let made = c.in_ok-loading.ensures in
    let set = c.set_cells.new.loading in
    let sized : length set.grants ≡ parts_count set =
    subst (λ (parts : Parts). length parts.grants ≡ parts_count parts) c.loading.view_is
    c.loading.invariant.parts.grants_for_each in
    let put =
    all_set c.in_ok-loading.loading set c.put_targets.new.loading made.empty made.most
    c.set_cells.ensures.count c.set_cells.ensures.grants sized c.in_ok-rows.ensures.set
    c.put_targets.ensures.same in
    let count = c.set_cells.ensures.count ∙ made.count in
    λ most within. subst (λ (m : ℕ). m ≤ most) (sym c.in_ok-redo.ensures.calls)
    (put.least most
    (subst (λ (n : ℕ). HasNumbersUpTo n (state_made c.put_targets.new.loading) most) (sym count)
    (subst (λ (st : State ℕ). HasNumbersUpTo c.args.count st most) c.in_ok-redo.ensures.state
    within)))

pub returns-in_err-put_targets-clause-only : goal.returns-in_err-put_targets-clause-only
returns-in_err-put_targets-clause-only c = λ names st is long whole.
    let made = c.in_ok-loading.ensures in
    let set : Parts = c.set_cells.new.loading in
    let first : Parts = c.in_ok-loading.loading in
    let held : length set.holders ≡ parts_count set =
    subst (λ (parts : Parts). length parts.holders ≡ parts_count parts) c.loading.view_is
    c.loading.invariant.parts.holder_for_each in
    let sized : length set.grants ≡ parts_count set =
    subst (λ (parts : Parts). length parts.grants ≡ parts_count parts) c.loading.view_is
    c.loading.invariant.parts.grants_for_each in
    let count = c.set_cells.ensures.count in
    let counted : length names ≡ parts_count first = long ∙ sym made.count in
    let none : AreCellsUpTo names st first 0 = record {
      holder_for_each = sym c.set_cells.ensures.holders ∙ held ∙ count;
      grants_for_each = sym c.set_cells.ensures.grants ∙ sized ∙ count;
      cells = λ k below. absurd (omega (arith, below));
      holders = λ k below. absurd (omega (arith, below));
      grants = λ k below. absurd (omega (arith, below));
    } in
    let read =
    c.in_ok-rows.ensures.only names st (flat_map (rows_line names st) (numbers_of names)) is counted
    none whole in
    let bare : rows_of set.rows ≡ no_rows =
    ap rows_of c.set_cells.ensures.rows ∙ ap (λ (own : State ℕ). own.records.rows) made.empty in
    let targets : AreTargetsUpTo names st (rows_of set.rows) 0 =
    subst (λ (rows : Rows ℕ). AreTargetsUpTo names st rows 0) (sym bare) (none_yet names st) in
    let few = is.few in
    let small : c.line_of.result < 2 ^ 33 = omega (arith, c.line_of.ensures, few, long) in
    let sizes : length names ≡ parts_count set = counted ∙ sym count in
    err_then c.from_residual-in_err-put_targets.result c.in_err-put_targets.field-0.0 _ _
    c.from_residual-in_err-put_targets.ensures.1
    (c.in_err-put_targets.ensures.only names st small is sizes read.1 targets read.0)

pub returns-clause-only : goal.returns-clause-only
returns-clause-only c = λ names st is long whole.
    let made = c.in_ok-loading.ensures in
    let set : Parts = c.set_cells.new.loading in
    let first : Parts = c.in_ok-loading.loading in
    let held : length set.holders ≡ parts_count set =
    subst (λ (parts : Parts). length parts.holders ≡ parts_count parts) c.loading.view_is
    c.loading.invariant.parts.holder_for_each in
    let sized : length set.grants ≡ parts_count set =
    subst (λ (parts : Parts). length parts.grants ≡ parts_count parts) c.loading.view_is
    c.loading.invariant.parts.grants_for_each in
    let count = c.set_cells.ensures.count in
    let counted : length names ≡ parts_count first = long ∙ sym made.count in
    let none : AreCellsUpTo names st first 0 = record {
      holder_for_each = sym c.set_cells.ensures.holders ∙ held ∙ count;
      grants_for_each = sym c.set_cells.ensures.grants ∙ sized ∙ count;
      cells = λ k below. absurd (omega (arith, below));
      holders = λ k below. absurd (omega (arith, below));
      grants = λ k below. absurd (omega (arith, below));
    } in
    let read =
    c.in_ok-rows.ensures.only names st (flat_map (rows_line names st) (numbers_of names)) is counted
    none whole in
    let bare : rows_of set.rows ≡ no_rows =
    ap rows_of c.set_cells.ensures.rows ∙ ap (λ (own : State ℕ). own.records.rows) made.empty in
    let targets : AreTargetsUpTo names st (rows_of set.rows) 0 =
    subst (λ (rows : Rows ℕ). AreTargetsUpTo names st rows 0) (sym bare) (none_yet names st) in
    let few = is.few in
    let small : c.line_of.result < 2 ^ 33 = omega (arith, c.line_of.ensures, few, long) in
    let sizes : length names ≡ parts_count set = counted ∙ sym count in
    let put = c.in_ok-put_targets.ensures.only names st small is sizes read.1 targets read.0 in
    let cells = cells_kept names st (length names) c.put_targets.ensures.same read.1 in
    subst (IsNumbered names st) (sym c.in_ok-redo.ensures.state) (record {
      cells = cells.cells;
      holders = cells.holders;
      grants = cells.grants;
      rows = put;
    })
