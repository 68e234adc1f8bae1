use Rattle.std.proofs.Common.{◌≡◌, ◌≤◌, ◌∙◌, ℕ, List, length, refl, sym, ap, subst, arith, inr}
use Rattle.std.specs.List.{flat_map}
use Rattle.redodb_model.specs.Names.{Text}
use Rattle.redodb_model.specs.State.{State}
use Rattle.redodb_model.specs.Support.Renaming.{named_state, numbering}
use Rattle.redodb_database.specs.Tables.{state_of}
use Rattle.redodb_dump.specs.Dumps.{HasCountsUpTo, HasSessions, numbers_of, rows_line}
use Rattle.redodb_dump.specs.Support.SetParts.{HasNumbersUpTo}
use Rattle.redodb_dump.proofs.NamedBack.{counts_numbered, named_back}
use Rattle.redodb_dump.proofs.SettingParts.{counts_by_number, sessions_by_name}
use Rattle.redodb_dump.proofs.parsing.parse.Goals as goal

pub returns-clause-sessions : goal.returns-clause-sessions
returns-clause-sessions c =
    subst HasSessions (sym c.from_parts.ensures.state)
    (sessions_by_name c.in_ok-names.names (state_of c.in_ok-redo.redo)
    c.in_ok-redo.ensures.sessions)

pub returns-clause-calls : goal.returns-clause-calls
returns-clause-calls c =
    let names = c.in_ok-names.names in
    let st = state_of c.in_ok-redo.redo in
    λ most within. subst (λ (m : ℕ). m ≤ most) (sym c.from_parts.ensures.calls)
    (c.in_ok-redo.ensures.calls most
    (subst (λ (n : ℕ). HasNumbersUpTo n st most) (sym c.len.ensures.count)
    (counts_by_number names st c.len.ensures.names most
    (subst (λ (s : State Text). HasCountsUpTo s most) c.from_parts.ensures.state within))))

pub returns-then-is_worn-clause-only : goal.returns-then-is_worn-clause-only
returns-then-is_worn-clause-only c = λ names st is long whole.
    let named =
    c.in_ok-names.ensures.only names st (flat_map (rows_line names st) (numbers_of names)) is long
    whole in
    let count : length names ≡ c.len.result = sym (c.len.ensures.count ∙ ap length named) in
    let redo = state_of c.in_ok-redo.redo in
    let own = c.in_ok-redo.ensures.only names st is count whole in
    inr (
      refl,
      λ most within.
          let calls =
          c.in_ok-redo.ensures.calls most (subst (λ (n : ℕ). HasNumbersUpTo n redo most) count
          (counts_numbered names st is.over redo own most within)) in
          let yes = c.is_worn.ensures.yes c.if-is_worn.true in
          let size = ap length named in
          omega arith,
    )

pub returns-clause-only : goal.returns-clause-only
returns-clause-only c = λ names st is long whole.
    let named =
    c.in_ok-names.ensures.only names st (flat_map (rows_line names st) (numbers_of names)) is long
    whole in
    let count : length names ≡ c.len.result = sym (c.len.ensures.count ∙ ap length named) in
    let redo = state_of c.in_ok-redo.redo in
    let own = c.in_ok-redo.ensures.only names st is count whole in (
      c.from_parts.ensures.names ∙ named,
      c.from_parts.ensures.state
          ∙ ap (λ (ns : List Text). named_state (numbering ns) redo) named
          ∙ named_back names st is.over redo own,
    )
