use Rattle.std.proofs.Common.{◌≤◌, ℕ, List, ◌++◌, length, refl, sym, ap, ◌∙◌, subst, inl, inr}
use Rattle.std.specs.Prelude.{IfSome}
use Rattle.redodb_log.specs.Logs.{log_header, past_lines, HasPast}
use Rattle.std.proofs.lemmas.Result.{err_from_is_err_and}
use Rattle.redodb_keeping.specs.Support.Opening.{IsKeptFrom}
use Rattle.redodb_conversation.proofs.OpeningEnds.{IsDumpOf, IsHeaderIfNone, opened_from}
use Rattle.redodb_conversation.proofs.opening.open.Goals as goal
use Rattle.redodb_conversation.proofs.opening.open.Goals.{then-bytes-eq0+in_ok-extend_from_slice, else-bytes-eq0, in-Some, in-None}

pub returns-in_err-extend_from_slice-clause-cause : goal.returns-in_err-extend_from_slice-clause-cause
returns-in_err-extend_from_slice-clause-cause c =
    let p = err_from_is_err_and c.from_residual-in_err-extend_from_slice.result
    c.from_residual-in_err-extend_from_slice.ensures.1 in
    rw (p.1, p.2) tt

pub returns-in_err-end_all-clause-cause : goal.returns-in_err-end_all-clause-cause
returns-in_err-end_all-clause-cause c =
    let p = err_from_is_err_and c.from_residual-in_err-end_all.result
    c.from_residual-in_err-end_all.ensures.1 in
    rw (p.1, p.2) tt

pub returns-in_err-greeting-clause-cause : goal.returns-in_err-greeting-clause-cause
returns-in_err-greeting-clause-cause c =
    let p = err_from_is_err_and c.from_residual-in_err-greeting.result
    c.from_residual-in_err-greeting.ensures.1 in
    rw (p.1, p.2) tt

pub returns-clause-opened : goal.returns-clause-opened
returns-clause-opened c = λ past has.
    let kept = c.in_ok-restored.field-0 in
    let is : IsKeptFrom c.args.keeping.salvage past c.args.log.items kept =
    subst (λ (t : List ℕ). IsKeptFrom c.args.keeping.salvage past t kept) c.deref.ensures.value
    (c.in_ok-restored.ensures.kept past
    (subst (λ (t : List ℕ). HasPast past t) (sym c.deref.ensures.value) has)) in
    let header = c.if-bytes-eq0.logged.items in
    let header_is : IsHeaderIfNone kept.restored.bytes header =
    elim c.if-bytes-eq0.branch [
      | then-bytes-eq0+in_ok-extend_from_slice w ↦ inl (
        w.if-bytes-eq0.true,
        ap (λ v. v.items) w.logged-is ∙ w.in_ok-extend_from_slice.ensures.items
            ∙ ap (λ (t : List ℕ). t ++ log_header) c.new-logged.ensures.items,
      )
      | else-bytes-eq0 w ↦ inr (
        w.if-bytes-eq0.false,
        ap (λ v. v.items) w.logged-is ∙ c.new-logged.ensures.items,
      )
    ] in
    let dump_is : IfSome c.match-most.dump (λ dump. IsDumpOf c.end_all.new.live dump.items) =
    elim c.match-most.branch [
      | in-Some w ↦ subst (λ o. IfSome o (λ dump. IsDumpOf c.end_all.new.live dump.items))
          (sym w.dump-is) w.dumped-dump.ensures
      | in-None w ↦ subst (λ o. IfSome o (λ dump. IsDumpOf c.end_all.new.live dump.items))
          (sym w.dump-is) tt
    ] in
    opened_from c.args.keeping.salvage c.args.version.now past c.args.log.items kept is header
    header_is
    (record {
      live = c.end_all.new.live;
      lines = kept.restored.lines;
      bytes = kept.restored.bytes;
      rest = kept.rest;
      logged = c.end_all.new.logged;
      dump = c.match-most.dump;
      growth = c.new.result;
      greeting = c.in_ok-greeting.greeting;
    })
    (c.in_ok-end_all.ensures.ended (past_lines past ++ is.lines) is.logged is.left) refl refl dump_is
    c.in_ok-greeting.ensures

pub returns-clause-within : goal.returns-clause-within
returns-clause-within c =
    subst (λ (t : List ℕ). c.in_ok-restored.field-0.restored.bytes ≤ length t)
    c.deref.ensures.value c.in_ok-restored.ensures.within
