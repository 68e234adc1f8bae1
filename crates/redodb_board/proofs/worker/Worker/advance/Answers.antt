use Rattle.std.proofs.Common.{length, ◌∙◌, sym, ap, subst}
use Rattle.std.proofs.lemmas.Result.{err_from_is_err_and}
use Rattle.redodb_model.specs.Renaming.{IsBelow}
use Rattle.redodb_board.specs.Plays.{own_way}
use Rattle.redodb_board.specs.Kept.{WorksAt}
use Rattle.redodb_board.specs.Outcomes.{Made}
use Rattle.redodb_board.specs.Shown.{session_of, journal_of, tries_of}
use Rattle.redodb_board.proofs.NextSteps.{own_below, steps_on, locks_on, frees_on}
use Rattle.redodb_board.proofs.worker.Worker.advance.Goals as goal
use Rattle.redodb_board.proofs.worker.Worker.advance.Goals.{in-Claim, in-Free, in-Row+in_ok-place-in-Row}

-- the word that the step is on is the one by the session's own lines
pub way_for-requires : goal.way_for-requires
way_for-requires g c =
    subst (IsBelow (length c.args.self.now.own)) (sym c.command_next-command.ensures)
    (own_below c.requires.1.works c.in-Some.ensures.some.next)

pub lock-requires-clause-command : goal.lock-requires-clause-command
lock-requires-clause-command g c =
    locks_on c.in-Some.next.closing c.requires.1.works c.in-Some.ensures.some
    c.command_next-command.ensures c.way_for.ensures c.in-Claim.is

pub free-requires : goal.free-requires
free-requires g c =
    let found =
    frees_on c.in-Some.next.closing c.requires.1.works c.in-Some.ensures.some
    c.command_next-command.ensures c.way_for.ensures c.in-Free.is in
    record { belongs = c.requires; command = found.0; way = found.1 }

pub place-requires-clause-way : goal.place-requires-clause-way
place-requires-clause-way g c =
    let e = c.command_next-command.ensures in
    ap (own_way (journal_of c.args.plan.now c.args.self.now)) e
    ∙ steps_on c.requires.1.works c.in-Some.ensures.some e c.way_for.ensures c.in-Row.is

pub returns-in_err-place-in-Row-clause-no_memory :
    goal.returns-in_err-place-in-Row-clause-no_memory
returns-in_err-place-in-Row-clause-no_memory g c no-row =
    absurd
    (no-row _ c.in-Some.ensures.some.next
    (steps_on c.requires.1.works c.in-Some.ensures.some c.command_next-command.ensures
    c.way_for.ensures c.in-Row.is))

pub returns-clause-no_row : goal.returns-clause-no_row
returns-clause-no_row g c no-row =
    elim c.match-way_for.branch [
      | in-Claim v ↦ ap tries_of v.self-is ∙ v.lock.ensures.tries
      | in-Free v ↦ ap tries_of v.self-is ∙ v.free.ensures.tries
      | in-Row+in_ok-place-in-Row v ↦
          absurd
          (no-row _ c.in-Some.ensures.some.next
          (steps_on c.requires.1.works c.in-Some.ensures.some c.command_next-command.ensures
          c.way_for.ensures v.in-Row.is))
    ]

pub returns-clause-works : goal.returns-clause-works
returns-clause-works g c =
    let works = WorksAt c.args.plan.now c.args.board.now in
    elim c.match-way_for.branch [
      | in-Claim v ↦ subst works (sym v.self-is) v.lock.ensures.works
      | in-Free v ↦ subst works (sym v.self-is) v.free.ensures.works
      | in-Row+in_ok-place-in-Row v ↦ subst works (sym v.self-is) v.place.ensures.works
    ]

pub returns-in_err-place-in-Row-clause-err : goal.returns-in_err-place-in-Row-clause-err
returns-in_err-place-in-Row-clause-err g c =
    let failed = err_from_is_err_and c.from_residual.result
    c.from_residual.ensures.1 in
    rw failed.1 c.in_err-place-in-Row.ensures.err

pub returns-clause-ok : goal.returns-clause-ok
returns-clause-ok g c =
    let made = Made c.args.plan.now c.args.self.now in
    elim c.match-way_for.branch [
      | in-Claim v ↦ subst made (sym v.self-is) v.lock.ensures.made
      | in-Free v ↦ subst made (sym v.self-is) v.free.ensures.made
      | in-Row+in_ok-place-in-Row v ↦
          subst made (sym v.self-is) v.in_ok-place-in-Row.ensures.ok
    ]

pub returns-clause-session : goal.returns-clause-session
returns-clause-session g c =
    elim c.match-way_for.branch [
      | in-Claim v ↦ ap session_of v.self-is ∙ v.lock.ensures.session
      | in-Free v ↦ ap session_of v.self-is ∙ v.free.ensures.session
      | in-Row+in_ok-place-in-Row v ↦ ap session_of v.self-is ∙ v.place.ensures.session
    ]
