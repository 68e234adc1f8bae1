use Rattle.std.proofs.Common.{◌≡◌, ◌-◌, ◌<◌, [], ◌∷◌, length, refl, sym, ap, ◌∙◌, subst}
use Rattle.redodb_model.specs.Support.Room.{room_of}
use Rattle.redodb_journal.specs.Plans.{script_of}
use Rattle.redodb_board.specs.Shown.{session_of, journal_of, tries_of, rows_up_to, IsAtEnd}
use Rattle.redodb_board.specs.Outcomes.{Made}
use Rattle.redodb_board.proofs.Lent.{made_of, end_of}
use Rattle.redodb_board.proofs.Works.{made_less}
use Rattle.redodb_run.specs.Support.Sessions.{AreDone}
use Rattle.redodb_run.proofs.Ended.{left_done}
use Rattle.redodb_run.proofs.sessions.work.Goals as goal

pub loop-worker-init : goal.loop-worker-init
loop-worker-init g c = record {
  works = c.in-Ok.ensures.works c.args.board.now c.requires.ready.sits;
  session = refl;
  tries = c.in-Ok.ensures.tries ∙ ap (rows_up_to 0) (sym c.in-Ok.ensures.journal);
}

pub loop-worker-preserved : goal.loop-worker-preserved
loop-worker-preserved g c =
    let p = c.args.plan.now in
    let b = c.args.board.now in
    let old = c.loop-worker.worker in
    let new = c.step.follows.lender-at-none in
    let stepped = c.step.follows.holds-at-none in
    let made : Made p old new =
    made_of p b old new c.step.result c.in_ok-_entry.field-0 c.in_ok-_entry.was stepped
    c.in-Some._entry c.in-Some.is in
    record {
      works = stepped.works;
      session = stepped.session ∙ c.loop-worker.invariant.session;
      tries = made.tries;
    }

pub loop-worker-smaller : goal.loop-worker-smaller
loop-worker-smaller g c =
    let p = c.args.plan.now in
    let b = c.args.board.now in
    let old = c.loop-worker.worker in
    let new = c.step.follows.lender-at-none in
    let stepped = c.step.follows.holds-at-none in
    let made : Made p old new =
    made_of p b old new c.step.result c.in_ok-_entry.field-0 c.in_ok-_entry.was stepped
    c.in-Some._entry c.in-Some.is in
    subst
    (λ s. room_of (script_of p s) - length (journal_of p new)
    < room_of (script_of p (session_of old)) - length (journal_of p old))
    (sym stepped.session) (made_less p old new c.loop-worker.invariant.works.works made)

pub returns : goal.returns
returns g c =
    let p = c.args.plan.now in
    let b = c.args.board.now in
    let old = c.loop-worker.worker in
    let w = c.step.follows.lender-at-none in
    let stepped = c.step.follows.holds-at-none in
    let seat = c.leave.result.0 in
    let journal = c.leave.result.1 in
    let ended : IsAtEnd p old × (w ≡ old) =
    end_of p b old w c.step.result c.in_ok-_entry.field-0 c.in_ok-_entry.was stepped
    c.in_default-2.is in
    let here : session_of w ≡ c.args.sessions.first =
    stepped.session ∙ c.loop-worker.invariant.session ∙ c.in-Ok.ensures.session
    ∙ c.requires.ready.fresh.first in
    let rows : tries_of w ≡ rows_up_to 0 (journal_of p w) =
    subst (λ v. tries_of v ≡ rows_up_to 0 (journal_of p v)) (sym ended.1)
    c.loop-worker.invariant.tries in
    let done =
    left_done p b c.args.sessions.first w seat journal here
    (c.leave.ensures.leaves p b stepped.works) c.leave.ensures.journal.0
    c.leave.ensures.journal.1 (subst (IsAtEnd p) (sym ended.1) ended.0) rows in
    subst (λ e. AreDone p b c.args.sessions.first e seat (journal ∷ [])) (sym c.requires.one) done
