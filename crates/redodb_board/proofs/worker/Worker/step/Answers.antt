use Rattle.std.proofs.Common.{◌≡◌, refl, subst, MatchBool}
use Rattle.std.proofs.lemmas.Result.{err_from_is_err_and}
use Rattle.redodb_board.specs.Shown.{IsAtEnd}
use Rattle.redodb_board.specs.Outcomes.{Made}
use Rattle.redodb_board.proofs.Lent.{lent}
use Rattle.redodb_board.proofs.worker.Worker.step.Goals as goal

pub returns-in_err-advance : goal.returns-in_err-advance
returns-in_err-advance g c =
    let e = c.in_err-advance.ensures in
    let failed = err_from_is_err_and c.from_residual.result
    c.from_residual.ensures.1 in
    rw failed.1 (
      (
        refl,
        λ _. tt,
        record { works = e.works; session = e.session; ok = tt; err = e.err; no_row = e.no_row },
      ),
      record { after = tt; no_memory = e.no_memory },
    )

pub returns-then-not-branch : goal.returns-then-not-branch
returns-then-not-branch g c =
    let p = c.args.plan.now in
    let w = c.args.self.now in
    let x = c.advance.new.self in
    let e = c.in_ok-advance.ensures in
    let done = subst (λ made. MatchBool made (Made p w x) (IsAtEnd p w × (x ≡ w)))
    c.if-not-branch.true e.ok in (
      (
        refl,
        λ _. tt,
        record { works = e.works; session = e.session; ok = done; err = tt; no_row = e.no_row },
      ),
      record { after = tt; no_memory = λ _. refl },
    )

pub returns : goal.returns
returns g c =
    let p = c.args.plan.now in
    let w = c.args.self.now in
    let x = c.advance.new.self in
    let e = c.in_ok-advance.ensures in
    let made = subst (λ made. MatchBool made (Made p w x) (IsAtEnd p w × (x ≡ w)))
    c.if-not-branch.false e.ok in (
      (
        refl,
        λ _. tt,
        record {
          works = e.works;
          session = e.session;
          ok = lent p w x c.last.result made c.last.ensures;
          err = tt;
          no_row = e.no_row;
        },
      ),
      record { after = tt; no_memory = λ _. refl },
    )
