use Rattle.std.proofs.Common.{◌≡◌, ◌<◌, ◌≤◌, ℕ, List, true, false, get_or, take, length, sym, ◌∙◌, subst, arith, add-one}
use Rattle.std.specs.Prelude.{Result, Ok, Err, OnOk, OnErr, is_err, Contains}
use Rattle.std.proofs.Math.Seq.{take-suc}
use Rattle.std.proofs.lemmas.List.{take_all}
use Rattle.std.proofs.lemmas.List.Elements.{Contains-get_or}
use Rattle.redodb_live.specs.Support.Appended.{EndsSession}
use Rattle.redodb_keeping.proofs.EndedAll.{AreEndedSoFar, session_below, one_more_ended, left_alone, some_ended, all_ended}
use Rattle.redodb_keeping.proofs.ending.end_all.Goals as goal

ok_unless_err : {T E : Type 0} (r : Result T E) (P : Type 0) → is_err r ≡ false → OnOk r P → P
ok_unless_err (Ok x) P e p = p
ok_unless_err (Err y) P e p = absurd (cc)

err_if_err : {T E : Type 0} (r : Result T E) (P : Type 0) → is_err r ≡ true → OnErr r P → P
err_if_err (Ok x) P e p = absurd (cc)
err_if_err (Err y) P e p = p

pub loop-session-preserved : goal.loop-session-preserved
loop-session-preserved c = λ before logged left.
    let items = c.deref-session-items.result.now in
    let sessions = c.in_ok-sessions.sessions.items in
    let i = c.loop-session.session-index in
    let s = get_or items i 0 in
    let within : i < length items = omega arith in
    let same : items ≡ sessions = c.deref-session-items.ensures.value in
    let among : Contains sessions s =
    subst (λ (ss : List ℕ). Contains ss s) same (Contains-get_or items i 0 within) in
    let ok : is_err c.end.result ≡ false = sym c.is_err.ensures.value ∙ c.if-is_err.false in
    let ends : EndsSession c.loop-session.live c.end.new.self s c.clear.new.self.items
    c.end.new.output.items c.loop-session.logged.items c.end.new.logged.items =
    ok_unless_err c.end.result _ ok c.end.ensures.ended in
    let below : s < 65535 =
    session_below c.args.live.now before s logged left
    ((c.in_ok-sessions.ensures.holders s).0 among) in
    rw add-one
    (subst (λ (ss : List ℕ). AreEndedSoFar c.args.live.now c.end.new.self ss
    c.args.logged.now.items c.end.new.logged.items) (sym (take-suc items i 0 within))
    (one_more_ended before c.args.live.now c.loop-session.live left (take i items)
    c.args.logged.now.items c.loop-session.logged.items
    (c.loop-session.invariant before logged left) c.end.new.self s c.clear.new.self.items
    c.end.new.output.items c.end.new.logged.items ends below))

pub returns-then-is_err-clause-part : goal.returns-then-is_err-clause-part
returns-then-is_err-clause-part c = λ before logged left.
    let i = c.loop-session.session-index in
    let sessions = take i c.deref-session-items.result.now in
    let failed : is_err c.end.result ≡ true = sym c.is_err.ensures.value ∙ c.if-is_err.true in
    some_ended before c.args.live.now c.end.new.self left sessions c.args.logged.now.items
    c.end.new.logged.items
    (left_alone c.args.live.now c.loop-session.live c.end.new.self sessions
    c.args.logged.now.items c.loop-session.logged.items c.end.new.logged.items
    (err_if_err c.end.result _ failed c.end.ensures.known)
    (err_if_err c.end.result _ failed c.end.ensures.unwritten).logs
    (c.loop-session.invariant before logged left))
    logged

pub returns-clause-ended : goal.returns-clause-ended
returns-clause-ended c = λ before logged left.
    let items = c.deref-session-items.result.now in
    let sessions = c.in_ok-sessions.sessions.items in
    let i = c.loop-session.session-index in
    let past : length items ≤ i = omega arith in
    let all : AreEndedSoFar c.args.live.now c.loop-session.live sessions
    c.args.logged.now.items c.loop-session.logged.items =
    subst (λ (ss : List ℕ). AreEndedSoFar c.args.live.now c.loop-session.live ss
    c.args.logged.now.items c.loop-session.logged.items)
    (take_all i items past ∙ c.deref-session-items.ensures.value)
    (c.loop-session.invariant before logged left) in
    all_ended before c.args.live.now c.loop-session.live left sessions c.args.logged.now.items
    c.loop-session.logged.items all logged c.in_ok-sessions.ensures.distinct
    c.in_ok-sessions.ensures.holders c.in_ok-sessions.ensures.builders
