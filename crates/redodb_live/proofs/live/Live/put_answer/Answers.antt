use Rattle.std.proofs.Common.{◌≡◌, ◌∙◌, ◌++◌, OnOk, option_map, refl, sym, subst}
use Rattle.std.specs.Prelude.{Result, Ok, Err}
use Rattle.std.specs.List.{flat_map}
use Rattle.std.proofs.lemmas.Result.{on_ok_weaker}
use Rattle.redodb_model.specs.State.{target_state}
use Rattle.redodb_text.specs.Texts.{after_space}
use Rattle.redodb_live.specs.Answers.{Cause, Rows, Standing, Uses, deps_words, users_words, why_words}
use Rattle.redodb_live.specs.Support.Asked.{deps_at, users_at, why_at}
use Rattle.redodb_live.specs.Support.LiveState.{LiveState, state_in}
use Rattle.redodb_live.proofs.live.Live.put_answer.Goals as goal

on_ok_both : {T E : Type 0} (r : Result T E) {P Q Z : Type 0} → (P → Q → Z) → OnOk r P → OnOk r Q
    → OnOk r Z
on_ok_both (Ok x) f p q = f p q
on_ok_both (Err e) f p q = tt

pub returns-in_ok-found-in-Why-clause-answer : goal.returns-in_ok-found-in-Why-clause-answer
returns-in_ok-found-in-Why-clause-answer c =
    let live : LiveState = c.args.self.now in
    let old = c.args.line.now.items in
    let new = c.put_why.new.out.items in
    let found = c.in_ok-found-in-Why.found in
    let written = subst (λ (l : LiveState). OnOk c.put_why.result (new
    ≡ old ++ flat_map after_space
    (why_words c.args.name.now (option_map (why_at l.names) found))))
    (c.self.view_is ∙ c.why.ensures.kept) c.put_why.ensures in
    on_ok_weaker c.put_why.result (λ e. (
      Cause (option_map (why_at live.names) found),
      sym c.in-Why.is,
      c.in_ok-found-in-Why.ensures.why,
      c.in_ok-found-in-Why.ensures.form,
      e,
    )) written

pub returns-in_ok-deps-in-Deps-clause-answer : goal.returns-in_ok-deps-in-Deps-clause-answer
returns-in_ok-deps-in-Deps-clause-answer c =
    let live : LiveState = c.args.self.now in
    let old = c.args.line.now.items in
    let new = c.put_deps.new.out.items in
    let deps = c.in_ok-deps-in-Deps.deps in
    let written = subst (λ (l : LiveState). OnOk c.put_deps.result
    (new ≡ old ++ flat_map after_space (deps_words (deps_at l.names deps)))) c.self-in-Deps.view_is
    c.put_deps.ensures in
    on_ok_weaker c.put_deps.result (λ e. (
      Rows (deps_at live.names deps),
      sym c.in-Deps.is,
      c.in_ok-deps-in-Deps.ensures.deps,
      c.in_ok-deps-in-Deps.ensures.form,
      e,
    )) written

pub returns-in_ok-users-in-Users-clause-answer : goal.returns-in_ok-users-in-Users-clause-answer
returns-in_ok-users-in-Users-clause-answer c =
    let live : LiveState = c.args.self.now in
    let old = c.args.line.now.items in
    let new = c.put_users.new.out.items in
    let users = c.in_ok-users-in-Users.users in
    let written = subst (λ (l : LiveState). OnOk c.put_users.result
    (new ≡ old ++ flat_map after_space (users_words (users_at l.names users))))
    c.self-in-Users.view_is c.put_users.ensures in
    on_ok_weaker c.put_users.result (λ e. (
      Uses (users_at live.names users),
      sym c.in-Users.is,
      c.in_ok-users-in-Users.ensures.users,
      c.in_ok-users-in-Users.ensures.form,
      e,
    )) written

pub returns-in-State-clause-answer : goal.returns-in-State-clause-answer
returns-in-State-clause-answer c =
    let st = state_in c.args.self.now in
    let name = c.args.name.now in
    on_ok_both c.put_state.result (λ e form. (
      Standing (target_state st.records name) (st.locks.holder name) (st.records.cell name).file,
      sym c.in-State.is,
      (refl, refl, refl),
      form,
      e,
    )) c.put_state.ensures.words c.put_state.ensures.form
