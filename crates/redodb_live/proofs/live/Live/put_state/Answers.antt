use Rattle.std.proofs.Common.{◌≡◌, ◌++◌, length, ap, subst}
use Rattle.std.specs.List.{flat_map}
use Rattle.std.proofs.lemmas.Result.{IfOk-equal, on_ok_weaker}
use Rattle.redodb_records.specs.Meaning.{target_state_of}
use Rattle.redodb_model.specs.State.{target_state}
use Rattle.redodb_database.specs.Tables.{state_of, tables_records, locks_of}
use Rattle.redodb_text.specs.Texts.{after_space}
use Rattle.redodb_live.specs.Answers.{Answer, Standing, answer_words}
use Rattle.redodb_live.specs.Support.AnswerForms.{HasAnswerForm}
use Rattle.redodb_live.specs.Support.LiveState.{LiveState, state_in}
use Rattle.redodb_live.specs.Support.Within.{IsStateWithin}
use Rattle.redodb_live.proofs.Asking.{state_over_names}
use Rattle.redodb_live.proofs.live.Live.put_state.Goals as goal

-- what is printed is what is true of the name
same_standing : (c : goal.After-put_state) → Standing (target_state_of c.state.result)
    c.holder.result c.file.result
    ≡ Standing (target_state (state_in c.args.self.now).records c.args.name.now)
    ((state_in c.args.self.now).locks.holder c.args.name.now)
    ((state_in c.args.self.now).records.cell c.args.name.now).file
same_standing c =
    let live : LiveState = c.args.self.now in
    let known = c.in-Some.ensures.known in
    let n = c.in-Some.n in
    let state = target_state_of c.state.result in
    let within = subst (λ (l : LiveState). IsStateWithin (length l.names) (state_of l.tables))
    c.self.view_is c.self.invariant.state.within in
    let is_state = subst (λ (l : LiveState). state ≡ target_state (tables_records l.tables) n)
    c.self.view_is c.state.ensures in
    let is_holder = subst (λ (l : LiveState). c.holder.result ≡ (locks_of l.tables).holder n)
    c.self.view_is c.holder.ensures in
    let is_file = subst (λ (l : LiveState). c.file.result ≡ ((tables_records l.tables).cell n).file)
    c.self.view_is c.file.ensures in
    state_over_names live.names c.in-Some.ensures.names (state_of live.tables) within n
    c.args.name.now known.among_names known.named state c.holder.result c.file.result is_state
    is_holder is_file

pub returns-in-Some-clause-words : goal.returns-in-Some-clause-words
returns-in-Some-clause-words c =
    IfOk-equal c.put_state.result _ _ _ c.put_state.ensures.words
    (ap (λ (answer : Answer).
    c.args.line.now.items ++ flat_map after_space (answer_words c.args.name.now answer))
    (same_standing c))

pub returns-in-Some-clause-form : goal.returns-in-Some-clause-form
returns-in-Some-clause-form c =
    on_ok_weaker c.put_state.result (subst HasAnswerForm (same_standing c)) c.put_state.ensures.form
