use Rattle.std.proofs.Common.{rules, ◌≡◌, ◌∙◌, ap, ap₂, true}
use Rattle.std.proofs.lemmas.Result.{IfOk-weaker}
use Rattle.clap.specs.Words.{App, app_of, with_rule, with_subcommand}
use Rattle.clap.specs.Simple.{app_of_fields}
use Rattle.redodb_arguments.specs.Words.{run_app, replay_app, empty_app}
use Rattle.redodb_arguments.proofs.words.command.Goals as goal

pub returns : goal.returns
returns c =
    let run_is : app_of c.in_ok-run.run' ≡ run_app =
    c.in_ok-run.ensures.shape c.files.ensures.own
    ∙ ap₂ with_rule c.new.ensures.app c.files.ensures.rule in
    let replay_is : app_of c.in_ok-replay.replay ≡ replay_app =
    c.in_ok-replay.ensures.shape c.file.ensures.own
    ∙ ap₂ with_rule c.new-2.ensures.app c.file.ensures.rule in
    let empty_is : app_of c.subcommand_required.result ≡ empty_app =
    ap app_of_fields c.subcommand_required.ensures
    ∙ ap (λ f. app_of_fields (record f { subcommand_required = true })) c.no_binary_name.ensures
    ∙ ap (λ (app : App). record app {
      top =
          record app.top { no_binary_name = true; subcommand_required = true };
    }) c.new-3.ensures.app in
    let first : app_of c.in_ok-subcommand.field-0 ≡ with_subcommand empty_app run_app.top =
    c.in_ok-subcommand.ensures.shape (search rules)
    ∙ ap₂ with_subcommand empty_is (ap (λ (app : App). app.top) run_is) in
    IfOk-weaker c.subcommand-2.result _ _ (λ r h. h.shape (search rules)
    ∙ ap₂ with_subcommand first (ap (λ (app : App). app.top) replay_is)) c.subcommand-2.ensures
