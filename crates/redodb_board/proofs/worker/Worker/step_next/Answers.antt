use Rattle.std.proofs.Common.{◌≡◌, ℕ, ◌<◌, ◌≤◌, length, true, false, Option, None, Some, refl, inl, inr, sym, ap, ◌∙◌, subst}
use Rattle.std.proofs.lemmas.Bool.{cases_lt}
use Rattle.std.specs.Option.{unwrap_or}
use Rattle.redodb_model.specs.Command.{Command, Failed, target_of}
use Rattle.redodb_model.specs.Journals.{Numbered}
use Rattle.redodb_model.specs.Renaming.{IsBelow}
use Rattle.redodb_model.proofs.Nexts.{next_past_script}
use Rattle.redodb_commands.specs.Meaning.{command_of}
use Rattle.redodb_commands.specs.declared.command.Command as terms
use Rattle.redodb_graph.specs.Graphs.{GraphOf}
use Rattle.redodb_graph.specs.Steps.{Means}
use Rattle.redodb_graph.specs.declared.step.Step.{Step}
use Rattle.redodb_graph.specs.declared.step.Step.TheVariants as steps
use Rattle.redodb_journal.specs.Plans.{PlanOf, script_of}
use Rattle.redodb_board.specs.Rows.{naming_of, command}
use Rattle.redodb_board.specs.Core.{row}
use Rattle.redodb_board.specs.Plays.{own, own_build, own_way}
use Rattle.redodb_board.specs.Shown.{journal_of}
use Rattle.redodb_board.specs.Kept.{Works}
use Rattle.redodb_board.specs.Support.Shown.{IsNextBy}
use Rattle.redodb_board.specs.Support.Steps.{IsStepOf}
use Rattle.redodb_board.specs.declared.worker.Worker.{Worker}
use Rattle.redodb_board.proofs.NextSteps.{next_below}
use Rattle.redodb_board.proofs.OwnLines.{closing_fails}
use Rattle.redodb_board.proofs.Told.{way-row}
use Rattle.redodb_board.proofs.worker.Worker.step_next.Goals as goal

-- a step that stands for what is next on a row
is_step : (p : PlanOf) (w : Worker) (number : ℕ) (closing : _) (x : Command ℕ) (step : Step)
    → Works p w → IsNextBy p w number closing x → own_way (journal_of p w) x ≡ row
    → Means w.replica.graph.tables step x → IsStepOf w step x
is_step p w number closing x step works next way means =
    record {
      means = means;
      numbers =
          subst (λ m. IsBelow m x) (sym works.lags.count) (next_below works next.next);
      no_lock = way-row x (own (journal_of p w) x) (own_build (journal_of p w) x) way;
      names = works.own.one_each ∙ sym works.lags.count;
    }

-- a command that isn't a closing one is of a line
has_line : (p : PlanOf) (w : Worker) (number : ℕ) (closing : Option terms.Command) (x : Command ℕ)
    → IsNextBy p w number closing x → closing ≡ None → number < length (script_of p w.session)
has_line p w number None x next none = elim (cases_lt number (length (script_of p w.session))) [
  | inl lt ↦ lt
  | inr past ↦ absurd (let e : false ≡ true = next.marked.1 past in cc)
]
has_line p w number (Some command) x next none = absurd cc

pub line_step-requires-clause-line : goal.line_step-requires-clause-line
line_step-requires-clause-line c =
    has_line c.args.plan.now c.args.self.now c.args.next.now.number c.args.next.now.closing
    (command_of c.args.command.now) c.requires.command c.in-None.is

-- and is that line's
is_line : (p : PlanOf) (w : Worker) (number : ℕ) (closing : Option terms.Command) (x : Command ℕ)
    → IsNextBy p w number closing x → closing ≡ None → command p w.session number ≡ x
is_line p w number None x next none = next.told
is_line p w number (Some command) x next none = absurd cc

pub returns-in-None : goal.returns-in-None
returns-in-None c =
    let p = c.args.plan.now in
    let w = c.args.self.now in
    let number : ℕ = c.args.next.now.number in
    let closing = c.args.next.now.closing in
    let x = command_of c.args.command.now in
    is_step p w number closing x c.line_step.result c.requires.works c.requires.command
    c.requires.way
    (subst (λ (z : GraphOf × Command ℕ). Means z.0.tables c.line_step.result z.1)
    (λ i. (c.graph.ensures i, is_line p w number closing x c.requires.command c.in-None.is i))
    c.line_step.ensures)

-- a closing command on a row is a `failed`
fails : (p : PlanOf) (w : Worker) (number : ℕ) (closing : _) (x : Command ℕ)
    → IsNextBy p w number closing x → length (script_of p w.session) ≤ number
    → own_way (journal_of p w) x ≡ row → x ≡ Failed (unwrap_or (target_of x) 0)
fails p w number closing x next past way =
    let n : Numbered ℕ = record { number = number; command = x } in
    let closes =
    next_past_script (naming_of p) (script_of p w.session) (journal_of p w) n next.next past in
    let (t, is) = closing_fails p w.session (journal_of p w) x closes.closes way in
    is ∙ ap (λ (y : Command ℕ). Failed (unwrap_or (target_of y) 0)) (sym is)

past_script : (p : PlanOf) (w : Worker) (number : ℕ) (closing : Option terms.Command)
    (x : Command ℕ) (command : terms.Command) → IsNextBy p w number closing x
    → closing ≡ Some command → length (script_of p w.session) ≤ number
past_script p w number (Some other) x command next some = next.marked.0 refl
past_script p w number None x command next some = absurd cc

pub returns-in-Some : goal.returns-in-Some
returns-in-Some c =
    let p = c.args.plan.now in
    let w = c.args.self.now in
    let number : ℕ = c.args.next.now.number in
    let closing = c.args.next.now.closing in
    let x = command_of c.args.command.now in
    is_step p w number closing x (steps.Failed c.unwrap_or.result) c.requires.works
    c.requires.command c.requires.way
    (fails p w number closing x c.requires.command
    (past_script p w number closing x _ c.requires.command c.in-Some.is) c.requires.way
    ∙ ap (λ (t : ℕ). Failed t)
    (sym (c.unwrap_or.ensures ∙ ap (λ o. unwrap_or o 0) c.target.ensures)))
