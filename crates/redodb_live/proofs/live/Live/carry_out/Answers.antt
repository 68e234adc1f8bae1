use Rattle.std.proofs.Common.{◌≡◌, ◌∙◌, ◌++◌, [], cond, length, sym, ap, subst}
use Rattle.std.proofs.lemmas.Result.{err_from_is_err_and}
use Rattle.redodb_model.specs.Names.{Text}
use Rattle.redodb_commands.specs.Meaning.{command_of, reply_of}
use Rattle.redodb_database.specs.Tables.{state_of, tables_count}
use Rattle.redodb_live.specs.Support.Kept.{live_of}
use Rattle.redodb_live.specs.Support.LiveState.{LiveState, calls_in}
use Rattle.redodb_live.specs.Support.AnswerFaults.{IsUnwrittenFor}
use Rattle.redodb_live.specs.Support.Appended.{IsDue}
use Rattle.redodb_live.proofs.Answering.{below_more, now_below}
use Rattle.redodb_live.proofs.Obeying.{kept_after, obeyed, unobeyed, would_obey}
use Rattle.redodb_live.proofs.live.Live.carry_out.Goals as goal
use Rattle.redodb_live.proofs.live.Live.carry_out.Goals.{After-take_line-old_line}

-- what is required holds too of the database whose old line was taken
due : (c : After-take_line-old_line) (live : LiveState) → live ≡ c.take_line-old_line.new.self
    → IsDue live c.args.line.now c.args.reply.now
due c live same =
    subst (λ (l : LiveState). IsDue l c.args.line.now c.args.reply.now)
    (sym (same ∙ c.take_line-old_line.ensures)) c.requires

pub line_text-requires : goal.line_text-requires
line_text-requires c =
    let line = c.args.line.now in
    let reply = c.args.reply.now in
    let due = due (goal.at.line_text-requires c).After-take_line-old_line
    (live_of c.self.inside) c.self.view_is in
    let names = c.self.inside.names in (
      due.below,
      now_below names due.names c.self.inside.redo c.self.invariant.state.within line.session
          (command_of line.command) due.below (reply_of reply) (reply_of line.reply) due.answers
          due.sorted,
    )

pub changes-changes-requires : goal.changes-changes-requires
changes-changes-requires c =
    let line = c.args.line.now in
    let due = due (goal.at.changes-changes-requires c).After-take_line-old_line
    (live_of c.self.inside) c.self.view_is in
    below_more (length c.self.inside.names) (tables_count c.self.inside.redo)
    (command_of line.command) due.count due.below

pub change-requires-clause-numbers : goal.change-requires-clause-numbers
change-requires-clause-numbers c =
    let line = c.args.line.now in
    let due = due (goal.at.change-requires-clause-numbers c).After-take_line-old_line
    (live_of c.self.inside) c.self.view_is in
    below_more (length c.self.inside.names) (tables_count c.self.inside.redo)
    (command_of line.command) due.count due.below

pub returns-in_err-append_within-clause-cause : goal.returns-in_err-append_within-clause-cause
returns-in_err-append_within-clause-cause c =
    let names = c.self.inside.names in
    let tables = c.self.inside.redo in
    let line = c.args.line.now in
    let reply = c.args.reply.now in
    let text = c.in_ok-text.text.items in
    let whole = c.self.view_is ∙ c.take_line-old_line.ensures in
    let due = due (goal.at.returns-in_err-append_within-clause-cause c).After-take_line-old_line
    (live_of c.self.inside) c.self.view_is in
    let failed = err_from_is_err_and c.from_residual-in_err-append_within.result
    c.from_residual-in_err-append_within.ensures.1 in
    rw (failed.1, failed.2)
    (unobeyed c.args.self.now line.session (command_of line.command) c.args.most
    c.in_err-append_within.field-0.0 text
    (would_obey names tables c.self.invariant.state line reply due c.args.self.now
    (ap (λ (l : LiveState). l.names) whole) (ap (λ (l : LiveState). state_of l.tables) whole) text
    c.in_ok-text.ensures)
    (subst (λ (t : Text). IsUnwrittenFor t c.args.most c.in_err-append_within.field-0.0)
    c.deref.ensures.value c.in_err-append_within.ensures.cause))

pub invariant_of-self : goal.invariant_of-self
invariant_of-self c =
    let names = c.self.inside.names in
    let tables = c.self.inside.redo in
    let line = c.args.line.now in
    let reply = c.args.reply.now in
    let text = c.in_ok-text.text.items in
    let due = due (goal.at.invariant_of-self c).After-take_line-old_line
    (live_of c.self.inside) c.self.view_is in
    record {
      few = c.self.invariant.few;
      state = kept_after names tables c.self.invariant.state line reply due c.change.new.self
          c.change.ensures.after c.change.ensures.calls;
      numbers = c.self.invariant.numbers ∙ sym c.change.ensures.count;
    }

pub returns-clause-obeyed : goal.returns-clause-obeyed
returns-clause-obeyed c =
    let names = c.self.inside.names in
    let tables = c.self.inside.redo in
    let line = c.args.line.now in
    let reply = c.args.reply.now in
    let text = c.in_ok-text.text.items in
    let whole = c.self.view_is ∙ c.take_line-old_line.ensures in
    let due = due (goal.at.returns-clause-obeyed c).After-take_line-old_line
    (live_of c.self.inside) c.self.view_is in
    let output = c.args.output.now.items in
    let logged = c.args.logged.now.items in
    let changes = c.changes-changes.result in
    obeyed names tables c.self.invariant.state line reply due c.change.new.self
    c.change.ensures.after c.change.ensures.calls c.args.self.now text output
    c.append_within.new.output.items logged c.append_within.new.logged.items changes
    (ap (λ (l : LiveState). l.names) whole) (ap (λ (l : LiveState). state_of l.tables) whole)
    (ap calls_in whole) c.in_ok-text.ensures c.changes-changes.ensures
    (c.in_ok-append_within.ensures.output ∙ ap (λ (t : Text). output ++ t) c.deref.ensures.value)
    (c.in_ok-append_within.ensures.logged
    ∙ ap (λ (t : Text). logged ++ t) (c.text_if.ensures
    ∙ ap (λ (t : Text). cond changes t []) c.deref-2.ensures.value))
