use Rattle.std.proofs.Common.{◌<◌, ℕ, length, map, take, sym, ap, ◌∙◌, subst, arith}
use Rattle.redodb_model.specs.Names.{by_number}
use Rattle.redodb_model.specs.State.{State}
use Rattle.redodb_model.specs.History.{left_by}
use Rattle.redodb_model.specs.Step.{Answers, after}
use Rattle.redodb_commands.specs.Meaning.{command_of, reply_of, line_of}
use Rattle.redodb_commands.specs.declared.reply.Line.{Line}
use Rattle.redodb_database.specs.Tables.{state_of}
use Rattle.redodb_live.proofs.Lines.{answer_at, left_more}
use Rattle.redodb_live.proofs.live.ending.close.Goals as goal

pub change-requires-clause-answers : goal.change-requires-clause-answers
change-requires-clause-answers c =
    let line = c.line-item.result in
    let lines = c.args.lines.now in
    let i = c.loop-line.line-index in
    let first = state_of c.args.redo.now in
    let within : i < length lines = omega arith in
    subst (λ (st : State ℕ). Answers by_number st line.session (command_of line.command)
    (reply_of line.reply)) (sym c.loop-line.invariant.left)
    (subst (λ (l : Line). Answers by_number (left_by by_number first (map line_of (take i lines)))
    l.session (command_of l.command) (reply_of l.reply)) (sym c.line-item.is)
    (answer_at by_number line_of first lines i line within c.requires.legal))

pub loop-line-preserved : goal.loop-line-preserved
loop-line-preserved c =
    let line = c.line-item.result in
    let lines = c.args.lines.now in
    let i = c.loop-line.line-index in
    let first = state_of c.args.redo.now in
    let within : i < length lines = omega arith in
    record {
      left = c.change.ensures.after
          ∙ ap (λ (st : State ℕ). after by_number st line.session (command_of line.command))
          c.loop-line.invariant.left
          ∙ ap (λ (l : Line). after by_number (left_by by_number first (map line_of (take i lines)))
          l.session (command_of l.command)) c.line-item.is
          ∙ sym (left_more by_number line_of first lines i line within);
      calls = omega (arith, c.change.ensures.calls, c.loop-line.invariant.calls);
      count = c.change.ensures.count ∙ c.loop-line.invariant.count;
    }
