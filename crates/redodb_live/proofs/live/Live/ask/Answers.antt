use Rattle.std.proofs.Common.{arith, subst}
use Rattle.std.proofs.lemmas.Grind.{common_steps}
use Rattle.redodb_live.specs.Support.AnswerForms.{AnswersInForm}
use Rattle.redodb_live.specs.Support.LiveState.{LiveState, state_in}
use Rattle.redodb_live.proofs.Forms.{line_in_form}
use Rattle.redodb_live.proofs.live.Live.ask.Goals as goal

pub returns-clause-answered : goal.returns-clause-answered
returns-clause-answered c =
    let answered = c.in_ok-put_answer.ensures.answer in
    let line = c.push.new.self.items in (
      line,
      subst (λ (l : LiveState).
          AnswersInForm (state_in l) c.args.session c.args.inquiry c.args.name.now line)
          c.take_line-line.ensures
          (line_in_form (state_in c.take_line-line.new.self) c.args.session c.args.inquiry
          c.args.name.now line answered.0 answered.1 answered.2 answered.3
          (grind (arith, common_steps))),
      grind (arith, common_steps),
    )
