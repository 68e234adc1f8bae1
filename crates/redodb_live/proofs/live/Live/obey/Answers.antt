use Rattle.std.proofs.Common.{◌∙◌, ap}
use Rattle.std.proofs.lemmas.Result.{on_ok_weaker, IfErr-weaker}
use Rattle.redodb_commands.specs.Meaning.{command_of}
use Rattle.redodb_database.specs.Tables.{state_of}
use Rattle.redodb_live.specs.Support.AnswerFaults.{IsUnobeyedFor}
use Rattle.redodb_live.specs.Support.LiveState.{LiveState, IsSameDatabase, calls_in}
use Rattle.redodb_live.proofs.Obeying.{obeyed_before, unobeyed_before}
use Rattle.redodb_live.proofs.live.Live.obey.Goals as goal
use Rattle.redodb_live.proofs.live.Live.obey.Goals.{After-reserve}

-- the database once memory is reserved
abbrev reserved : After-reserve → LiveState
reserved c = record { names = c.self.inside.names; tables = c.reserve.new.self }

knows_the_same : (c : After-reserve) → IsSameDatabase c.args.self.now (reserved c)
knows_the_same c = record {
  state = c.reserve.ensures.same.state ∙ ap (λ (l : LiveState). state_of l.tables) c.self.view_is
      ∙ c.grow.ensures.known.state;
  calls = c.reserve.ensures.same.calls ∙ ap calls_in c.self.view_is ∙ c.grow.ensures.known.calls;
}

pub returns-clause-obeyed : goal.returns-clause-obeyed
returns-clause-obeyed c =
    let at = (goal.at.returns-clause-obeyed c).After-reserve in
    let reply_line = c.in_ok-line.line in
    on_ok_weaker c.carry_out.result
    (obeyed_before c.args.self.now (reserved at)
    (ap (λ (l : LiveState). l.names) c.self.view_is ∙ c.grow.ensures.names) (knows_the_same at)
    c.carry_out.new.self c.args.session reply_line.session (command_of c.args.command)
    (command_of reply_line.command) c.args.output.now.items c.carry_out.new.output.items
    c.args.logged.now.items c.carry_out.new.logged.items c.in_ok-line.ensures.session
    c.in_ok-line.ensures.command)
    c.carry_out.ensures.obeyed

pub returns-clause-cause : goal.returns-clause-cause
returns-clause-cause c =
    let at = (goal.at.returns-clause-cause c).After-reserve in
    let reply_line = c.in_ok-line.line in
    let command = command_of c.args.command in
    let asked = command_of reply_line.command in
    IfErr-weaker c.carry_out.result
    (IsUnobeyedFor (reserved at) reply_line.session asked c.args.most)
    (IsUnobeyedFor c.args.self.now c.args.session command c.args.most)
    (λ why. unobeyed_before c.args.self.now (reserved at)
    (ap (λ (l : LiveState). l.names) c.self.view_is ∙ c.grow.ensures.names) (knows_the_same at)
    c.args.session reply_line.session command asked c.args.most why c.in_ok-line.ensures.session
    c.in_ok-line.ensures.command)
    c.carry_out.ensures.cause
