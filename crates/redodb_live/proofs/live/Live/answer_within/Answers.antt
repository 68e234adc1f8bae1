use Rattle.std.proofs.Common.{◌≡◌, ◌∙◌, ℕ, List, length, take, ap, subst, arith}
use Rattle.std.proofs.Math.Seq.{take-append_seam}
use Rattle.redodb_names.specs.Support.Names.{Extends}
use Rattle.redodb_model.specs.Names.{Text}
use Rattle.redodb_model.specs.Support.Renaming.{named_state, numbering}
use Rattle.redodb_commands.specs.Meaning.{command_of}
use Rattle.redodb_commands.specs.Support.Meaning.{command_at}
use Rattle.redodb_database.specs.Tables.{state_of, calls_of}
use Rattle.redodb_text.proofs.FaultOrCommand.{no_fault_in_a_line}
use Rattle.redodb_live.specs.Support.Appended.{IsWorn}
use Rattle.redodb_live.specs.Support.Kept.{IsKept, live_of}
use Rattle.redodb_live.specs.Support.LiveState.{LiveState, IsAsKnown, IsSameDatabase, calls_in}
use Rattle.redodb_live.specs.declared.live.Live.TheInside.{Inside}
use Rattle.redodb_live.proofs.NewNames.{few_new}
use Rattle.redodb_live.proofs.Obeying.{answered, answer_fault}
use Rattle.redodb_live.proofs.live.Live.answer_within.Goals as goal
use Rattle.redodb_live.proofs.live.Live.answer_within.Goals.{After-keep_first}

pub obey-requires-clause-calls : goal.obey-requires-clause-calls
obey-requires-clause-calls c =
    let few = few_new c.args.self.now.names c.read.new.self.names
    (command_at c.read.new.self.names c.in_ok-command.command) c.in_ok-command.ensures.read.0
    c.in_ok-command.ensures.named in
    let fresh : ¬ (IsWorn c.args.self.now) =
    λ worn. let yes = c.is_worn.ensures.1 worn in let no = c.if-is_worn.false in cc in
    omega (arith, fresh, c.read.ensures.known.calls, few)

pub returns-in-Ok-clause-answered : goal.returns-in-Ok-clause-answered
returns-in-Ok-clause-answered c =
    answered c.args.self.now c.read.new.self c.obey.new.self c.args.session c.args.text.now
    (command_of c.in_ok-command.command) c.args.output.now.items c.obey.new.output.items
    c.args.logged.now.items c.obey.new.logged.items c.read.ensures.state c.read.ensures.known.calls
    c.obey.ensures.names c.in_ok-command.ensures.read c.in_ok-command.ensures.named
    c.in-Ok.ensures.obeyed

pub returns-in-Err-clause-cause : goal.returns-in-Err-clause-cause
returns-in-Err-clause-cause c =
    answer_fault c.args.self.now c.read.new.self c.args.session c.args.text.now
    (command_of c.in_ok-command.command) c.args.most c.in-Err.why c.read.ensures.state
    c.in_ok-command.ensures.read c.in_ok-command.ensures.named c.in-Err.ensures.cause

-- the database as it was, once the names that a refused line added are forgotten
as_known : (before after : Inside) (old mid new : LiveState) (n : ℕ) (names : List Text)
    → live_of before ≡ old → live_of after ≡ new → n ≡ length before.names
    → Extends old.names mid.names → new.names ≡ mid.names → IsSameDatabase old mid
    → IsSameDatabase mid new → names ≡ take n after.names
    → IsAsKnown old (record { names = names; tables = after.redo })
as_known before after old mid new n names was is count grows kept read same first =
    let was_names = ap (λ (l : LiveState). l.names) was in
    let is_names = ap (λ (l : LiveState). l.names) is in
    let seam = take-append_seam old.names grows.more in
    let again : names ≡ old.names = cc grows.is in
    record {
      state = ap (λ (ns : List Text). named_state (numbering ns) (state_of after.redo)) again
          ∙ ap (named_state (numbering old.names))
          (ap (λ (l : LiveState). state_of l.tables) is ∙ same.state ∙ read.state);
      names = again;
      calls = ap calls_in is ∙ same.calls ∙ read.calls;
    }

forgotten : (c : After-keep_first) → IsAsKnown c.args.self.now
    (record { names = c.keep_first.new.self; tables = c.self-2.inside.redo })
forgotten c =
    as_known c.self.inside c.self-2.inside c.args.self.now c.read.new.self c.obey.new.self
    c.len-count.result c.keep_first.new.self c.self.view_is c.self-2.view_is
    c.len-count.ensures.count c.read.ensures.kept c.obey.ensures.names c.read.ensures.known
    c.in-Err.ensures.known c.keep_first.ensures

pub returns-in-Err-clause-known : goal.returns-in-Err-clause-known
returns-in-Err-clause-known c = forgotten (goal.at.returns-in-Err-clause-known c).After-keep_first

pub invariant_of-self : goal.invariant_of-self
invariant_of-self c =
    let known = forgotten (goal.at.invariant_of-self c).After-keep_first in
    let state = ap (λ (l : LiveState). state_of l.tables) c.self-2.view_is
    ∙ c.in-Err.ensures.known.state ∙ c.read.ensures.known.state in
    record {
      few = omega (
        arith,
        ap length known.names,
        ap (λ (l : LiveState). length l.names) c.self.view_is,
        c.self.invariant.few,
      );
      state = rw (known.names, state, known.calls)
          (subst (λ (l : LiveState). IsKept l.names (state_of l.tables) (calls_of l.tables))
          c.self.view_is c.self.invariant.state);
      numbers = c.self-2.invariant.numbers;
    }

pub returns-in-Ok-clause-no_fault : goal.returns-in-Ok-clause-no_fault
returns-in-Ok-clause-no_fault c =
    no_fault_in_a_line c.args.self.now.names c.args.text.now
    (command_at c.read.new.self.names c.in_ok-command.command)
    c.read.new.self.names c.in_ok-command.ensures.read c.in_ok-command.ensures.named
