use Rattle.std.proofs.Common.{◌≡◌, ◌≢◌, ◌++◌, MatchOption, sym, subst, ◌∙◌}
use Rattle.std.proofs.lemmas.Bool.Decides.{Decides-eqb}
use Rattle.std.proofs.lemmas.Slice.Eq.{strip_prefix_is}
use Rattle.redodb_model.specs.Names.{Text}
use Rattle.redodb_text.specs.Texts.{command_text_of}
use Rattle.redodb_live.specs.Support.Appended.{AnswersText}
use Rattle.redodb_log.proofs.Asked.{line_said, asks_for}
use Rattle.redodb_log.proofs.Redone.{faulty, next_or_none}
use Rattle.redodb_log.proofs.restoring.Again.redo.Goals as goal

pub returns-in_default-clause-next : goal.returns-in_default-clause-next
returns-in_default-clause-next c line rest follows e =
    c.in_default.ensures.found line.session (command_text_of line.command) line.command
    follows.said.session (line_said line.command follows.said.said)
    (asks_for c.args.text.now c.requires.0 rest line follows.said c.requires.1.1
    (sym c.requires.1.0 ∙ e))

pub returns-in-Ok-clause-next : goal.returns-in-Ok-clause-next
returns-in-Ok-clause-next c =
    let old = c.args.self.now.live in
    let new = c.answer.new.self in
    let own = c.in-Some.command.now in
    let output = c.answer.new.output.items in
    let is = subst (λ (t : Text). AnswersText old new c.in-Some.session own t output
    c.clear-2.new.self.items c.answer.new.logged.items) c.clear.ensures.items
    c.in-Ok.ensures.answered in
    next_or_none old new c.args.left.now own output c.clear-2.new.self.items
    c.answer.new.logged.items c.in-Some.session c.in-Some.ensures.session is
    (λ line rest follows e.
    c.in-Some.ensures.found line.session (command_text_of line.command) line.command
    follows.said.session (line_said line.command follows.said.said)
    (asks_for c.args.text.now c.requires.0 rest line follows.said c.requires.1.1
    (sym c.requires.1.0 ∙ e)))
    c.strip_prefix.result (subst (λ (t : Text). MatchOption c.strip_prefix.result
    ((rest : Text) → c.args.left.now ≢ t ++ rest) (λ rest. c.args.left.now ≡ t ++ rest.now))
    c.as_slice.ensures.value
    (strip_prefix_is Decides-eqb c.args.left.now c.as_slice.result.now c.strip_prefix.result
    c.strip_prefix.ensures.cases))

pub returns-in-Err-Fault-clause-next : goal.returns-in-Err-Fault-clause-next
returns-in-Err-Fault-clause-next c line rest follows e =
    let cause = rw c.in-Err-Fault.field-0-is at c.in-Err-Fault.ensures.cause in
    faulty c.args.self.now.live c.args.left.now c.in-Some.command.now c.in-Some.session
    c.in-Err-Fault.field-0-0
    (λ line rest follows e.
    c.in-Some.ensures.found line.session (command_text_of line.command) line.command
    follows.said.session (line_said line.command follows.said.said)
    (asks_for c.args.text.now c.requires.0 rest line follows.said c.requires.1.1
    (sym c.requires.1.0 ∙ e)))
    cause line rest follows e
