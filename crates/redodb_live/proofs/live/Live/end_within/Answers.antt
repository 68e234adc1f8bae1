use Rattle.std.proofs.Common.{◌≡◌, ◌+◌, ◌^◌, ◌<◌, ◌++◌, List, length, map, sym, ap, ◌∙◌, subst}
use Rattle.std.proofs.lemmas.Result.{err_from_is_err_and}
use Rattle.std.specs.List.{AllByRecursion, flat_map}
use Rattle.redodb_model.specs.Names.{Text, by_number}
use Rattle.redodb_model.specs.History.{LegalFrom, left_by}
use Rattle.redodb_model.specs.Renaming.{IsBelow}
use Rattle.redodb_commands.specs.Meaning.{command_of, line_of, line_at}
use Rattle.redodb_commands.specs.declared.reply.Line.{Line}
use Rattle.redodb_database.specs.Tables.{state_of, tables_count, calls_of}
use Rattle.redodb_history.specs.Histories.{line_text_of}
use Rattle.redodb_history.specs.Recorded.{AreLinesBelow}
use Rattle.redodb_live.specs.Support.Ended.{end_text}
use Rattle.redodb_live.specs.Support.ClosingLines.{AreClosing, TakesNoRoom}
use Rattle.redodb_live.specs.Support.Kept.{live_of}
use Rattle.redodb_live.specs.Support.LiveState.{LiveState}
use Rattle.redodb_live.specs.Support.Appended.{EndsSession}
use Rattle.redodb_live.specs.Support.AnswerFaults.{WouldEnd}
use Rattle.redodb_live.proofs.Ending.{close_below, close_calls, close_legal, close_room, ends, kept_end, lines_are_below, unended, would_end}
use Rattle.redodb_live.proofs.live.Live.end_within.Goals as goal
use Rattle.redodb_live.proofs.live.Live.end_within.Goals.{After-are_names}

-- the lines close what the session holds
closing : (c : After-are_names) → AreClosing (live_of c.self.inside) c.args.session
    (map line_of c.in_ok-lines.lines.items)
closing c =
    subst (λ (l : LiveState). AreClosing l c.args.session (map line_of c.in_ok-lines.lines.items))
    (sym c.self.view_is) c.in_ok-lines.ensures

pub lines_text-requires : goal.lines_text-requires
lines_text-requires c =
    let lines = c.in_ok-lines.lines.items in
    let closing = closing (goal.at.lines_text-requires c).After-are_names in
    subst (AreLinesBelow c.self.inside.names) (sym c.deref.ensures.value)
    (lines_are_below c.self.inside.names c.are_names.ensures c.self.inside.redo
    c.self.invariant.state c.args.session lines closing)

pub close-requires : goal.close-requires
close-requires c =
    let names = c.self.inside.names in
    let are = c.are_names.ensures in
    let tables = c.self.inside.redo in
    let state = c.self.invariant.state in
    let lines = c.in_ok-lines.lines.items in
    let closing = closing (goal.at.close-requires c).After-are_names in
    let again = sym c.deref-5.ensures.value in
    record {
      below = subst
          (AllByRecursion (λ line. IsBelow (tables_count tables) (command_of line.command))) again
          (close_below names are tables state c.args.session lines closing);
      room = subst (AllByRecursion (λ line. TakesNoRoom (command_of line.command))) again
          (close_room names are tables state c.args.session lines closing);
      calls = subst (λ (ls : List Line). calls_of tables + length ls < 2 ^ 32) again
          (close_calls names are tables state c.args.session lines closing);
      legal = subst
          (λ (ls : List Line). LegalFrom by_number (state_of tables) (map line_of ls)) again
          (close_legal names are tables state c.args.session lines closing);
    }

pub invariant_of-self : goal.invariant_of-self
invariant_of-self c =
    let lines = c.in_ok-lines.lines.items in
    let tables = c.self.inside.redo in
    let closing = closing (goal.at.invariant_of-self c).After-are_names in
    record {
      few = c.self.invariant.few;
      state = kept_end c.self.inside.names c.are_names.ensures tables c.self.invariant.state
          c.args.session lines closing c.close.new.redo
          (c.close.ensures.left
          ∙ ap (λ (ls : List Line). left_by by_number (state_of tables) (map line_of ls))
          c.deref-5.ensures.value)
          (c.close.ensures.calls
          ∙ ap (λ (ls : List Line). calls_of tables + length ls) c.deref-5.ensures.value);
      numbers = c.self.invariant.numbers ∙ sym c.close.ensures.count;
    }

pub returns-clause-ended : goal.returns-clause-ended
returns-clause-ended c =
    let lines = c.in_ok-lines.lines.items in
    let names = c.self.inside.names in
    let tables = c.self.inside.redo in
    let next : LiveState = record { names = names; tables = c.close.new.redo } in
    let output = c.args.output.now.items in
    let logged = c.args.logged.now.items in
    let closing = closing (goal.at.returns-clause-ended c).After-are_names in
    let kept : c.in_ok-kept.kept.items ≡ flat_map line_text_of (map (line_at names) lines) =
    c.in_ok-kept.ensures
    ∙ ap (λ (ls : List Line). flat_map line_text_of (map (line_at names) ls))
    c.deref.ensures.value in
    subst (λ (l : LiveState). EndsSession l next c.args.session output c.append_within.new.output.items
    logged c.append_within.new.logged.items) c.self.view_is
    (ends names c.are_names.ensures tables c.self.invariant.state c.args.session lines closing
    c.close.new.redo
    (c.close.ensures.left
    ∙ ap (λ (ls : List Line). left_by by_number (state_of tables) (map line_of ls))
    c.deref-5.ensures.value)
    (c.close.ensures.calls
    ∙ ap (λ (ls : List Line). calls_of tables + length ls) c.deref-5.ensures.value)
    output c.append_within.new.output.items logged c.append_within.new.logged.items
    (c.in_ok-append_within.ensures.output
    ∙ ap (λ (t : Text). output ++ t) (c.deref-3.ensures.value ∙ c.in_ok-text.ensures
    ∙ ap (λ (t : Text). t ++ end_text c.args.session) (c.deref-2.ensures.value ∙ kept)))
    (c.in_ok-append_within.ensures.logged
    ∙ ap (λ (t : Text). logged ++ t) (c.deref-4.ensures.value ∙ kept)))

pub returns-in_err-append_within-clause-cause : goal.returns-in_err-append_within-clause-cause
returns-in_err-append_within-clause-cause c =
    let lines = c.in_ok-lines.lines.items in
    let names = c.self.inside.names in
    let session = c.args.session in
    let text = c.deref-3.result.now in
    let closing = closing (goal.at.returns-in_err-append_within-clause-cause c).After-are_names in
    let kept : c.in_ok-kept.kept.items ≡ flat_map line_text_of (map (line_at names) lines) =
    c.in_ok-kept.ensures
    ∙ ap (λ (ls : List Line). flat_map line_text_of (map (line_at names) ls))
    c.deref.ensures.value in
    let whole = c.deref-3.ensures.value ∙ c.in_ok-text.ensures
    ∙ ap (λ (t : Text). t ++ end_text session) (c.deref-2.ensures.value ∙ kept) in
    let would = subst (λ (l : LiveState). WouldEnd l session (length text)) c.self.view_is
    (subst (WouldEnd (live_of c.self.inside) session) (sym (ap length whole))
    (would_end names c.are_names.ensures c.self.inside.redo c.self.invariant.state session lines
    closing)) in
    let failed = err_from_is_err_and c.from_residual-in_err-append_within.result
    c.from_residual-in_err-append_within.ensures.1 in
    rw (failed.1, failed.2)
    (unended c.args.self.now session c.args.most c.in_err-append_within.field-0.0 text would
    c.in_err-append_within.ensures.cause)
