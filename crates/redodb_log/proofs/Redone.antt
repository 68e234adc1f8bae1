-- A line that is done again.
use Rattle.std.proofs.Common.{◌≡◌, ◌≢◌, ℕ, ◌<◌, [], ◌++◌, Bor, MatchOption, Option, None, Some, sym, ap, ◌∙◌, subst}
use Rattle.redodb_model.specs.Names.{Text, texts}
use Rattle.redodb_model.specs.Command.{Command}
use Rattle.redodb_model.specs.Step.{Answers, after}
use Rattle.redodb_model.specs.History.{Line}
use Rattle.redodb_model.proofs.Texts.{texts_are_names}
use Rattle.redodb_model.proofs.Unique.{one_answer}
use Rattle.redodb_text.specs.Grammar.{IsCommandLine}
use Rattle.redodb_text.specs.Questions.{line_fault}
use Rattle.redodb_text.specs.Texts.{command_text_of}
use Rattle.redodb_text.specs.declared.fault.LineFault.{LineFault}
use Rattle.redodb_text.proofs.FaultOrCommand.{no_fault_in_a_line}
use Rattle.redodb_text.proofs.LineLaws.{one_command}
use Rattle.redodb_history.specs.Histories.{line_text_of}
use Rattle.redodb_history.proofs.CommandsSaid.{command_said}
use Rattle.redodb_live.specs.Support.LiveState.{LiveState, state_in}
use Rattle.redodb_live.specs.Support.Appended.{AnswersText}
use Rattle.redodb_log.specs.Support.Steps.{CanFollow, NothingFollows, DoesNext}
use Rattle.redodb_log.proofs.Asked.{line_said}

-- a line that can follow has this session and text
abbrev pub IsAskedBy : LiveState → Text → ℕ → Text → Type 0
IsAskedBy live left session wanted =
    (line : Line Text) (rest : Text) → CanFollow live line → left ≡ line_text_of line ++ rest
    → (session ≡ line.session) × (wanted ≡ command_text_of line.command)

-- a text with a fault is no text of a command whose names fit
pub faulty : (live : LiveState) (left wanted : Text) (session : ℕ) (fault : LineFault)
    → IsAskedBy live left session wanted → line_fault 16777216 live.names wanted ≡ Some fault
    → NothingFollows live left
faulty live left wanted session fault asked is line rest follows e =
    let (_, same) = asked line rest follows e in
    let none : line_fault 16777216 live.names (command_text_of line.command) ≡ None =
    no_fault_in_a_line live.names (command_text_of line.command) line.command follows.names
    (line_said line.command follows.said.said) follows.named in
    absurd (let some = ap (line_fault 16777216 live.names) (sym same) ∙ is in cc)

module _ (old new : LiveState) (left own output logged logged_after : Text) (session : ℕ)
    (few : session < 65535) (is : AnswersText old new session own [] output logged logged_after)
    (asked : IsAskedBy old left session own)
  where
    -- the line that was answered is the only one that can follow
    one_follower : (other : Line Text) (rest : Text) → CanFollow old other
        → left ≡ line_text_of other ++ rest → other ≡ is.line
    one_follower other rest follows e =
        let (same, own_is) = asked other rest follows e in
        let session_is : other.session ≡ is.line.session = sym same ∙ sym is.is.session_is in
        let command_is : other.command ≡ is.line.command =
        one_command own other.command is.line.command
        (subst (λ (t : Text). IsCommandLine t other.command) (sym own_is)
        (line_said other.command follows.said.said)) is.is.parsed in
        let answers : Answers texts (state_in old) other.session other.command is.line.reply =
        subst (λ (at : ℕ × Command Text). Answers texts (state_in old) at.0 at.1 is.line.reply)
        (λ i. (same i, sym command_is i)) is.is.answers in
        let reply_is : other.reply ≡ is.line.reply =
        one_answer texts_are_names (state_in old) other.session other.command other.reply
        is.line.reply follows.answers answers in
        λ i. record { session = session_is i; command = command_is i; reply = reply_is i }

    does_next : (rest : Text) → left ≡ output ++ rest → DoesNext old new left rest
    does_next rest e = record {
      line = is.line;
      said = record {
        session = subst (λ (s : ℕ). s < 65535) (sym is.is.session_is) few;
        said = command_said own is.line.command is.is.parsed;
      };
      named = is.is.named;
      answers = subst (λ (s : ℕ). Answers texts (state_in old) s is.line.command is.line.reply)
          (sym is.is.session_is) is.is.answers;
      after_is = is.is.after_is
          ∙ ap (λ (s : ℕ). after texts (state_in old) s is.line.command) (sym is.is.session_is);
      calls = is.appended.calls;
      parts = e ∙ ap (λ (t : Text). t ++ rest) is.appended.writes;
      only = one_follower;
    }

    does_none : ((rest : Text) → left ≢ output ++ rest) → NothingFollows old left
    does_none differs line rest follows e =
        differs rest (e ∙ ap (λ (l : Line Text). line_text_of l ++ rest)
        (one_follower line rest follows e)
        ∙ ap (λ (t : Text). t ++ rest) (sym is.appended.writes))

    pub next_or_none : (found : Option (Bor Text))
        → MatchOption found ((rest : Text) → left ≢ output ++ rest) (λ rest. left
        ≡ output ++ rest.now) → MatchOption found (NothingFollows old left) (λ rest. DoesNext old
        new left rest.now)
    next_or_none None h = does_none h
    next_or_none (Some rest) h = does_next rest.now h
