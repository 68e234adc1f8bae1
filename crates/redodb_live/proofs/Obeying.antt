-- The line of the answer answers a session's command.
use Rattle.std.proofs.Common.{◌≡◌, ◌+◌, ℕ, Bool, cond, List, [], ◌∷◌, ◌++◌, refl, sym, ap, ◌∙◌, subst, length}
use Rattle.std.specs.Ordering.{nat_cmp}
use Rattle.redodb_model.specs.Names.{Text, texts, text_at, by_number, by_text}
use Rattle.redodb_model.specs.State.{State}
use Rattle.redodb_model.specs.Command.{Command}
use Rattle.redodb_model.specs.Step.{Answers, after}
use Rattle.redodb_model.specs.Changes.{changes}
use Rattle.redodb_model.specs.Renaming.{named_command, named_reply}
use Rattle.redodb_model.specs.Support.Renaming.{named_state, numbering}
use Rattle.redodb_model.proofs.StepsByName.{after_by_name}
use Rattle.redodb_model.proofs.Texts.{texts_are_names}
use Rattle.redodb_commands.specs.Meaning.{command_of, reply_of, line_at}
use Rattle.redodb_commands.specs.declared.reply.Line.{Line}
use Rattle.redodb_commands.specs.declared.reply.Reply.{Reply}
use Rattle.redodb_text.specs.Grammar.{IsCommandLine, AddsNames}
use Rattle.redodb_database.specs.Tables.{Tables, state_of, tables_records, calls_of}
use Rattle.redodb_history.specs.Histories.{line_text_of}
use Rattle.redodb_live.specs.Support.Answered.{logged_text}
use Rattle.redodb_live.specs.Support.LiveState.{LiveState, state_in, calls_in, IsSameDatabase}
use Rattle.redodb_live.specs.Support.Kept.{IsKept}
use Rattle.redodb_live.specs.Support.Appended.{IsDue, IsObeyed, AnswersText, IsUnansweredFor}
use Rattle.redodb_live.specs.Support.AnswerFaults.{WouldObey, IsUnobeyedFor, IsUnwrittenFor, IsAnswerFaultFor}
use Rattle.redodb_live.specs.declared.fault.AnswerFault.{AnswerFault}
use Rattle.redodb_live.specs.declared.fault.AnswerFault.TheVariants.{Unanswered, TooLong}
use Rattle.redodb_live.proofs.Answering.{renaming, now_answers}
use Rattle.redodb_live.proofs.Changing.{changes_by_name}
use Rattle.redodb_live.proofs.Keeping.{IsKept-after}

before : (names : List Text) (tables : Tables) (old : LiveState) → names ≡ old.names
    → state_of tables ≡ state_of old.tables
    → named_state (numbering names) (state_of tables) ≡ state_in old
before names tables old old_names old_state =
    ap (named_state (numbering names)) old_state
    ∙ ap (λ (ns : List Text). named_state (numbering ns) (state_of old.tables)) old_names

module _ (names : List Text) (tables : Tables)
    (kept : IsKept names (state_of tables) (calls_of tables)) (reply_line : Line) (reply : Reply)
    (due : IsDue (record { names = names; tables = tables }) reply_line reply)
  where
    line_answers : Answers texts (named_state (numbering names) (state_of tables))
        reply_line.session (named_command (text_at names) (command_of reply_line.command))
        (named_reply (text_at names) (reply_of reply_line.reply))
    line_answers =
        now_answers names due.names tables kept.within reply_line.session
        (command_of reply_line.command) due.below (reply_of reply) (reply_of reply_line.reply)
        due.answers due.sorted

    line_changes : changes (named_state (numbering names) (state_of tables)).records
        (line_at names reply_line).command (line_at names reply_line).reply
        ≡ changes (tables_records tables) (command_of reply_line.command) (reply_of reply)
    line_changes =
        changes_by_name (by_text names).order names due.names (tables_records tables)
        (reply_of reply) (reply_of reply_line.reply) due.sorted
        (command_of reply_line.command) due.below

    module _ (old : LiveState) (old_names : names ≡ old.names)
        (old_state : state_of tables ≡ state_of old.tables) (text : Text)
        (is : text ≡ line_text_of (line_at names reply_line))
      where
        line_command : (line_at names reply_line).command
            ≡ named_command (text_at old.names) (command_of reply_line.command)
        line_command =
            ap (λ (ns : List Text). named_command (text_at ns) (command_of reply_line.command))
            old_names

        line_answers_there : Answers texts (state_in old) reply_line.session
            (line_at names reply_line).command (line_at names reply_line).reply
        line_answers_there =
            let line = line_at names reply_line in
            subst (λ (st : State Text). Answers texts st reply_line.session line.command line.reply)
            (before names tables old old_names old_state) line_answers

        pub would_obey : WouldObey old reply_line.session (command_of reply_line.command)
            (length text)
        would_obey = record {
          line = line_at names reply_line;
          session_is = refl;
          command_is = line_command;
          answers = line_answers_there;
          size_is = ap length is;
        }

    module _ (next : Tables)
        (steps : state_of next
        ≡ after by_number (state_of tables) reply_line.session (command_of reply_line.command))
        (counted : calls_of next ≡ calls_of tables + 1)
      where
        pub kept_after : IsKept names (state_of next) (calls_of next)
        kept_after =
            let session = reply_line.session in
            let command = command_of reply_line.command in
            subst (λ (st : State ℕ). IsKept names st (calls_of next)) (sym steps)
            (subst (IsKept names (after by_number (state_of tables) session command)) (sym counted)
            (IsKept-after names due.names nat_cmp (state_of tables) session command
            (named_reply (text_at names) (reply_of reply_line.reply)) (calls_of tables) due.calls
            due.below kept line_answers))

        pub obeyed : (old : LiveState) (text output output_after logged logged_after : Text)
            (b : Bool) → names ≡ old.names → state_of tables ≡ state_of old.tables
            → calls_of tables ≡ calls_in old
            → text ≡ line_text_of (line_at names reply_line)
            → b ≡ changes (tables_records tables) (command_of reply_line.command)
            (reply_of reply)
            → output_after ≡ output ++ text
            → logged_after ≡ logged ++ cond b text []
            → IsObeyed old (record { names = names; tables = next }) reply_line.session
            (command_of reply_line.command) output output_after logged logged_after
        obeyed old text output output_after logged logged_after b old_names old_state old_calls is
            changing writes logs =
            let line = line_at names reply_line in
            let same = before names tables old old_names old_state in
            let is_changing : b ≡ changes (state_in old).records line.command line.reply =
            changing ∙ sym line_changes
            ∙ ap (λ (st : State Text). changes st.records line.command line.reply) same in
            let logged_is : cond b text [] ≡ logged_text (state_in old) line =
            ap (λ (w : Bool). cond w text []) is_changing
            ∙ ap (λ (t : Text). cond (changes (state_in old).records line.command line.reply) t [])
            is in
            record {
              line = line;
              session_is = refl;
              command_is = line_command old old_names old_state text is;
              answers = line_answers_there old old_names old_state text is;
              after_is = ap (named_state (numbering names)) steps
                  ∙ after_by_name (renaming names due.names) texts texts_are_names nat_cmp
                  (state_of tables) reply_line.session (command_of reply_line.command) due.below
                  ∙ ap (λ (st : State Text). after texts st reply_line.session line.command) same;
              appended = record {
                writes = writes ∙ ap (λ (t : Text). output ++ t) is;
                logs = logs ∙ ap (λ (t : Text). logged ++ t) logged_is;
                calls = counted ∙ ap (λ (n : ℕ). n + 1) old_calls;
              };
            }

-- if the text of its line wasn't appended, a command isn't obeyed
pub unobeyed : (old : LiveState) (session : ℕ) (command : Command ℕ) (most : ℕ) (why : AnswerFault)
    (text : Text) → WouldObey old session command (length text) → IsUnwrittenFor text most why
    → IsUnobeyedFor old session command most why
unobeyed old session command most (Unanswered why) text would e = e
unobeyed old session command most (TooLong size) text would (more, e) =
    (more, subst (WouldObey old session command) (sym e) would)

module _ (old mid : LiveState) (names : mid.names ≡ old.names) (same : IsSameDatabase old mid) where
  same_state : state_in mid ≡ state_in old
  same_state = before mid.names mid.tables old names same.state

  -- the same for a database that knew the same
  pub obeyed_before : (new : LiveState) (session asking : ℕ) (command asked : Command ℕ)
      (output output_after logged logged_after : Text) → asking ≡ session → asked ≡ command
      → IsObeyed mid new asking asked output output_after logged logged_after
      → IsObeyed old new session command output output_after logged logged_after
  obeyed_before new session asking command asked output output_after logged logged_after session_is
      command_is obeys =
      let line = obeys.line in
      subst (λ (s : ℕ). IsObeyed old new s command output output_after logged logged_after)
      session_is (subst (λ (k : Command ℕ). IsObeyed old new asking k output output_after logged
      logged_after) command_is record {
        line = line;
        session_is = obeys.session_is;
        command_is = obeys.command_is
            ∙ ap (λ (ns : List Text). named_command (text_at ns) asked) names;
        answers = subst (λ (st : State Text). Answers texts st asking line.command line.reply)
            same_state obeys.answers;
        after_is = obeys.after_is
            ∙ ap (λ (st : State Text). after texts st asking line.command) same_state;
        appended = record {
          writes = obeys.appended.writes;
          logs = obeys.appended.logs
              ∙ ap (λ (st : State Text). logged ++ logged_text st line) same_state;
          calls = obeys.appended.calls ∙ ap (λ (n : ℕ). n + 1) same.calls;
        };
      })

  pub unobeyed_before : (session asking : ℕ) (command asked : Command ℕ) (most : ℕ)
      (why : AnswerFault) → asking ≡ session → asked ≡ command
      → IsUnobeyedFor mid asking asked most why → IsUnobeyedFor old session command most why
  unobeyed_before session asking command asked most (Unanswered why) session_is command_is e = e
  unobeyed_before session asking command asked most (TooLong size) session_is command_is
      (more, would) =
      let line = would.line in (
        more,
        subst (λ (s : ℕ). WouldObey old s command size) session_is
            (subst (λ (k : Command ℕ). WouldObey old asking k size) command_is record {
              line = line;
              session_is = would.session_is;
              command_is = would.command_is
                  ∙ ap (λ (ns : List Text). named_command (text_at ns) asked) names;
              answers = subst
                  (λ (st : State Text). Answers texts st asking line.command line.reply)
                  same_state would.answers;
              size_is = would.size_is;
            }),
      )

-- and the text that was read, if the names before are a prefix of these
pub answered : (old mid new : LiveState) (session : ℕ) (text : Text) (command : Command ℕ)
    (output output_after logged logged_after : Text) → state_in mid ≡ state_in old
    → calls_in mid ≡ calls_in old → new.names ≡ mid.names
    → IsCommandLine text (named_command (text_at mid.names) command)
    → AddsNames 16777216 old.names (named_command (text_at mid.names) command ∷ []) mid.names
    → IsObeyed mid new session command output output_after logged logged_after
    → AnswersText old new session text output output_after logged logged_after
answered old mid new session text command output output_after logged logged_after same calls names
    is_line adds obeys =
    let line = obeys.line in
    record {
      line = line;
      is = record {
        session_is = obeys.session_is;
        parsed = subst (IsCommandLine text) (sym obeys.command_is) is_line;
        named = subst (λ (ns : List Text). AddsNames 16777216 old.names (line.command ∷ []) ns)
            (sym names)
            (subst (λ (asked : Command Text). AddsNames 16777216 old.names (asked ∷ []) mid.names)
            (sym obeys.command_is) adds);
        answers = subst (λ (st : State Text). Answers texts st session line.command line.reply) same
            obeys.answers;
        after_is = obeys.after_is
            ∙ ap (λ (st : State Text). after texts st session line.command) same;
      };
      appended = record {
        writes = obeys.appended.writes;
        logs = obeys.appended.logs
            ∙ ap (λ (st : State Text). logged ++ logged_text st line) same;
        calls = obeys.appended.calls ∙ ap (λ (n : ℕ). n + 1) calls;
      };
    }

-- what refuses the command refuses the text
pub answer_fault : (old mid : LiveState) (session : ℕ) (text : Text) (command : Command ℕ)
    (most : ℕ) (why : AnswerFault) → state_in mid ≡ state_in old
    → IsCommandLine text (named_command (text_at mid.names) command)
    → AddsNames 16777216 old.names (named_command (text_at mid.names) command ∷ []) mid.names
    → IsUnobeyedFor mid session command most why → IsAnswerFaultFor old session text most why
answer_fault old mid session text command most (Unanswered why) same is_line adds e =
    subst (IsUnansweredFor old text) (sym e) tt
answer_fault old mid session text command most (TooLong size) same is_line adds (more, would) =
    let line = would.line in (
      more,
      record {
        line = line;
        session_is = would.session_is;
        parsed = subst (IsCommandLine text) (sym would.command_is) is_line;
        names_after = mid.names;
        named = subst
            (λ (asked : Command Text). AddsNames 16777216 old.names (asked ∷ []) mid.names)
            (sym would.command_is) adds;
        answers = subst (λ (st : State Text). Answers texts st session line.command line.reply) same
            would.answers;
        size_is = would.size_is;
      },
    )
