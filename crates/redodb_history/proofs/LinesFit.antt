-- Legal lines: each has a history line's form, and the replies add no names.
use Rattle.std.proofs.Common.{◌≡◌, ℕ, ◌+◌, ◌<◌, ◌≤◌, ◌^◌, List, [], ◌∷◌, ◌++◌, length, map, refl, sym, ap, ◌∙◌, arith}
use Rattle.std.specs.List.{AllByRecursion, flat_map}
use Rattle.redodb_model.specs.Names.{Text, texts}
use Rattle.redodb_model.specs.State.{State, empty}
use Rattle.redodb_model.specs.Command.{names_in}
use Rattle.redodb_model.specs.Step.{holds_target, verdict_of, after}
use Rattle.redodb_model.specs.History.{Line, LegalFrom, Legal}
use Rattle.redodb_text.specs.Grammar.{with_names}
use Rattle.redodb_text.specs.Replies.{AreAllNames, names_in_reply}
use Rattle.redodb_text.proofs.ScriptParts.{with_names-append}
use Rattle.redodb_history.specs.HistoryTexts.{names_in_line}
use Rattle.redodb_history.specs.Support.HistoryTexts.{HasLineForm, IsLineSaid}
use Rattle.redodb_history.proofs.CommandsSaid.{form_has_names}
use Rattle.redodb_history.proofs.Grants.{AreFewGrants, few_after, few_at_first}
use Rattle.redodb_history.proofs.KnownFiles.{AreFilesKnown, files_known_after, files_known_at_first}
use Rattle.redodb_history.proofs.KnownNames.{AreKnown, known-with_names, added_are_known, with_names-known, each-with_names}
use Rattle.redodb_history.proofs.RepliesFit.{IsFitting, reply_fits}

-- the state after some lines: each of the names is a name, each name that has a file is among them,
-- and locks were granted at most this often
pub record IsReached (names : List Text) (count : ℕ) (st : State Text) : Type 0 where
  pub each : AreAllNames names
  pub files : AreFilesKnown names st.records
  pub grants : AreFewGrants count st.locks

more_known : (names ts : List Text) (st : State Text) → AreFilesKnown names st.records
    → AreFilesKnown (with_names names ts) st.records
more_known names ts st known n h = known-with_names names ts n (known n h)

reached_after : (most : ℕ) (names : List Text) (count : ℕ) (st : State Text) (line : Line Text)
    → IsReached names count st → IsLineSaid most line
    → IsReached (with_names names (names_in line.command)) (count + 1)
    (after texts st line.session line.command)
reached_after most names count st line reached is =
    let own = names_in line.command in
    record {
      each = each-with_names names own reached.each (form_has_names line.command is.said.0);
      files = files_known_after (with_names names own) st line.session line.command
          (more_known names own st reached.files) (added_are_known names own);
      grants = few_after texts count st.locks reached.grants line.session
          (verdict_of texts st.records line.session
          (holds_target st.locks line.session line.command) line.command) line.command;
    }

-- the names of a line's reply are known from commands
line_fits : (most : ℕ) (names : List Text) (count : ℕ) (st : State Text) (line : Line Text)
    → IsReached names count st → IsLineSaid most line → count + 1 ≤ 4294967295
    → LegalFrom texts st (line ∷ [])
    → IsFitting (with_names names (names_in line.command)) line.reply
line_fits most names count st line reached is room legal =
    let own = names_in line.command in
    reply_fits (with_names names own)
    (each-with_names names own reached.each (form_has_names line.command is.said.0)) st
    line.session count line.command line.reply
    (more_known names own st reached.files) reached.grants room (added_are_known names own) legal.0

-- what a legal history's lines have, if they are few
pub record AreFitting (most : ℕ) (names : List Text) (lines : List (Line Text)) : Type 0 where
  pub forms : AllByRecursion (HasLineForm most) lines
  pub same_names : with_names names (flat_map names_in_line lines) ≡ with_names names
      (flat_map names_in (map (λ line. line.command) lines))

-- a reply adds no names to those of its command
reply_adds_none : (names own told others more : List Text) → AreKnown (with_names names own) told
    → with_names (with_names names own) others ≡ with_names (with_names names own) more
    → with_names names ((own ++ told) ++ others) ≡ with_names names (own ++ more)
reply_adds_none names own told others more known same =
    with_names-append names (own ++ told) others ∙ ap (λ prefix. with_names prefix others)
    (with_names-append names own told ∙ with_names-known (with_names names own) told known)
    ∙ same ∙ sym (with_names-append names own more)

pub lines_fit : (most : ℕ) (names : List Text) (count : ℕ) (st : State Text)
    (lines : List (Line Text)) → IsReached names count st
    → AllByRecursion (IsLineSaid most) lines → count + length lines ≤ 4294967295
    → LegalFrom texts st lines → AreFitting most names lines
lines_fit most names count st [] reached said room legal = record { forms = tt; same_names = refl }
lines_fit most names count st (line ∷ lines) reached said room legal =
    let own = names_in line.command in
    let fits = line_fits most names count st line reached said.0 (omega arith) (legal.0, tt) in
    let rest = lines_fit most (with_names names own) (count + 1)
    (after texts st line.session line.command) lines
    (reached_after most names count st line reached said.0) said.1 (omega arith) legal.1 in
    let form : HasLineForm most line = record {
      session = said.0.session;
      command = said.0.said.0;
      short = said.0.said.1;
      reply = fits.0;
    } in
    record {
      forms = (form, rest.forms);
      same_names = reply_adds_none names own (names_in_reply line.reply)
          (flat_map names_in_line lines)
          (flat_map names_in (map (λ (l : Line Text). l.command) lines)) fits.1 rest.same_names;
    }

-- from the empty state
pub legal_lines_fit : (most : ℕ) (lines : List (Line Text)) → Legal texts lines
    → AllByRecursion (IsLineSaid most) lines → length lines < 2 ^ 32 → AreFitting most [] lines
legal_lines_fit most lines legal said few =
    lines_fit most [] 0 empty lines
    (record { each = tt; files = files_known_at_first []; grants = few_at_first }) said
    (omega arith) legal
