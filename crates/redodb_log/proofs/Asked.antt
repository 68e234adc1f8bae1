-- The session and command that a line's text gives.
use Rattle.std.proofs.Common.{◌≡◌, ℕ, ◌+◌, ◌<◌, [], ◌∷◌, ◌++◌, refl, sym, ◌∙◌, subst, arith, append_assoc}
use Rattle.std.specs.Prelude.{codes, decimal, Contains}
use Rattle.std.proofs.lemmas.Fmt.{decimal_injective}
use Rattle.redodb_model.specs.Names.{Text}
use Rattle.redodb_model.specs.Command.{Command}
use Rattle.redodb_model.specs.History.{Line}
use Rattle.redodb_text.specs.Texts.{command_text_of, reply_text_of}
use Rattle.redodb_text.specs.Grammar.{IsCommandLine}
use Rattle.redodb_text.proofs.LineLaws.{text_is_spelled}
use Rattle.redodb_history.specs.Histories.{line_text_of}
use Rattle.redodb_history.specs.HistoryFaults.{arrow, IsCutAtSpace, IsCutAtArrow, IsSessionWord, HasNoArrow}
use Rattle.redodb_history.specs.Support.HistoryTexts.{IsLineSaid, IsSaid}
use Rattle.redodb_history.proofs.CutOnce.{Without, without_append, without_from, one_cut_at_space, one_cut_at_arrow}
use Rattle.redodb_history.proofs.FreeWords.{command_is_one_line}
use Rattle.redodb_history.proofs.HistoryLines.{number_is_without, command_cut}
use Rattle.redodb_log.specs.Support.Steps.{AsksFor}

pub line_said : (command : Command Text) → IsSaid command
    → IsCommandLine (command_text_of command) command
line_said command is = (is.0, is.1, text_is_spelled command is.0)

-- a prefix without the byte ends before the first one
free_prefix : (b : ℕ) (prefix text rest more : Text) → Without b prefix → Without b text
    → text ++ b ∷ more ≡ prefix ++ rest → (end : Text) × (text ≡ prefix ++ end)
free_prefix b [] text rest more p q e = (text, refl)
free_prefix b (c ∷ prefix) [] rest more p q e =
    let same : c ≡ b = cc in
    absurd (p.0 same)
free_prefix b (c ∷ prefix) (d ∷ text) rest more p q e =
    let first : d ≡ c = cc in
    let others : text ++ b ∷ more ≡ prefix ++ rest = cc in
    let end = free_prefix b prefix text rest more p.1 q.1 others in
    (end.0, λ i. first i ∷ end.1 i)

-- a line's text up to its arrow
abbrev prefix_of : Line Text → Text
prefix_of line = decimal (line.session + 1) ++ 32 ∷ (command_text_of line.command ++ arrow)

prefix_is_one : (line : Line Text) → IsLineSaid 65535 line → Without 10 (prefix_of line)
prefix_is_one line is =
    let command = command_is_one_line (command_text_of line.command) line.command
    (line_said line.command is.said) in
    without_append 10 (decimal (line.session + 1)) (32 ∷ (command_text_of line.command ++ arrow))
    (number_is_without 10 (line.session + 1) refl (let few = is.session in omega arith)) (
      λ e. omega arith,
      without_append 10 (command_text_of line.command) arrow command other,
    )
  where
    other : Without 10 arrow
    other = (λ e. omega arith, (λ e. omega arith, (λ e. omega arith, (λ e. omega arith, tt))))

regroup : (d c r rest : Text) → (d ++ codes " " ++ (c ++ codes " => " ++ r) ++ 10 ∷ []) ++ rest
    ≡ (d ++ 32 ∷ (c ++ arrow)) ++ (r ++ 10 ∷ rest)
regroup d c r rest = simp append_assoc

-- the text of the first line of what is left, if that begins with the text of a line
pub asks_for : (text more rest : Text) (line : Line Text) → IsLineSaid 65535 line
    → ¬ (Contains text 10)
    → text ++ 10 ∷ more ≡ line_text_of line ++ rest
    → AsksFor text line.session (command_text_of line.command)
asks_for text more rest line is free e =
    let d = decimal (line.session + 1) in
    let c = command_text_of line.command in
    let r = reply_text_of line.reply in
    let end = free_prefix 10 (prefix_of line) text (r ++ 10 ∷ rest) more (prefix_is_one line is)
    (without_from 10 text free) (e ∙ regroup d c r rest) in
    (end.0, end.1 ∙ append_assoc d (32 ∷ (c ++ arrow)) end.0)

module _ (text word rest wanted : Text) (session : ℕ) (few : session < 65535)
    (cut : IsCutAtSpace text word rest) (asks : AsksFor text session wanted)
  where
    at_space : (word ≡ decimal (session + 1)) × (rest ≡ wanted ++ arrow ++ asks.0)
    at_space = one_cut_at_space text (decimal (session + 1)) (wanted ++ arrow ++ asks.0) word rest
        (number_is_without 32 (session + 1) refl (omega arith)) asks.1 cut

    pub is_session_word : IsSessionWord 65535 word session
    is_session_word = (few, at_space.0)

    pub same_session : (found : ℕ) → IsSessionWord 65535 word found → found ≡ session
    same_session found is =
        let same : found + 1 ≡ session + 1 =
        decimal_injective (found + 1) (session + 1) (let low = is.0 in omega arith) (omega arith)
        (sym is.1 ∙ at_space.0) in
        omega arith

    pub has_arrow : ¬ (HasNoArrow rest)
    has_arrow none = none wanted asks.0 at_space.1

    pub same_wanted : (command : Command Text) (own reply : Text) → IsCommandLine wanted command
        → IsCutAtArrow rest own reply → own ≡ wanted
    same_wanted command own reply is found =
        (one_cut_at_arrow rest own reply wanted asks.0 found
        (subst (λ (t : Text). IsCutAtArrow t wanted asks.0) (sym at_space.1)
        (command_cut wanted command asks.0 is))).0
