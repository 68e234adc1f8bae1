-- A line of a history, from its parts.
use Rattle.std.proofs.Common.{◌≡◌, ℕ, ◌+◌, ◌⊎◌, inl, inr, List, [], ◌∷◌, ◌++◌, length, sym, ap, ◌∙◌, arith, codes, decimal, length-append, append-nil, append_assoc}
use Rattle.redodb_model.specs.Names.{Text}
use Rattle.redodb_model.specs.Command.{names_in}
use Rattle.redodb_model.specs.History.{Line}
use Rattle.redodb_text.specs.Grammar.{with_names, AddsNames}
use Rattle.redodb_text.specs.Replies.{AddsReplyNames, names_in_reply}
use Rattle.redodb_text.proofs.ScriptParts.{with_names-append}
use Rattle.redodb_history.specs.Support.HistoryTexts.{AddsLineNames}
use Rattle.redodb_history.specs.HistoryFaults.{arrow, IsCutAtSpace, IsCutAtArrow, IsSessionWord}

pub line_parts : {text word rest command reply : Text} (session : ℕ) → IsCutAtSpace text word rest
    → IsSessionWord 64 word session → IsCutAtArrow rest command reply
    → text ≡ decimal (session + 1) ++ codes " " ++ command ++ codes " => " ++ reply
line_parts {text} {word} {rest} {command} {reply} session cut is at_arrow = by cut.parts
  where
    by : (text ≡ word ++ 32 ∷ rest) ⊎ ((text ≡ word) × (rest ≡ []))
        → text ≡ decimal (session + 1) ++ codes " " ++ command ++ codes " => " ++ reply
    by (inl e) = e ∙ (λ i. is.1 i ++ 32 ∷ at_arrow.parts i) ∙ sym (simp append_assoc)
    by (inr e) =
        let none : [] ≡ command ++ arrow ++ reply = sym e.1 ∙ at_arrow.parts in
        absurd (omega (
          arith,
          ap length none,
          length-append (command ++ arrow) reply,
          length-append command arrow,
        ))

-- a line's names are those of its command and then those of its reply
pub line_named : (old mid new : List Text) (line : Line Text)
    → AddsNames 65536 old (line.command ∷ []) mid → AddsReplyNames 65536 mid line.reply new
    → AddsLineNames old line new
line_named old mid new line said answered = (
  answered.0 ∙ ap (λ (ns : List Text). with_names ns (names_in_reply line.reply)) (said.0
      ∙ ap (with_names old) (append-nil (names_in line.command)))
      ∙ sym (with_names-append old (names_in line.command) (names_in_reply line.reply)),
  answered.1,
)
