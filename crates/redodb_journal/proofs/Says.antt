-- The table after one line more.
use Rattle.std.proofs.Common.{◌≡◌, ℕ, ◌<◌, Bool, List, [], ◌∷◌, ◌++◌, refl, sym, ap, ◌∙◌, subst}
use Rattle.redodb_model.specs.Names.{Text, Naming, by_text}
use Rattle.redodb_model.specs.History.{Line}
use Rattle.redodb_model.specs.Closing.{holds_then, holds_after, builds_then, builds_after}
use Rattle.redodb_journal.specs.declared.holds.Hold.{Hold}
use Rattle.redodb_journal.specs.Holds.{Says, Notes}

holds_push : (naming : Naming ℕ) (t : ℕ) (b : Bool) (lines : List (Line ℕ)) (line : Line ℕ)
    → holds_after naming t b (lines ++ line ∷ [])
    ≡ holds_then naming line.command line.reply t (holds_after naming t b lines)
holds_push naming t b [] line = refl
holds_push naming t b (first ∷ lines) line =
    holds_push naming t (holds_then naming first.command first.reply t b) lines line

builds_push : (naming : Naming ℕ) (t : ℕ) (b : Bool) (lines : List (Line ℕ)) (line : Line ℕ)
    → builds_after naming t b (lines ++ line ∷ [])
    ≡ builds_then naming line.command line.reply t (builds_after naming t b lines)
builds_push naming t b [] line = refl
builds_push naming t b (first ∷ lines) line =
    builds_push naming t (builds_then naming first.command first.reply t b) lines line

pub says_on : (names : List Text) (old new : List Hold) (lines : List (Line ℕ)) (line : Line ℕ)
    → Says names old lines → Notes names old line.command line.reply new
    → Says names new (lines ++ line ∷ [])
says_on names old new lines line says notes = record {
  one_each = notes.one_each ∙ says.one_each;
  held = λ t within.
      notes.held t (subst (λ n. t < n) (sym says.one_each) within)
      ∙ ap (holds_then (by_text names) line.command line.reply t) (says.held t within)
      ∙ sym (holds_push (by_text names) t _ lines line);
  building = λ t within.
      notes.building t (subst (λ n. t < n) (sym says.one_each) within)
      ∙ ap (builds_then (by_text names) line.command line.reply t) (says.building t within)
      ∙ sym (builds_push (by_text names) t _ lines line);
}
