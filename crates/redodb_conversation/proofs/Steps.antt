-- An answer of the database is a step of a conversation.
use Rattle.std.proofs.Common.{◌≡◌, ℕ, Bool, true, false, cond, List, [], ◌∷◌, ◌++◌, refl, sym, ap, ◌∙◌, append-nil}
use Rattle.std.specs.Prelude.{if◌then◌else◌}
use Rattle.redodb_model.specs.Names.{Text, texts}
use Rattle.redodb_model.specs.State.{State, is_building, target_state}
use Rattle.redodb_model.specs.Command.{Failed, Unlock}
use Rattle.redodb_model.specs.Step.{after}
use Rattle.redodb_model.specs.History.{Line}
use Rattle.redodb_model.specs.Changes.{changes, changing_from}
use Rattle.redodb_model.specs.Support.Ending.{okay_line, closing_lines_of}
use Rattle.redodb_history.specs.Histories.{line_text_of}
use Rattle.redodb_live.specs.Support.Answered.{logged_text}
use Rattle.redodb_live.specs.Lines.{lines_text_of}
use Rattle.redodb_conversation.specs.Logs.{logged_of}

-- what one line logs
pub one_logged : (st : State Text) (line : Line Text)
    → logged_text st line ≡ logged_of st (line ∷ [])
one_logged st line = by (changes st.records line.command line.reply)
  where
    by : (b : Bool) → (if b then line_text_of line else [])
        ≡ lines_text_of (cond b (line ∷ []) [] ++ [])
    by true = sym (append-nil (line_text_of line))
    by false = refl

-- the closing lines of a target
abbrev lets_go : ℕ → Text → Bool → List (Line Text) → List (Line Text)
lets_go s t building more =
    (cond building (okay_line s (Failed t) ∷ []) [] ++ okay_line s (Unlock t) ∷ []) ++ more

changing_with : (s : ℕ) (t : Text) (more : List (Line Text)) (b : Bool) (st : State Text)
    → ((at : State Text) → changing_from texts at more ≡ more)
    → changing_from texts st (lets_go s t b more) ≡ lets_go s t b more
changing_with s t more true st rest =
    let failed = after texts st s (Failed t) in
    ap (λ ls. okay_line s (Failed t) ∷ okay_line s (Unlock t) ∷ ls)
    (rest (after texts failed s (Unlock t)))
changing_with s t more false st rest =
    ap (λ ls. okay_line s (Unlock t) ∷ ls) (rest (after texts st s (Unlock t)))

-- each closing line changes something
pub closing_changes : (s : ℕ) (plan : State Text) (ts : List Text) (st : State Text)
    → changing_from texts st (closing_lines_of s plan ts) ≡ closing_lines_of s plan ts
closing_changes s plan [] st = refl
closing_changes s plan (t ∷ ts) st =
    changing_with s t (closing_lines_of s plan ts) (is_building (target_state plan.records t)) st
    (closing_changes s plan ts)

pub all_change : (st : State Text) (s : ℕ) (ts : List Text) (lines : List (Line Text))
    → lines ≡ closing_lines_of s st ts → changing_from texts st lines ≡ lines
all_change st s ts lines e = ap (changing_from texts st) e ∙ closing_changes s st ts st ∙ sym e
