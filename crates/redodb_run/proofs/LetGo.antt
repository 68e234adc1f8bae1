-- After a run no target is held, and none is building.
use Rattle.std.proofs.Common.{◌≡◌, ℕ, ◌<◌, ◌≤◌, cond, List, [], ◌∷◌, ◌++◌, None, length, ap, sym, ◌∙◌, refl, arith, append_assoc, append-nil}
use Rattle.std.specs.List.{AllByRecursion}
use Rattle.std.proofs.lemmas.Bool.{ne_eqb}
use mathlib.Core.Logic.{dite}
use native.Mathlib.Decide.{dec_lt}
use Rattle.redodb_model.specs.Names.{Naming, Text, texts}
use Rattle.redodb_model.specs.Command.{Item}
use Rattle.redodb_model.specs.Closing.{closing_of, ClosesAfter}
use Rattle.redodb_model.specs.History.{Line, part_of}
use Rattle.redodb_model.specs.Scripts.{Does}
use Rattle.redodb_model.proofs.Letting.{nothing_held}
use Rattle.redodb_model.proofs.Texts.{texts_are_names}
use Rattle.redodb_run.specs.Runs.{IsRun, LeavesNothingHeld}

-- a session that isn't in the plan has no lines
no_part : {N : Type 0} (n s : ℕ) (lines : List (Line N)) → n ≤ s
    → AllByRecursion (λ line. line.session < n) lines → part_of s lines ≡ []
no_part n s [] past below = refl
no_part n s (line ∷ lines) past below =
    ap (λ b. cond b (line ∷ part_of s lines) (part_of s lines))
    (ne_eqb line.session s (λ same. let less = below.0 in omega arith))
    ∙ no_part n s lines past below.1

module _ {N : Type 0} (naming : Naming N) where
  -- no closing command comes after the closing ones
  closed : (own closing : List (Line N)) → ClosesAfter naming own closing
      → closing_of naming (own ++ closing) ≡ None
  closed own [] closes = ap (closing_of naming) (append-nil own) ∙ closes
  closed own (line ∷ closing) closes =
      ap (closing_of naming) (sym (append_assoc own (line ∷ []) closing))
      ∙ closed (own ++ line ∷ []) closing closes.1

  -- nor after all that a session does
  all_closed : (script : List (Item N)) (lines : List (Line N)) → Does naming script lines
      → closing_of naming lines ≡ None
  all_closed script lines does =
      ap (closing_of naming) does.both ∙ closed does.own does.closing does.closes

pub run_lets_go : (scripts : List (List (Item Text))) (lines : List (Line Text))
    → IsRun scripts lines → LeavesNothingHeld lines
run_lets_go scripts lines run =
    nothing_held texts_are_names lines run.legal (λ s. dite (dec_lt s (length scripts))
    (λ less. all_closed texts _ (part_of s lines) (run.parts s less))
    (λ past. ap (closing_of texts) (no_part (length scripts) s lines (omega arith) run.sessions)))
