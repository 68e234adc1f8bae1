-- What a session does next is over the plan's names.
use Rattle.std.proofs.Common.{◌≡◌, ℕ, List, [], ◌∷◌, ◌++◌, length, map, Some, inl, inr, subst}
use Rattle.std.specs.List.{AllByRecursion}
use Rattle.redodb_model.specs.Renaming.{IsBelow}
use Rattle.redodb_model.specs.Placed.{line_of}
use Rattle.redodb_model.specs.Journals.{Numbered, next_of}
use Rattle.redodb_model.proofs.ClosingBelow.{AllAskBelow, closing_below}
use Rattle.redodb_model.proofs.Nexts.{next_cases, next_line_from}
use Rattle.redodb_journal.specs.Plans.{PlanOf, IsPlan, script_of}
use Rattle.redodb_board.specs.Rows.{naming_of}
use Rattle.redodb_board.specs.Core.{Line}
use Rattle.redodb_board.proofs.Scripts.{command_below}

-- the commands of these lines are over fewer than n names
abbrev pub AskBelow : ℕ → List Line → Type 0
AskBelow n lines = AllByRecursion (λ line. IsBelow n line.command) lines

pub ask-push : (n : ℕ) (lines : List Line) (line : Line) → AskBelow n lines
    → IsBelow n line.command → AskBelow n (lines ++ line ∷ [])
ask-push n [] line all here = (here, tt)
ask-push n (first ∷ lines) line all here = (all.0, ask-push n lines line all.1 here)

ask-lines : (n : ℕ) (lines : List Line) → AskBelow n lines → AllAskBelow n (map line_of lines)
ask-lines n [] all = tt
ask-lines n (line ∷ lines) all = (all.0, ask-lines n lines all.1)

pub next-below : (p : PlanOf) (s : ℕ) (own : List Line) (next : Numbered ℕ) → IsPlan p
    → AskBelow (length p.names) own
    → next_of (naming_of p) (script_of p s) own ≡ Some next
    → IsBelow (length p.names) next.command
next-below p s own next plan below e =
    elim (next_cases (naming_of p) (script_of p s) own next e) [
      | inl is ↦ subst (IsBelow (length p.names))
          (next_line_from (script_of p s) own next is).command
          (command_below p s next.number plan)
      | inr closing ↦ closing_below (length p.names) (naming_of p) (map line_of own) next.command
          (ask-lines (length p.names) own below) closing.closes
    ]
