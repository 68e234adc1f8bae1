-- Row words, and functions that change at one place.
use Rattle.std.proofs.Common.{◌≡◌, ◌≢◌, ℕ, List, [], ◌∷◌, ◌++◌, refl}
use Rattle.redodb_model.specs.State.{Records}
use Rattle.redodb_history_laws.specs.RowWord.{decoded, after_row}
use Rattle.redodb_history_laws.specs.Replayed.{replayed}
use Rattle.redodb_history_laws.proofs.Exchange.{cond_same, cond_other}
use Rattle.redodb_journal.specs.Plans.{PlanOf, script_of}
use Rattle.redodb_board.specs.Rows.{naming_of}
use Rattle.redodb_board.specs.Core.{replay, set_at}

replayed-push : (p : PlanOf) (r : Records ℕ) (ws : List ℕ) (w : ℕ)
    → replayed (naming_of p) (script_of p) r (ws ++ w ∷ [])
    ≡ after_row (naming_of p) (script_of p) (replayed (naming_of p) (script_of p) r ws) (decoded w)
replayed-push p r [] w = refl
replayed-push p r (x ∷ ws) w =
    replayed-push p (after_row (naming_of p) (script_of p) r (decoded x)) ws w

-- one word more
pub replay-push : (p : PlanOf) (ws : List ℕ) (w : ℕ)
    → replay p (ws ++ w ∷ [])
    ≡ after_row (naming_of p) (script_of p) (replay p ws) (decoded w)
replay-push p ws w = replayed-push p _ ws w

pub set-same : {A : Type 0} (f : ℕ → A) (s : ℕ) (x : A) (t : ℕ) → t ≡ s → set_at f s x t ≡ x
set-same f s x t e = cond_same t s x (f t) e

pub set-other : {A : Type 0} (f : ℕ → A) (s : ℕ) (x : A) (t : ℕ) → t ≢ s → set_at f s x t ≡ f t
set-other f s x t ne = cond_other t s x (f t) ne
