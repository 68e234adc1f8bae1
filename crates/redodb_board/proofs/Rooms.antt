-- What a session does next: the journal has a place for it, and its row word says what it is.
use Rattle.std.proofs.Common.{◌≡◌, ℕ, ◌<◌, List, [], ◌∷◌, ◌++◌, length, Bool, Some, ◌∙◌, subst, arith, inl, inr}
use Rattle.std.proofs.lemmas.Bool.{false≢true}
use Rattle.std.proofs.lemmas.List.{length_push}
use Rattle.redodb_model.specs.Reply.{Okay}
use Rattle.redodb_model.specs.Renaming.{IsBelow}
use Rattle.redodb_model.specs.Step.{records_after}
use Rattle.redodb_model.specs.Placed.{Place, Row, Granted}
use Rattle.redodb_model.specs.Journals.{Numbered}
use Rattle.redodb_model.specs.Support.Room.{room_of}
use Rattle.redodb_model.proofs.Nexts.{next_cases, next_line_from}
use Rattle.redodb_journal.specs.Plans.{PlanOf, IsPlan, script_of}
use Rattle.redodb_board.specs.Rows.{naming_of}
use Rattle.redodb_board.specs.Core.{Line, word, replay, row}
use Rattle.redodb_board.specs.Plays.{next, own_way}
use Rattle.redodb_board.specs.Support.Plays.{made}
use Rattle.redodb_board.proofs.Below.{AskBelow, next-below}
use Rattle.redodb_board.proofs.OwnLines.{IsOwn, own_entries, own_next, closing_fails}
use Rattle.redodb_board.proofs.Words.{replay-push}
use Rattle.redodb_history_laws.proofs.Closed.{RowTells}
use Rattle.redodb_history_laws.proofs.Decoding.{row_says}

-- the journal has a place for it
pub next_room : (p : PlanOf) (s : ℕ) (j : List Line) (n : Numbered ℕ) → IsOwn p s j
    → next p s j ≡ Some n → length j < room_of (script_of p s)
next_room p s j n is is-next =
    let place : Place ℕ = Granted 0 0 in
    let room =
    own_entries p s (j ++ made s n Okay place ∷ [])
    (own_next p s j n place is is-next (λ r. absurd (false≢true r))) in
    let long = length_push j (made s n Okay place) in
    omega arith

-- its row word says what it is
pub next_word : (p : PlanOf) (s : ℕ) (j : List Line) (n : Numbered ℕ) (h : Bool) (ws : List ℕ)
    → IsPlan p → s < length p.scripts → AskBelow (length p.names) j → next p s j ≡ Some n
    → own_way j n.command ≡ row
    → replay p (ws ++ word p s n.number n.command h ∷ [])
    ≡ records_after (naming_of p) (replay p ws) s h n.command
next_word p s j n h ws plan here below is-next in-row =
    let few = plan.few in
    let names = plan.few_names in
    let line = made s n Okay (Row 0) in
    let tells : RowTells (script_of p) line =
    elim (next_cases (naming_of p) (script_of p s) j n is-next) [
      | inl is ↦
          let found = next_line_from (script_of p s) j n is in
          inl (record { within = found.within; command = found.command })
      | inr closing ↦
          let (t, fails) = closing_fails p s j n.command closing.closes in-row in
          let low : t < length p.names =
          (subst (IsBelow (length p.names)) fails (next-below p s j n plan below is-next)).0 in
          inr (record { past = closing.past; target = t; command = fails; below = omega arith })
    ] in
    replay-push p ws (word p s n.number n.command h)
    ∙ row_says (script_of p) line h (naming_of p) (replay p ws) (omega arith) (plan.short s) tells
