-- One round more after rounds: what is known then, and what they log.
use Rattle.std.proofs.Common.{◌≡◌, List, [], ◌∷◌, ◌++◌, refl, sym, ap, ◌∙◌, subst, append-nil, append_assoc, inl, inr}
use Rattle.std.specs.List.{flat_map}
use Rattle.std.proofs.lemmas.List.Concat.{flat_map-append}
use Rattle.redodb_model.specs.Names.{Text, texts}
use Rattle.redodb_model.specs.State.{State}
use Rattle.redodb_model.specs.History.{Line, left_by}
use Rattle.redodb_model.specs.Changes.{changing_from}
use Rattle.redodb_model.proofs.OneMore.{left_by-append}
use Rattle.redodb_model.proofs.Unchanging.{changing_from-append}
use Rattle.redodb_history.specs.Histories.{line_text_of}
use Rattle.redodb_live.specs.Lines.{lines_text_of}
use Rattle.redodb_keeping.specs.Rounds.{Round, lines_in}
use Rattle.redodb_conversation.specs.Logs.{logged_of}
use Rattle.redodb_keeping.specs.Support.Steps.{Known, IsStep, AreSteps}

-- one step more
pub steps_more : (old middle new : Known) (rounds : List Round) (round : Round)
    → AreSteps old middle rounds → IsStep middle new round → AreSteps old new (rounds ++ round ∷ [])
steps_more old middle new [] round same step =
    (new, subst (λ k. IsStep k new round) same step, refl)
steps_more old middle new (first ∷ rounds) round (next, one, steps) step =
    (next, one, steps_more next middle new rounds round steps step)

-- the state after a step is that after its lines
step_state : (old new : Known) (round : Round) → IsStep old new round
    → new.state ≡ left_by texts old.state round.lines
step_state old new round (inl step) =
    step.state_is ∙ ap (left_by texts old.state) (sym step.lines_are)
step_state old new round (inr (inl step)) = step.state_is
step_state old new round (inr (inr (inl step))) =
    ap (λ k. k.state) step.same ∙ ap (left_by texts old.state) (sym step.none)
step_state old new round (inr (inr (inr (inl step)))) =
    ap (λ k. k.state) step.same ∙ ap (left_by texts old.state) (sym step.none)
step_state old new round (inr (inr (inr (inr step)))) =
    ap (λ k. k.state) step.same ∙ ap (left_by texts old.state) (sym step.none)

pub steps_state : (old new : Known) (rounds : List Round) → AreSteps old new rounds
    → new.state ≡ left_by texts old.state (lines_in rounds)
steps_state old new [] same = ap (λ k. k.state) same
steps_state old new (round ∷ rounds) (middle, step, steps) =
    steps_state middle new rounds steps
    ∙ ap (λ st. left_by texts st (lines_in rounds)) (step_state old middle round step)
    ∙ sym (left_by-append texts old.state round.lines (lines_in rounds))

pub logged-append : (st : State Text) (lines more : List (Line Text)) → logged_of st (lines ++ more)
    ≡ logged_of st lines ++ logged_of (left_by texts st lines) more
logged-append st lines more =
    ap lines_text_of (changing_from-append texts st lines more)
    ∙ flat_map-append line_text_of (changing_from texts st lines)
    (changing_from texts (left_by texts st lines) more)

-- one round more, of those that wait
pub in_more : {X : Type 0} (f : Round → List X) (sent kept : List Round) (round : Round)
    → flat_map f (sent ++ (kept ++ round ∷ [])) ≡ flat_map f (sent ++ kept) ++ f round
in_more f sent kept round =
    ap (flat_map f) (sym (append_assoc sent kept (round ∷ [])))
    ∙ flat_map-append f (sent ++ kept) (round ∷ [])
    ∙ ap (λ xs. flat_map f (sent ++ kept) ++ xs) (append-nil (f round))
