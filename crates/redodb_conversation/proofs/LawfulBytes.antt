-- The bytes that were read are those of one list of lines, and of one rest.
use Rattle.std.proofs.Common.{◌≡◌, List, [], ◌∷◌, ◌++◌, map, refl, sym, ◌∙◌, subst, append_assoc}
use Rattle.std.specs.List.{Contains}
use Rattle.redodb_model.specs.Names.{Text}
use Rattle.redodb_history.specs.Histories.{ended}
use Rattle.redodb_history.proofs.TextCuts.{one_cut, has_lf}
use Rattle.redodb_conversation.specs.Logs.{HasNoEnd}
use Rattle.redodb_keeping.specs.Rounds.{Round, received_in}
use Rattle.redodb_conversation.specs.Talks.{AreLines}

-- a line at the beginning
line_first : (round : Round) (rounds : List Round) (rest : Text)
    → received_in (round ∷ rounds) ++ rest ≡ round.received ++ 10 ∷ (received_in rounds ++ rest)
line_first round rounds rest =
    append_assoc (ended round.received) (received_in rounds) rest
    ∙ append_assoc round.received (10 ∷ []) (received_in rounds ++ rest)

-- a rest without LF has no line
no_line : (round : Round) (rounds : List Round) (rest more : Text) → HasNoEnd rest
    → rest ≡ received_in (round ∷ rounds) ++ more → ⊥
no_line round rounds rest more free e =
    free (subst (λ (t : Text). Contains t 10) (sym (e ∙ line_first round rounds more))
    (has_lf round.received (received_in rounds ++ more) 10))

pub received_once : (a b : List Round) (rest last : Text) → AreLines a → AreLines b → HasNoEnd rest
    → HasNoEnd last → received_in a ++ rest ≡ received_in b ++ last
    → map (λ round. round.received) a ≡ map (λ round. round.received) b
received_once [] [] rest last p q free other e = refl
received_once [] (round ∷ b) rest last p q free other e = absurd (no_line round b rest last free e)
received_once (round ∷ a) [] rest last p q free other e =
    absurd (no_line round a last rest other (sym e))
received_once (round ∷ a) (next ∷ b) rest last p q free other e =
    let cut = one_cut round.received next.received (received_in a ++ rest) (received_in b ++ last)
    10 p.0 q.0 (sym (line_first round a rest) ∙ e ∙ line_first next b last) in
    let others = received_once a b rest last p.1 q.1 free other cut.1 in
    (λ i. cut.0 i ∷ others i)
