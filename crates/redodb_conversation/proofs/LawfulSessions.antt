-- The lines of a session are those of its rounds.
use Rattle.std.proofs.Common.{◌≡◌, ◌≢◌, ℕ, ◌+◌, ◌<◌, Bool, true, false, cond, List, [], ◌∷◌, ◌++◌, length, refl, sym, ap, ◌∙◌, subst, inl, inr, eqb}
use Rattle.std.specs.Prelude.{codes, decimal, drop, nat_eq}
use Rattle.std.specs.List.{AllByRecursion, starts_with}
use Rattle.std.proofs.lemmas.Bool.{false_from_ne_true, eq-eqb, ne_eqb}
use Rattle.std.proofs.lemmas.Bool.Decides.{Decides-eqb, eqb_tells}
use Rattle.std.proofs.lemmas.List.Elements.{filter-append}
use Rattle.std.proofs.lemmas.Slice.Eq.{starts_is}
use Rattle.redodb_model.specs.Names.{Text}
use Rattle.redodb_model.specs.Reply.{Okay}
use Rattle.redodb_model.specs.History.{Line, part_of}
use Rattle.redodb_keeping.specs.Rounds.{Round, Asks, IsRound, AreRounds, lines_in}
use Rattle.redodb_conversation.specs.Support.Laws.{rounds_of}
use Rattle.redodb_conversation.proofs.LawfulTexts.{asks_one}

abbrev AreOf : ℕ → List (Line Text) → Type 0
AreOf s lines = AllByRecursion (λ line. line.session ≡ s) lines

part_all : (s : ℕ) (lines : List (Line Text)) → AreOf s lines → part_of s lines ≡ lines
part_all s [] of = refl
part_all s (line ∷ lines) of =
    ap (λ b. cond b (line ∷ part_of s lines) (part_of s lines)) (eq-eqb line.session s of.0)
    ∙ ap (λ ls. line ∷ ls) (part_all s lines of.1)

part_none : (s t : ℕ) (lines : List (Line Text)) → t ≢ s → AreOf t lines → part_of s lines ≡ []
part_none s t [] other of = refl
part_none s t (line ∷ lines) other of =
    ap (λ b. cond b (line ∷ part_of s lines) (part_of s lines))
    (ne_eqb line.session s (λ e. other (sym of.0 ∙ e)))
    ∙ part_none s t lines other of.1

abbrev number_of : ℕ → Text
number_of s = decimal (s + 1) ++ codes " "

abbrev names_it : ℕ → Text → Bool
names_it s received = starts_with nat_eq received (number_of s)

module _ (s : ℕ) (few : s < 65535) where
  by_session : (received : Text) (lines : List (Line Text)) (t : ℕ) (text : Text)
      → Asks received t text → AreOf t lines → part_of s lines ≡ cond (names_it s received) lines []
  by_session received lines t text asks of =
      let starts = starts_is Decides-eqb received (number_of s) (names_it s received) refl in
      elim (eqb_tells t s) [
        | inl (equal, same) ↦
            let is : names_it s received ≡ true =
            starts.1 text (asks.1 ∙ ap (λ n. number_of n ++ text) same) in
            part_all s lines (subst (λ n. AreOf n lines) same of)
            ∙ ap (λ b. cond b lines []) (sym is)
        | inr (unequal, other) ↦
            let is : names_it s received ≡ false =
            false_from_ne_true (names_it s received) (λ named.
            other (asks_one received t s text (drop (length (number_of s)) received) asks
            (few, starts.0 named)).0) in
            part_none s t lines other of ∙ ap (λ b. cond b lines []) (sym is)
      ]

  no_lines : (received : Text) (lines : List (Line Text)) → lines ≡ []
      → part_of s lines ≡ cond (names_it s received) lines []
  no_lines received lines none =
      ap (part_of s) none ∙ sym none ∙ either (names_it s received)
    where
      either : (b : Bool) → lines ≡ cond b lines []
      either true = refl
      either false = none

  of_session : (t : ℕ) (lines : List (Line Text))
      → AllByRecursion (λ line. (line.session ≡ t) × (line.reply ≡ Okay)) lines → AreOf t lines
  of_session t [] accepted = tt
  of_session t (line ∷ lines) accepted = (accepted.0.0, of_session t lines accepted.1)

  own_round : (before : List (Line Text)) (round : Round) → IsRound before round
      → part_of s round.lines ≡ cond (names_it s round.received) round.lines []
  own_round before round (inl is) =
      by_session round.received round.lines is.line.session is.text is.asks
      (subst (AreOf is.line.session) (sym is.lines_are) (refl, tt))
  own_round before round (inr (inl is)) =
      by_session round.received round.lines is.session _ is.asks
      (of_session is.session round.lines is.accepted)
  own_round before round (inr (inr (inl is))) = no_lines round.received round.lines is.none
  own_round before round (inr (inr (inr (inl is)))) = no_lines round.received round.lines is.none
  own_round before round (inr (inr (inr (inr is)))) = no_lines round.received round.lines is.none

  with_round : (b : Bool) (round : Round) (rounds : List Round)
      → cond b round.lines [] ++ lines_in rounds ≡ lines_in (cond b (round ∷ rounds) rounds)
  with_round true round rounds = refl
  with_round false round rounds = refl

  -- the session's lines are those of its rounds
  pub own_lines : (before : List (Line Text)) (rounds : List Round) → AreRounds before rounds
      → part_of s (lines_in rounds) ≡ lines_in (rounds_of s rounds)
  own_lines before [] are = refl
  own_lines before (round ∷ rounds) are =
      let first = own_round before round are.0 in
      let others = own_lines (before ++ round.lines) rounds are.1 in
      filter-append (λ (line : Line Text). eqb line.session s) round.lines (lines_in rounds)
      ∙ (λ i. first i ++ others i)
      ∙ with_round (names_it s round.received) round (rounds_of s rounds)
