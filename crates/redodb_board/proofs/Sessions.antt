-- In a plan of two, two sessions that were joined are all sessions.
use Rattle.std.proofs.Common.{◌≡◌, ℕ, List, [], ◌∷◌, ◌++◌, length, inl, inr, ⊎_elim, sym, ap, subst, arith}
use mathlib.Core.Logic.{dite}
use native.Mathlib.Decide.{ℕ_discrete}
use Rattle.redodb_journal.specs.Plans.{PlanOf}
use Rattle.redodb_board.specs.Core.{Line}
use Rattle.redodb_board.specs.Views.{Part}
use Rattle.redodb_board.specs.Rule.{HasPart}
use Rattle.redodb_board.specs.Shown.{parts_of, HasSession, IsForAll}
use Rattle.redodb_board.specs.declared.seat.Seat.{Seat}

has_left : (xs ys : List Part) (s : ℕ) (own : List Line) → HasPart xs s own
    → HasPart (xs ++ ys) s own
has_left [] ys s own h = absurd h
has_left (x ∷ xs) ys s own h = ⊎_elim (λ e. inl e) (λ k. inr (has_left xs ys s own k)) h

has_right : (xs ys : List Part) (s : ℕ) (own : List Line) → HasPart ys s own
    → HasPart (xs ++ ys) s own
has_right [] ys s own h = h
has_right (x ∷ xs) ys s own h = inr (has_right xs ys s own h)

pub for_all : (p q : PlanOf) (one two all : Seat) → q ≡ p → length p.scripts ≡ 2
    → parts_of all ≡ parts_of one ++ parts_of two → HasSession 0 one → HasSession 1 two
    → IsForAll q all
for_all p q one two all key both parts a b s less = dite (ℕ_discrete s 0)
    (λ e. (
      a.0,
      subst (λ (x : List Part × ℕ). HasPart x.0 x.1 a.0) (λ i. (sym parts i, sym e i))
          (has_left (parts_of one) (parts_of two) 0 a.0 a.1),
    ))
    (λ ne. let n = ap (λ (x : PlanOf). length x.scripts) key in let e : 1 ≡ s = omega arith in (
      b.0,
      subst (λ (x : List Part × ℕ). HasPart x.0 x.1 b.0) (λ i. (sym parts i, e i))
          (has_right (parts_of one) (parts_of two) 1 b.0 b.1),
    ))
