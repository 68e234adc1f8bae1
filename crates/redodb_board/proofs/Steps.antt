-- What a worker knows after a step.
use Rattle.std.proofs.Common.{◌≡◌, ℕ, ◌+◌, ◌%◌, ◌^◌, ◌<◌, eqb, List, [], ◌∷◌, ◌++◌, length, Some, sym, ap, ◌∙◌, subst}
use Rattle.std.specs.Int.Bits.{bit_or}
use mathlib.Core.Option.{none}
use prog.Atomic.{either}
use Rattle.atomic_table.specs.Table.{step, Allows}
use Rattle.redodb_model.specs.Reply.{Reply}
use Rattle.redodb_model.specs.Journals.{Numbered}
use Rattle.redodb_journal.specs.Plans.{PlanOf}
use Rattle.redodb_board.specs.Rows.{rows_of}
use Rattle.redodb_board.specs.Core.{Line, word, row, claim, free}
use Rattle.redodb_board.specs.Views.{ViewOf, view}
use Rattle.redodb_board.specs.Rule.{Orderly, Told}
use Rattle.redodb_board.specs.Plays.{own, own_way, next}
use Rattle.redodb_board.specs.Support.Plays.{SaysRow, row_line, Goes, Lone, Lost, Peeked, Won, tried, peeked, lost, claimed, freed}
use Rattle.redodb_board.proofs.Rows.{loses, peeks, tries}
use Rattle.redodb_board.proofs.Claims.{locks, frees}

-- the view of a worker of the session t, whose lines are j
abbrev pub IsWorker : PlanOf → ℕ → List Line → ViewOf → Type 0
IsWorker p t j m = m ≡ view p ((t, j) ∷ []) m.seen m.also

abbrev Slots : Type 0
Slots = List (ℕ × Unit {0})

pub lone : (p : PlanOf) (t : ℕ) (j : List Line) (m : ViewOf) → IsWorker p t j m → Lone m t j
lone p t j m is = ap (λ (v : ViewOf). v.parts) is

module _ (p q : PlanOf) (slots id t : ℕ) (j : List Line) (m : ViewOf) (c : Slots) (key : q ≡ p)
    (is : IsWorker p t j m) (is-session : t < length p.scripts) (n : Numbered ℕ)
    (is-next : next p t j ≡ Some n) where
  pub tries_as : (r w : ℕ) → w ≡ word p t n.number n.command (own j n.command)
      → r ≡ length m.seen
      → r < rows_of p → own_way j n.command ≡ row → (reply : Reply ℕ)
      → SaysRow (view p ((t, j) ∷ []) m.seen m.also) t j n.command reply
      → Allows (Orderly q) slots id (m, c) (r + 1) (λ n. either (eqb n 0) w n)
      (tried (step slots (r + 1) 0 w none) (m, c))
  tries_as r w word-is at near in-row reply says =
      let F : PlanOf × (ViewOf × ℕ)
      → Type 0 = λ x.
      Allows (Orderly x.0) slots id (x.1.0, c) (r + 1) (λ n. either (eqb n 0) x.1.1 n)
      (tried (step slots (r + 1) 0 x.1.1 none) (x.1.0, c)) in
      subst F (λ i. (sym key i, (sym is i, sym word-is i)))
      (tries p slots id t r j m.seen m.also c n is-session is-next at near in-row reply says)

  pub peeks_as : (r : ℕ) → r ≡ length m.seen → r < rows_of p
      → Allows (Orderly q) slots id (m, c) (r + 1) (λ n. n)
      (peeked (step slots (r + 1) 0 0 none) (m, c))
  peeks_as r at near =
      let F : PlanOf × ViewOf
      → Type 0 = λ x.
      Allows (Orderly x.0) slots id (x.1, c) (r + 1) (λ n. n)
      (peeked (step slots (r + 1) 0 0 none) (x.1, c)) in
      subst F (λ i. (sym key i, sym is i)) (peeks p slots id t r j m.seen m.also c at near)

  -- after a load that found the row filled
  pub loses_as : (r w : ℕ) → r ≡ length m.seen → r < rows_of p → length m.seen < length m.also
      → Allows (Orderly q) slots id (m, c) (r + 1) (λ n. either (eqb n 0) w n)
      (lost (step slots (r + 1) 0 w none) (m, c))
  loses_as r w at near shown =
      let F : PlanOf × ViewOf
      → Type 0 = λ x.
      Allows (Orderly x.0) slots id (x.1, c) (r + 1) (λ n. either (eqb n 0) w n)
      (lost (step slots (r + 1) 0 w none) (x.1, c)) in
      subst F (λ i. (sym key i, sym is i))
      (loses p slots id t r w j m.seen m.also c at near shown)

  pub locks_as : (i u : ℕ) → i ≡ rows_of p + 1 + u → u < length p.names
      → own_way j n.command ≡ claim u
      → Allows (Orderly q) slots id (m, c) i (λ n. bit_or n 1)
      (claimed (step slots i 1 0 none) (m, c))
  locks_as i u at low to-lock =
      let F : PlanOf × (ViewOf × ℕ)
      → Type 0 = λ x.
      Allows (Orderly x.0) slots id (x.1.0, c) x.1.1 (λ n. bit_or n 1)
      (claimed (step slots x.1.1 1 0 none) (x.1.0, c)) in
      subst F (λ k. (sym key k, (sym is k, sym at k)))
      (locks p slots id t u j m.seen m.also c n is-session is-next low to-lock)

  pub frees_as : (i u : ℕ) → i ≡ rows_of p + 1 + u → u < length p.names
      → own_way j n.command ≡ free u
      → Allows (Orderly q) slots id (m, c) i (λ n. (n + 1) % 2 ^ 64)
      (freed (step slots i 1 0 none) (m, c))
  frees_as i u at low to-free =
      let F : PlanOf × (ViewOf × ℕ)
      → Type 0 = λ x.
      Allows (Orderly x.0) slots id (x.1.0, c) x.1.1 (λ n. (n + 1) % 2 ^ 64)
      (freed (step slots x.1.1 1 0 none) (x.1.0, c)) in
      subst F (λ k. (sym key k, (sym is k, sym at k)))
      (frees p slots id t u j m.seen m.also c n is-session is-next low to-free)

-- the invariant of a worker's view: its lines, and that a legal history fits it
pub record Keeps (p : PlanOf) (t : ℕ) (j : List Line) (seen : List ℕ) (w : ViewOf) : Type 0 where
  pub is : IsWorker p t j w
  pub saw : w.seen ≡ seen
  pub told : Told w

-- after a line
pub goes_keeps : (p : PlanOf) (t : ℕ) (j j' : List Line) (l : Line) (seen : List ℕ) (m w : ViewOf)
    → IsWorker p t j m → Goes m t j l seen w → j' ≡ j ++ l ∷ [] → Keeps p t j' seen w
goes_keeps p t j j' l seen m w is g j-is =
    let at : w.seen ≡ seen = ap (λ (v : ViewOf). v.seen) g.now in
    record {
      is =
          g.now
          ∙
          (λ i. view (is i).plan ((t, sym j-is i) ∷ []) (sym at i)
          (ap (λ (v : ViewOf). v.also) (sym g.now) i));
      saw = at;
      told =
          record {
            log = g.ends.before ++ l ∷ [];
            plan = g.ends.plan;
            legal = g.ends.legal;
            fits = g.ends.fits;
          };
    }

-- after a row was lost
pub lost_keeps : (p : PlanOf) (t n : ℕ) (j : List Line) (m w : ViewOf) → IsWorker p t j m
    → Lost m n w → Keeps p t j (m.seen ++ n ∷ []) w
lost_keeps p t n j m w is after =
    let seen : w.seen ≡ m.seen ++ n ∷ [] = ap (λ (v : ViewOf). v.seen) after.now in
    record {
      is = after.now ∙ (λ i. view (is i).plan (is i).parts (sym seen i) w.also);
      saw = seen;
      told = after.told;
    }

-- after a load that found a row filled
pub peeked_keeps : (p : PlanOf) (t n : ℕ) (j : List Line) (m w : ViewOf) → IsWorker p t j m
    → Peeked m n w → Keeps p t j m.seen w
peeked_keeps p t n j m w is after =
    let seen : w.seen ≡ m.seen = ap (λ (v : ViewOf). v.seen) after.now in
    let also : w.also ≡ m.seen ++ n ∷ [] = ap (λ (v : ViewOf). v.also) after.now in
    record {
      is = after.now ∙ (λ i. view (is i).plan (is i).parts (sym seen i) (sym also i));
      saw = seen;
      told = after.told;
    }

-- a row that is lost after the load is lost
pub lost_after : (m u w : ViewOf) (n found : ℕ) → Peeked m n u → Lost u found w → Lost m found w
lost_after m u w n found peek after = record {
  now =
      after.now
      ∙
      (λ i. view (peek.now i).plan (peek.now i).parts ((peek.now i).seen ++ found ∷ []) w.also);
  told = after.told;
}

-- the row's play, over the worker's own session
pub won_goes : (p : PlanOf) (t : ℕ) (j : List Line) (m w : ViewOf) (n : Numbered ℕ)
    (reply : Reply ℕ)
    → IsWorker p t j m → Won m w → next p t j ≡ Some n
    → SaysRow (view p ((t, j) ∷ []) m.seen m.also) t j n.command reply
    → Goes m t j (row_line m t n reply)
    (m.seen ++ word p t n.number n.command (own j n.command) ∷ []) w
won_goes p t j m w n reply is won is-next says =
    subst
    (λ (v : ViewOf). Goes m t j (row_line m t n reply)
    (m.seen ++ word v.plan t n.number n.command (own j n.command) ∷ []) w) is
    (won t j n reply (lone p t j m is) (ap (λ (v : ViewOf). next v.plan t j) is ∙ is-next)
    (subst (λ (v : ViewOf). SaysRow v t j n.command reply) (sym is) says))
