-- What the core allows is a legal history of the plan, with its places in order.
use Rattle.std.proofs.Common.{◌≡◌, ℕ, ◌+◌, List, [], ◌∷◌, ◌++◌, length, map, Option, Some, None, is_some, refl, sym, ap, ◌∙◌, subst, arith, append_assoc}
use Rattle.std.specs.Prelude.{MatchOption}
use Rattle.std.specs.List.{AllByRecursion}
use Rattle.std.proofs.lemmas.List.{length_push, append-nil}
use mathlib.Core.Logic.{dite}
use native.Mathlib.Decide.{ℕ_discrete}
use Rattle.redodb_model.specs.Command.{Command, Lock, asked_lock}
use Rattle.redodb_model.specs.Reply.{Reply, Okay}
use Rattle.redodb_model.specs.Reply as replies
use Rattle.redodb_model.specs.Step.{Answers, Replies, lock_reply, holds_target}
use Rattle.redodb_model.specs.History.{LegalFrom}
use Rattle.redodb_model.specs.Renaming.{IsLineBelow}
use Rattle.redodb_model.specs.Placed.{line_of, part_of, Fits, Follows, is_row, rows_in, IsPlacedAfter, IsPlaced}
use Rattle.redodb_model.specs.Journals.{IsJournalAfter, next_of, numbered}
use Rattle.redodb_model.specs.Support.Journals.{IsOfPlan}
use Rattle.redodb_history_laws.proofs.Answered.{from_answers}
use Rattle.redodb_history_laws.proofs.Bridge.{tied_after}
use Rattle.redodb_history_laws.proofs.Counts.{one_if, rows_push}
use Rattle.redodb_history_laws.proofs.Own.{part_of-own, part_of-other}
use Rattle.redodb_history_laws.proofs.Tied.{Tied, tied_at_first}
use Rattle.redodb_journal.specs.Plans.{PlanOf, IsPlan, script_of}
use Rattle.redodb_board.specs.Rows.{naming_of}
use Rattle.redodb_board.specs.Core.{Core, start, Way, row, claim, free, rows_then, claim_place, place_at, holds_at, way_at, done, Line, IsNext, IsLegal, after_all, word}
use Rattle.redodb_board.proofs.ClaimWords.{claim_no_row}
use Rattle.redodb_board.proofs.Orders.{by_text_is_naming}
use Rattle.redodb_board.proofs.Ways.{Goes}
use Rattle.redodb_board.proofs.Words.{set-same, set-other}
use Rattle.redodb_board.proofs.Sound.{Sound, start-sound, done-sound, goes-now, command-below}

-- each line has the database's reply at its point
pub legal_from : (p : PlanOf) (c : Core) (log : List Line) → IsLegal p c log
    → LegalFrom (naming_of p) c.state (map line_of log)
legal_from p c [] h = tt
legal_from p c (l ∷ ls) h = (h.0.answer, legal_from p (done p c l) ls h.1)

pub below_told : (p : PlanOf) (c : Core) (log : List Line) → IsPlan p → Sound p c
    → IsLegal p c log → AllByRecursion (IsLineBelow (length p.names)) (map line_of log)
below_told p c [] plan o h = tt
below_told p c (l ∷ ls) plan o h = (
  (command-below p c l plan h.0 o, h.0.below),
  below_told p (done p c l) ls plan (done-sound p c l plan h.0 o) h.1,
)

-- each session's part is its journal
journal_from : (p : PlanOf) (c : Core) (log : List Line) (s : ℕ) → IsLegal p c log
    → IsJournalAfter (naming_of p) s (script_of p s) (c.own s) (part_of s log)
journal_from p c [] s h = tt
journal_from p c (l ∷ ls) s h =
    let rest = journal_from p (done p c l) ls s h.1 in
    dite (ℕ_discrete s l.session)
    (λ e.
    let own : (done p c l).own s ≡ c.own s ++ l ∷ [] =
    set-same c.own l.session (c.own l.session ++ l ∷ []) s e
    ∙ ap (λ u. c.own u ++ l ∷ []) (sym e) in
    subst (IsJournalAfter (naming_of p) s (script_of p s) (c.own s))
    (sym (part_of-own s l ls (sym e))) (
      sym e,
      subst
          (λ u. next_of (naming_of p) (script_of p u) (c.own u) ≡ Some (numbered l))
          (sym e) h.0.next,
      subst (λ before. IsJournalAfter (naming_of p) s (script_of p s) before (part_of s ls))
          own rest,
    ))
    (λ ne. subst (IsJournalAfter (naming_of p) s (script_of p s) (c.own s))
    (sym (part_of-other s l ls (λ q. ne (sym q))))
    (subst (λ before. IsJournalAfter (naming_of p) s (script_of p s) before (part_of s ls))
    (set-other c.own l.session (c.own l.session ++ l ∷ []) s ne) rest))

pub of_plan_told : (p : PlanOf) (log : List Line) → IsPlan p → IsLegal p start log
    → IsOfPlan (naming_of p) (script_of p) log
of_plan_told p log plan h =
    record { journals = λ s. journal_from p start log s h; short = plan.short }

-- the lines before are those of the core
pub record Stood (p : PlanOf) (c : Core) (before : List Line) : Type 0 where
  pub rows : rows_in before ≡ length c.rows
  pub tied : Tied (naming_of p) c.state before

module _ (p : PlanOf) (c : Core) (l : Line) (before : List Line) (so : Stood p c before) where
  abbrev x : Command ℕ
  x = l.command

  abbrev s : ℕ
  s = l.session

  abbrev order : ℕ → ℕ → Rattle.std.specs.declared.cmp.Ordering.Ordering
  order = (naming_of p).order

  -- a lock's place and reply agree
  lock_fits : (t : ℕ) (reply : Reply ℕ) (a : Option ℕ) (g : ℕ) → reply ≡ lock_reply a g
      → Fits (claim_place a g t) (Lock t) reply
  lock_fits t reply None g e = (refl, e)
  lock_fits t reply (Some h) g e = (refl, e)

  answer_of : (reply : Reply ℕ) (y : Command ℕ) → asked_lock y ≡ None
      → Answers (naming_of p) c.state s y reply
      → Replies (naming_of p) c.state.records s (holds_target c.state.locks s y) y reply
  answer_of reply y e a =
      subst
      (λ o. MatchOption o
      (Replies (naming_of p) c.state.records s (holds_target c.state.locks s y) y reply)
      (λ t. reply ≡ lock_reply (c.state.locks.holder t) (c.state.locks.grants t)))
      e a

  fits : (y : Command ℕ) (reply : Reply ℕ) (w : Way) → Goes order c.state s y w
      → Answers (naming_of p) c.state s y reply → Fits (place_at c w) y reply
  fits y reply row g a = g.2 reply (answer_of reply y g.0 a)
  fits y reply (claim t) g a =
      subst (λ z. Fits (claim_place (c.state.locks.holder t) (c.state.locks.grants t) t) z reply)
      (sym g)
      (lock_fits t reply (c.state.locks.holder t) (c.state.locks.grants t)
      (subst (λ z. Answers (naming_of p) c.state s z reply) g a))
  fits y reply (free t) g a = (
    g.0,
    subst (λ v. MatchOption v (reply ≡ Okay) (λ f. reply ≡ replies.Refused f)) g.1
        (subst (λ z. Answers (naming_of p) c.state s z reply) g.0 a),
  )

  follows_lock : (t : ℕ) (a : Option ℕ) → c.state.locks.holder t ≡ a
      → Follows (naming_of p) before (claim_place a (c.state.locks.grants t) t)
  follows_lock t None e = let i = so.tied.grants t in
      let j = so.tied.held t in
      let k = ap (λ (o : Option ℕ). one_if (is_some o)) e in
      (omega arith, omega arith)
  follows_lock t (Some h) e = let i = so.tied.grants t in
      let j = so.tied.held t in
      let k = ap (λ (o : Option ℕ). one_if (is_some o)) e in
      (omega arith, omega arith)

  follows : (y : Command ℕ) (w : Way) → Goes order c.state s y w
      → Follows (naming_of p) before (place_at c w)
  follows y row g = so.rows
  follows y (claim t) g = follows_lock t (c.state.locks.holder t) refl
  follows y (free t) g = let i = so.tied.grants t in
      let j = so.tied.held t in
      let k = ap (λ (o : Option ℕ). one_if (is_some o)) g.2 in
      (omega arith, omega arith)

  -- how many rows there are after a step
  rows_more : (w : Way) (n : ℕ)
      → length c.rows + one_if (is_row (place_at c w)) ≡ length (rows_then w c.rows n)
  rows_more row n = let a = length_push c.rows n in omega arith
  rows_more (claim t) n =
      let a = ap one_if (claim_no_row t (c.state.locks.grants t) (c.state.locks.holder t)) in
      omega arith
  rows_more (free t) n = omega arith

  -- the line's place fits it and comes next, and the counts go on over it
  pub line_stood : IsPlan p → Sound p c → IsNext p c l
      → Fits l.place x l.reply × Follows (naming_of p) before l.place
      × Stood p (done p c l) (before ++ l ∷ [])
  line_stood plan o is =
      let w = way_at c s x in
      let g = goes-now p c l plan is o in
      let fit : Fits l.place x l.reply =
      subst (λ q. Fits q x l.reply) (sym is.place) (fits x l.reply w g is.answer) in
      let next : Follows (naming_of p) before l.place =
      subst (Follows (naming_of p) before) (sym is.place) (follows x w g) in
      let stands =
      from_answers (naming_of p) c.state before s x l.reply l.place so.tied fit is.answer in (
        fit,
        next,
        record {
          rows =
              rows_push (naming_of p) before l
              ∙ (λ i. so.rows i + one_if (is_row (is.place i)))
              ∙ rows_more w (word p s l.number x (holds_at c s x));
          tied =
              tied_after (by_text_is_naming p.names) c.state before l so.tied next stands.0
              stands.1;
        },
      )

placed_from : (p : PlanOf) (c : Core) (before : List Line) (log : List Line) → IsPlan p
    → Sound p c → Stood p c before → IsLegal p c log → IsPlacedAfter (naming_of p) before log
placed_from p c before [] plan o so h = tt
placed_from p c before (l ∷ ls) plan o so h =
    let a = line_stood p c l before so plan o h.0 in (
      a.0,
      a.1,
      placed_from p (done p c l) (before ++ l ∷ []) ls plan (done-sound p c l plan h.0 o) a.2 h.1,
    )

stood_from : (p : PlanOf) (c : Core) (before : List Line) (log : List Line) → IsPlan p
    → Sound p c → Stood p c before → IsLegal p c log → Stood p (after_all p c log) (before ++ log)
stood_from p c before [] plan o so h = subst (Stood p c) (sym (append-nil before)) so
stood_from p c before (l ∷ ls) plan o so h =
    subst (Stood p (after_all p (done p c l) ls)) (append_assoc before (l ∷ []) ls)
    (stood_from p (done p c l) (before ++ l ∷ []) ls plan (done-sound p c l plan h.0 o)
    (line_stood p c l before so plan o h.0).2 h.1)

pub start-stood : (p : PlanOf) → Stood p start []
start-stood p = record { rows = refl; tied = tied_at_first (naming_of p) }

-- the history's lines give the locks of the core
pub stood_told : (p : PlanOf) (log : List Line) → IsPlan p → IsLegal p start log
    → Stood p (after_all p start log) log
stood_told p log plan h = stood_from p start [] log plan (start-sound p) (start-stood p) h

-- places fit and come in order
pub placed_told : (p : PlanOf) (log : List Line) → IsPlan p → IsLegal p start log
    → IsPlaced (naming_of p) log
placed_told p log plan h = placed_from p start [] log plan (start-sound p) (start-stood p) h
