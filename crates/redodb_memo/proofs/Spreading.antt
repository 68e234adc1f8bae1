-- Marks that spread from names to the targets that depend on them, and the region that this finds.
use Rattle.std.proofs.Common.{◌≡◌, ◌⊎◌, ◌∙◌, ℕ, ◌<◌, ◌+◌, List, [], ◌∷◌, length, get_or, take, refl, sym, ap, subst, inl, inr, arith}
use Rattle.std.proofs.lemmas.List.{get_or_default, take-append-le}
use Rattle.std.specs.List.{Contains}
use Rattle.redodb_model.specs.State.{Records}
use Rattle.redodb_model.specs.OutOfDate.{IsTarget, HasRow, Chain, Depends, OutOfDate}
use Rattle.redodb_model.specs.Support.OutOfDate.{TouchesSeed, InRegion}
use Rattle.redodb_model.proofs.Region.{out_of_date_by_step}
use Rattle.redodb_memo.specs.NameSet.{Marked, IsMarked, IsQueued, Enters}
use Rattle.redodb_memo.specs.Support.NameSet.{MarksOnly}
use Rattle.redodb_memo.specs.Support.Regions.{Reaches, Spreads}
use Rattle.redodb_memo.proofs.Marking.{grows_then, prefix_of, enters_then}
use Rattle.redodb_model.proofs.Listing.{one_more}

module _ (r : Records ℕ) where
  reaches_weaker : {P Q : ℕ → Type 0} → ((t : ℕ) → P t → Q t) → (ns : List ℕ) (t : ℕ)
      → Chain (Depends r) P t ns → Chain (Depends r) Q t ns
  reaches_weaker weaker [] t p = weaker t p
  reaches_weaker weaker (n ∷ ns) t chain = (chain.0, reaches_weaker weaker ns n chain.1)

  -- what reaches a name that is out of date is out of date
  pub reaches_out_of_date : (ns : List ℕ) (t : ℕ) → Chain (Depends r) (OutOfDate r) t ns
      → OutOfDate r t
  reaches_out_of_date [] t is = is
  reaches_out_of_date (n ∷ ns) t chain =
      out_of_date_by_step r t n chain.0 (reaches_out_of_date ns n chain.1)

  pub reaches_queued : {P : ℕ → Type 0} (old : Marked) → ((t : ℕ) → IsQueued old t → P t)
      → (t : ℕ) → Reaches r (IsQueued old) t → Reaches r P t
  reaches_queued old weaker t reach = (reach.0, reaches_weaker weaker reach.0 t reach.1)

  -- names that were queued since reach names that were queued before
  queued_reaches : {done : List ℕ} {old new : Marked} → Spreads r done old new
      → (t : ℕ) → IsQueued new t → Reaches r (IsQueued old) t
  queued_reaches s t q = elim ((s.grown.queued t).0 q) [
    | inl before ↦ ([], before)
    | inr w ↦ elim (s.reaches t w.0) [ inl on ↦ absurd (w.1 on) | inr reach ↦ reach ]
  ]

  -- the targets that depend on the queue's next name enter
  pub spreads_more : (k n : ℕ) {old m new : Marked} → k < length m.queue
      → n ≡ get_or m.queue k 0 → Spreads r (take k m.queue) old m
      → Enters (λ t. Depends r t n) m new → Spreads r (take (k + 1) new.queue) old new
  spreads_more k n {old = old} {m = m} {new = new} in' at s e =
      let queued : IsQueued m n = (k, in', get_or_default m.queue k n 0 in' ∙ sym at) in
      let same : take (k + 1) new.queue ≡ take (k + 1) m.queue =
      ap (take (k + 1)) e.grown.behind.1
      ∙ take-append-le (k + 1) m.queue e.grown.behind.0 (omega (arith, in')) in
      record {
        grown = grows_then s.grown e.grown;
        reaches = λ t on. elim ((e.each t).0 on) [
          | inl before ↦ s.reaches t before
          | inr step ↦ (let reach = queued_reaches s n queued in
              inr (n ∷ reach.0, (step, reach.1)))
        ];
        closed = λ t u c step.
            let done = subst (λ (xs : List ℕ). Contains xs u) same c in
            elim ((one_more m.queue k 0 u in').0 done) [
              | inl earlier ↦ e.grown.keeps t (s.closed t u earlier step)
              | inr here ↦ (e.each t).1 (inr (subst (Depends r t) (here ∙ sym at) step))
            ];
      }

  -- a seed, or a target with a row on one of some of the seeds
  abbrev pub Touches : List ℕ → List ℕ → ℕ → Type 0
  Touches seeds some t =
      Contains seeds t ⊎ (IsTarget r t × ((n : ℕ) × Contains some n × HasRow r t n))

  -- the targets with a row on the next seed enter
  pub touches_more : (seeds : List ℕ) (k : ℕ) {a b c : Marked} → k < length seeds
      → Enters (Touches seeds (take k seeds)) a b
      → Enters (λ t. IsTarget r t × HasRow r t (get_or seeds k 0)) b c
      → Enters (Touches seeds (take (k + 1) seeds)) a c
  touches_more seeds k in' = enters_then (Touches seeds (take (k + 1) seeds)) (λ t. (
    λ h. elim h [
      | inl seed ↦ inl (inl seed)
      | inr w ↦ elim ((one_more seeds k 0 w.1.0 in').0 w.1.1) [
        | inl earlier ↦ inl (inr (w.0, (w.1.0, earlier, w.1.2)))
        | inr here ↦ inr (w.0, subst (HasRow r t) here w.1.2)
      ]
    ],
    λ s. elim s [
      | inl h ↦ elim h [
        | inl seed ↦ inl seed
        | inr w ↦
            inr (w.0, (w.1.0, (one_more seeds k 0 w.1.0 in').1 (inl w.1.1), w.1.2))
      ]
      | inr w ↦
          let n = get_or seeds k 0 in
          inr (w.0, (n, (one_more seeds k 0 n in').1 (inr refl), w.1))
    ],
  ))

  -- if nothing was marked, what spreads from what touches a seed is the region
  module _ (seeds : List ℕ) {none m new : Marked} (unmarked : (t : ℕ) → IsMarked none t → ⊥)
      (touched : Enters (TouchesSeed r seeds) none m) (s : Spreads r new.queue m new)
    where
      marked_queued : (t : ℕ) → IsMarked new t → IsQueued new t
      marked_queued t on =
          ((grows_then touched.grown s.grown).queued t).1 (inr (on, unmarked t))

      region_queued : (ns : List ℕ) (t : ℕ) → Chain (Depends r) (TouchesSeed r seeds) t ns
          → IsQueued new t
      region_queued [] t touches =
          marked_queued t (s.grown.keeps t ((touched.each t).1 (inr touches)))
      region_queued (n ∷ ns) t chain =
          marked_queued t (s.closed t n (region_queued ns n chain.1) chain.0)

      queued_touches : ((t : ℕ) → IsQueued none t → ⊥) → (t : ℕ) → IsQueued m t
          → TouchesSeed r seeds t
      queued_touches empty t q = elim ((touched.grown.queued t).0 q) [
        | inl before ↦ absurd (empty t before)
        | inr w ↦ elim ((touched.each t).0 w.0) [
          | inl on ↦ absurd (w.1 on)
          | inr touches ↦ touches
        ]
      ]

      -- what touches a seed is in the queue's prefix
      pub touched_first : (touching : ℕ) → touching ≡ length m.queue → (t : ℕ)
          → TouchesSeed r seeds t
          → Contains (take touching new.queue) t
      touched_first touching at t touches =
          let on : IsMarked m t = (touched.each t).1 (inr touches) in
          let queued : IsQueued m t = (touched.grown.queued t).1 (inr (on, unmarked t)) in
          subst (λ (xs : List ℕ). Contains xs t) (sym (prefix_of s.grown touching at)) queued

      pub region_found : ((t : ℕ) → IsQueued none t → ⊥) → MarksOnly (InRegion r seeds) new
      region_found empty = record {
        queued = λ t. (
          λ q. reaches_queued m (queued_touches empty) t (queued_reaches s t q),
          λ reach. region_queued reach.0 t reach.1,
        );
        marked = marked_queued;
      }
