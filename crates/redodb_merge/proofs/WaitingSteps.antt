-- Sessions that wait still wait after a step that does not wake them.
use Rattle.std.proofs.Common.{◌≡◌, ◌≢◌, ◌∙◌, ℕ, ◌+◌, ◌-◌, ◌%◌, ◌^◌, ◌<◌, ◌≤◌, ◌&&◌, eqb, false, refl, List, length, get_or, sym, ap, subst, inl, inr, arith, eqb-true, HashMap}
use Rattle.std.proofs.Math.ListN.{set}
use Rattle.std.specs.Int.{bit_at}
use Rattle.std.proofs.lemmas.Bool.{cases_Bool}
use Rattle.std.proofs.lemmas.List.{get_or-set_other}
use Rattle.std.proofs.lemmas.Nat.Bits.{bit_at_ones}
use Rattle.redodb_history_laws.proofs.Counts.{one_if}
use Rattle.redodb_journal.specs.declared.entry.Place.{Place}
use Rattle.redodb_journal.specs.declared.entry.Place.TheVariants.{Row, Granted, Busy, Released}
use Rattle.redodb_journal.specs.declared.entry.Journal.{Journal}
use Rattle.redodb_journal.specs.Journals.{entries_of}
use Rattle.redodb_merge.specs.declared.merging.turning.Turns.{Turns}
use Rattle.redodb_merge.specs.declared.merging.waiting.Waiting.{Waiting}
use Rattle.redodb_merge.specs.Support.Merging.{none, tally, busy_one, rows_after, claim_after, Comes, IsFree, Turned, SessionMayCome}
use Rattle.redodb_merge.specs.Support.Waiting.{row_bucket, bucket_of, bucket_woken, HasBuckets, Wakes, IsWaiting, AreWaiting}

-- targets with other buckets are other targets
apart : (t u : ℕ) → 256 + u % 256 ≢ 256 + t % 256 → eqb t u ≡ false
apart t u ne = elim (cases_Bool (eqb t u)) [
  | inl e ↦ absurd (ne (ap (λ n. 256 + n % 256) (sym (eqb-true t u e))))
  | inr e ↦ e
]

-- a place changes nothing of what a place in a bucket that it does not wake waits for
rows_same : (turns : Turns) (p : Place) (r : ℕ) → row_bucket r ≢ bucket_woken p → Comes turns p
    → rows_after p turns.rows ≡ r → turns.rows ≡ r
rows_same turns (Row q) r ne comes h =
    absurd (ne (ap row_bucket (let e : r ≡ q + 1 = omega (arith, h, comes) in e)))
rows_same turns place r ne comes h = h

claim_same : (p : Place) (u claim : ℕ) → 256 + u % 256 ≢ bucket_woken p
    → claim_after p u claim ≡ claim
claim_same (Granted t g) u claim ne =
    let no : one_if (eqb t u) ≡ 0 = ap one_if (apart t u ne) in omega (arith, no)
claim_same (Released t g) u claim ne =
    let no : one_if (eqb t u) ≡ 0 = ap one_if (apart t u ne) in omega (arith, no)
claim_same place u claim ne = refl

busy_none : (p : Place) (t g : ℕ) → 256 + t % 256 ≢ bucket_woken p → busy_one t g p ≡ 0
busy_none (Busy u h) t g ne = ap (λ b. one_if (b && eqb h g)) (apart u t ne)
busy_none place t g ne = refl

module _ (turns turns2 : Turns) (p : Place) (comes : Comes turns p)
    (turned : Turned turns turns2 p) where
  still_comes : (q : Place) → bucket_of q ≢ bucket_woken p → Comes turns2 q → Comes turns q
  still_comes (Row r) ne h = rows_same turns p r ne comes (sym turned.rows ∙ h)
  still_comes (Granted t g) ne h =
      omega (arith, turned.claims t, claim_same p t (get_or turns.claims.items t 0) ne, h)
  still_comes (Busy t g) ne h =
      omega (arith, turned.claims t, claim_same p t (get_or turns.claims.items t 0) ne, h)
  still_comes (Released t g) ne h =
      omega (arith, turned.claims t, claim_same p t (get_or turns.claims.items t 0) ne, h)

module _ {S S2 : Type 0} (counts : HashMap (ℕ × ℕ) ℕ S) (counts2 : HashMap (ℕ × ℕ) ℕ S2)
    (p : Place)
    (taken : (t g : ℕ) → tally counts2 t g + busy_one t g p ≡ tally counts t g) where
  still_free : (q : Place) → bucket_of q ≢ bucket_woken p → IsFree counts2 q → IsFree counts q
  still_free (Released t g) ne h = omega (arith, taken t g, busy_none p t g ne, h)
  still_free place ne h = tt

-- at first all sessions are ready
pub waiting_first : {S : Type 0} (w : Waiting) (turns : Turns) (counts : HashMap (ℕ × ℕ) ℕ S)
    (js : List Journal) (next : List ℕ)
    → length js ≤ 64 → w.ready ≡ 2 ^ 64 - 1 → HasBuckets w → AreWaiting w turns counts js next
waiting_first w turns counts js next few all bucketed = record {
  bucketed = bucketed;
  each = λ u below off.
      let on = bit_at_ones 64 u (omega (arith, below, few)) in
      absurd (omega (arith, sym (ap (λ r. bit_at r u) all) ∙ off, on));
}

module _ {S : Type 0} (w : Waiting) (turns : Turns) (counts : HashMap (ℕ × ℕ) ℕ S)
    (js : List Journal) (next : List ℕ) (are : AreWaiting w turns counts js next) where
  -- the entry of session s was taken
  pub waiting_step : {S2 : Type 0} (w2 : Waiting) (turns2 : Turns)
      (counts2 : HashMap (ℕ × ℕ) ℕ S2) (s n : ℕ) (p : Place)
      → SessionMayCome turns counts js next s → Comes turns p → Turned turns turns2 p
      → ((t g : ℕ) → tally counts2 t g + busy_one t g p ≡ tally counts t g) → Wakes w w2 p
      → AreWaiting w2 turns2 counts2 js (set next s n)
  waiting_step w2 turns2 counts2 s n p may comes turned taken wakes = record {
    bucketed = wakes.bucketed;
    each = λ u below off.
        let both = sym (wakes.ready u) ∙ off in
        let woken = get_or w.buckets.items (bucket_woken p) 0 in
        let was : bit_at w.ready u ≡ 0 = omega (arith, both) in
        let none_there : bit_at woken u ≡ 0 = omega (arith, both) in
        let old = are.each u below was in
        let other : u ≢ s =
        λ e. old.cannot (subst (SessionMayCome turns counts js next) (sym e) may) in
        let q = (get_or (entries_of js u) (get_or next u 0) none).place in
        let asleep : get_or next u 0 < length (entries_of js u) → bucket_of q ≢ bucket_woken p =
        λ more e.
        let there = ap (λ i. bit_at (get_or w.buckets.items i 0) u) e in
        omega (arith, there, old.noted more, none_there) in
        subst (λ k. IsWaiting w2 turns2 counts2 (entries_of js u) k u)
        (sym (get_or-set_other next s u n 0 other))
        (record {
          cannot = λ can. old.cannot (record {
            more = can.more;
            comes = still_comes turns turns2 p comes turned q (asleep can.more) can.comes;
            free = still_free counts counts2 p taken q (asleep can.more) can.free;
          });
          noted = λ more.
              ap (λ x. bit_at x u) (wakes.others (bucket_of q) (asleep more)) ∙ old.noted more;
        });
  }
