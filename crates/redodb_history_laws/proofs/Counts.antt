-- Rows, grants and releases, counted, and what may come next.
use Rattle.std.proofs.Common.{◌≡◌, ℕ, ◌+◌, ◌⊎◌, Bool, true, false, cond, eqb, List, [], ◌∷◌, ◌++◌, Option, Some, None, count_by, refl, sym, ap, subst, inl, inr, arith, append_assoc, append-nil}
use Rattle.std.proofs.lemmas.Bool.{cases_Bool}
use Rattle.std.proofs.lemmas.List.Sums.{sum_by_push}
use Rattle.std.specs.List.{AllByRecursion}
use mathlib.Core.Logic.{dite}
use native.Mathlib.Decide.{ℕ_discrete}
use Rattle.redodb_model.specs.Names.{Naming}
use Rattle.redodb_model.specs.Support.Names.{IsNaming}
use Rattle.redodb_model.specs.Placed.{Place, Row, Granted, Busy, Released, PlacedLine, Fits, part_of, is_row, rows_in, is_grant, is_release, grants_in, releases_in, Follows, IsPlacedAfter, IsPlaced}
use Rattle.redodb_history_laws.proofs.Exchange.{cond_same, cond_other, after, Comes, AllCome}
use Rattle.redodb_history_laws.proofs.Own.{push_own, push_other}
use Rattle.redodb_history_laws.proofs.Moved.{tickets, same_counter}

abbrev pub one_if : Bool → ℕ
one_if b = cond b 1 0

pub no_step : (b : Bool) → ◌≡◌ {A = ℕ} (cond b 0 0) 0
no_step true = refl
no_step false = refl

-- the counts over a session's own lines, after one line more
pub own_push : {N : Type 0} (test : PlacedLine N → Bool) (s : ℕ) (before : List (PlacedLine N))
    (line : PlacedLine N)
    → count_by test (part_of s (before ++ line ∷ []))
    ≡ count_by test (part_of s before) + cond (eqb line.session s) (one_if (test line)) 0
own_push test s before line = dite (ℕ_discrete line.session s)
    (λ q. let a = ap (count_by test) (push_own s before line q) in
    let b = sum_by_push (λ x. one_if (test x)) (part_of s before) line in
    let d = cond_same line.session s (one_if (test line)) 0 q in
    omega arith)
    (λ n. let a = ap (count_by test) (push_other s before line n) in
    let d = cond_other line.session s (one_if (test line)) 0 n in
    omega arith)

module _ {N : Type 0} (naming : Naming N) where
  pub rows_push : (before : List (PlacedLine N)) (line : PlacedLine N)
      → rows_in (before ++ line ∷ []) ≡ rows_in before + one_if (is_row line.place)
  rows_push before line = sum_by_push (λ x. one_if (is_row x.place)) before line

  pub grants_push : (before : List (PlacedLine N)) (line : PlacedLine N) (t : N)
      → grants_in naming (before ++ line ∷ []) t
      ≡ grants_in naming before t + one_if (is_grant naming t line.place)
  grants_push before line t = sum_by_push (λ x. one_if (is_grant naming t x.place)) before line

  pub releases_push : (before : List (PlacedLine N)) (line : PlacedLine N) (t : N)
      → releases_in naming (before ++ line ∷ []) t
      ≡ releases_in naming before t + one_if (is_release naming t line.place)
  releases_push before line t = sum_by_push (λ x. one_if (is_release naming t x.place)) before line

  -- each target is free, or was granted once more than it was released
  pub record Paired (before : List (PlacedLine N)) : Type 0 where
    pub pairs : (t : N)
        → (grants_in naming before t ≡ releases_in naming before t)
        ⊎ (grants_in naming before t ≡ releases_in naming before t + 1)

  pub paired_at_first : Paired []
  paired_at_first = record { pairs = λ t. inl refl }

  abbrev pub counters : List (PlacedLine N) → Option N → ℕ
  counters before None = rows_in before
  counters before (Some t) = grants_in naming before t + releases_in naming before t + 2

  abbrev pub AllFit : List (PlacedLine N) → Type 0
  AllFit lines = AllByRecursion (λ line. Fits line.place line.command line.reply) lines

module _ {N : Type 0} {naming : Naming N} (law : IsNaming naming) where
  counters_at : (before : List (PlacedLine N)) (line : PlacedLine N) (place : Place N)
      (k : Option N)
      → rows_in (before ++ line ∷ []) ≡ rows_in before + one_if (is_row place)
      →
      ((t : N)
      → grants_in naming (before ++ line ∷ []) t
      ≡ grants_in naming before t + one_if (is_grant naming t place))
      →
      ((t : N)
      → releases_in naming (before ++ line ∷ []) t
      ≡ releases_in naming before t + one_if (is_release naming t place))
      → counters naming (before ++ line ∷ []) k
      ≡ after (tickets law) (counters naming before)
      (record line { place = place }) k
  counters_at before line (Row r) None rows grants releases = omega arith
  counters_at before line (Granted u g) None rows grants releases = omega arith
  counters_at before line (Busy u g) None rows grants releases = omega arith
  counters_at before line (Busy u g) (Some t) rows grants releases =
      omega (arith, grants t, releases t, no_step (same_counter naming (Some t) (Some u)))
  counters_at before line (Released u g) None rows grants releases = omega arith
  counters_at before line place (Some t) rows grants releases = omega (arith, grants t, releases t)

  pub counters_after : (before : List (PlacedLine N)) (line : PlacedLine N)
      → counters naming (before ++ line ∷ []) ≡ after (tickets law) (counters naming before) line
  counters_after before line =
      λ i k.
      counters_at before line line.place k (rows_push naming before line)
      (grants_push naming before line)
      (releases_push naming before line) i

  pub follows_comes : (before : List (PlacedLine N)) (line : PlacedLine N) (place : Place N)
      → Follows naming before place
      → Comes (tickets law) (counters naming before) (record line { place = place })
  follows_comes before line (Row r) h = h
  follows_comes before line place h = let a = h.0 in let b = h.1 in omega arith

  pub comes_follows : (before : List (PlacedLine N)) (line : PlacedLine N) (place : Place N)
      → Paired naming before
      → Comes (tickets law) (counters naming before) (record line { place = place })
      → Follows naming before place
  comes_follows before line (Row r) pair h = h
  comes_follows before line (Granted t g) pair h =
      elim (pair.pairs t) [ inl e ↦ (omega arith, omega arith) | inr e ↦ absurd (omega arith) ]
  comes_follows before line (Busy t g) pair h =
      elim (pair.pairs t) [ inl e ↦ absurd (omega arith) | inr e ↦ (omega arith, omega arith) ]
  comes_follows before line (Released t g) pair h =
      elim (pair.pairs t) [ inl e ↦ absurd (omega arith) | inr e ↦ (omega arith, omega arith) ]

  pair_at : (before : List (PlacedLine N)) (line : PlacedLine N) (place : Place N) (t : N)
      → Paired naming before → Follows naming before place
      → grants_in naming (before ++ line ∷ []) t
      ≡ grants_in naming before t + one_if (is_grant naming t place)
      → releases_in naming (before ++ line ∷ []) t
      ≡ releases_in naming before t + one_if (is_release naming t place)
      → (grants_in naming (before ++ line ∷ []) t ≡ releases_in naming (before ++ line ∷ []) t)
      ⊎
      (grants_in naming (before ++ line ∷ []) t
      ≡ releases_in naming (before ++ line ∷ []) t + 1)
  pair_at before line (Granted u g) t pair h grants releases = elim (cases_Bool (naming.same u t)) [
    | inl e ↦ let same = (law.decides u t).0 e in
        let c = ap (grants_in naming before) same in
        let d = ap (releases_in naming before) same in
        inr (omega (arith, h.0, h.1, ap one_if e))
    | inr e ↦ let f = ap one_if e in
        elim (pair.pairs t) [ inl k ↦ inl (omega arith) | inr k ↦ inr (omega arith) ]
  ]
  pair_at before line (Released u g) t pair h grants releases =
      elim (cases_Bool (naming.same u t)) [
        | inl e ↦ let same = (law.decides u t).0 e in
            let c = ap (grants_in naming before) same in
            let d = ap (releases_in naming before) same in
            inl (omega (arith, h.0, h.1, ap one_if e))
        | inr e ↦ let f = ap one_if e in
            elim (pair.pairs t) [ inl k ↦ inl (omega arith) | inr k ↦ inr (omega arith) ]
      ]
  pair_at before line place t pair h grants releases =
      elim (pair.pairs t) [ inl e ↦ inl (omega arith) | inr e ↦ inr (omega arith) ]

  pub paired_after : (before : List (PlacedLine N)) (line : PlacedLine N) → Paired naming before
      → Follows naming before line.place → Paired naming (before ++ line ∷ [])
  paired_after before line pair h =
      record {
        pairs = λ t. pair_at before line line.place t pair h
            (grants_push naming before line t)
            (releases_push naming before line t);
      }

  -- what one line keeps, placed lines keep
  along_from : (P : List (PlacedLine N) → Type 0)
      →
      ((before : List (PlacedLine N)) (line : PlacedLine N) → P before
      → Follows naming before line.place → P (before ++ line ∷ []))
      → (before lines : List (PlacedLine N)) → P before → IsPlacedAfter naming before lines
      → P (before ++ lines)
  along_from P step before [] h placed = subst P (sym (append-nil before)) h
  along_from P step before (line ∷ lines) h placed =
      subst P (append_assoc before (line ∷ []) lines)
      (along_from P step (before ++ line ∷ []) lines (step before line h placed.1) placed.2)

  pub along_placed : (P : List (PlacedLine N) → Type 0) → P []
      →
      ((before : List (PlacedLine N)) (line : PlacedLine N) → P before
      → Follows naming before line.place → P (before ++ line ∷ []))
      → (lines : List (PlacedLine N)) → IsPlaced naming lines → P lines
  along_placed P start step lines placed = along_from P step [] lines start placed

  pub paired_by : (lines : List (PlacedLine N)) → IsPlaced naming lines → Paired naming lines
  paired_by lines placed =
      along_placed (Paired naming) (paired_at_first naming) paired_after lines placed

  -- placed lines are those that fit and are in the order of their tickets
  pub placed_come : (before lines : List (PlacedLine N)) → IsPlacedAfter naming before lines
      → AllFit naming lines × AllCome (tickets law) (counters naming before) lines
  placed_come before [] h = (tt, tt)
  placed_come before (line ∷ lines) h =
      let rest = placed_come (before ++ line ∷ []) lines h.2 in (
        (h.0, rest.0),
        (
          follows_comes before line line.place h.1,
          subst (λ c. AllCome (tickets law) c lines) (counters_after before line) rest.1,
        ),
      )

  pub come_placed : (before lines : List (PlacedLine N)) → Paired naming before
      → AllFit naming lines
      → AllCome (tickets law) (counters naming before) lines → IsPlacedAfter naming before lines
  come_placed before [] pair fits come = tt
  come_placed before (line ∷ lines) pair fits come =
      let follows = comes_follows before line line.place pair come.0 in (
        fits.0,
        follows,
        come_placed (before ++ line ∷ []) lines (paired_after before line pair follows) fits.1
            (subst (λ c. AllCome (tickets law) c lines) (sym (counters_after before line))
            come.1),
      )
