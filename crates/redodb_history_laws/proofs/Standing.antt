-- Which places occur in a placed history, and what a session had seen of them.
use Rattle.std.proofs.Common.{◌≡◌, ℕ, ◌+◌, ◌<◌, ◌≤◌, ◌⊎◌, Bool, true, false, cond, eqb, List, [], ◌∷◌, ◌++◌, refl, ap, ◌∙◌, subst, inl, inr, arith}
use Rattle.std.proofs.lemmas.Bool.{cases_Bool}
use mathlib.Core.Logic.{dite}
use native.Mathlib.Decide.{dec_lt}
use Rattle.redodb_model.specs.Names.{Naming}
use Rattle.redodb_model.specs.Support.Names.{IsNaming}
use Rattle.redodb_model.specs.Placed.{Place, Row, Granted, Busy, Released, PlacedLine, part_of, is_row, rows_in, is_grant, is_release, grants_in, releases_in, Follows, IsPlaced}
use Rattle.redodb_model.specs.Seen.{StandsIn, IsToldOf, HasSeen}
use Rattle.redodb_history_laws.proofs.Counts.{one_if, rows_push, grants_push, releases_push, along_placed}

pub stands_before : {N : Type 0} (lines : List (PlacedLine N)) (line : PlacedLine N)
    (place : Place N)
    → StandsIn lines place → StandsIn (lines ++ line ∷ []) place
stands_before [] line place h = absurd h
stands_before (first ∷ lines) line place (inl e) = inl e
stands_before (first ∷ lines) line place (inr h) = inr (stands_before lines line place h)

pub stands_last : {N : Type 0} (lines : List (PlacedLine N)) (line : PlacedLine N) (place : Place N)
    → line.place ≡ place → StandsIn (lines ++ line ∷ []) place
stands_last [] line place e = inl e
stands_last (first ∷ lines) line place e = inr (stands_last lines line place e)

-- a place that occurs in lines with one more occurs before, or is that of the last
pub stands_in_more : {N : Type 0} (lines : List (PlacedLine N)) (line : PlacedLine N)
    (place : Place N)
    → StandsIn (lines ++ line ∷ []) place → StandsIn lines place ⊎ (line.place ≡ place)
stands_in_more [] line place (inl e) = inr e
stands_in_more [] line place (inr h) = absurd h
stands_in_more (first ∷ lines) line place (inl e) = inl (inl e)
stands_in_more (first ∷ lines) line place (inr h) = elim (stands_in_more lines line place h) [
  | inl k ↦ inl (inr k)
  | inr e ↦ inr e
]

stands_in_rest : {N : Type 0} (b : Bool) (line : PlacedLine N) (own lines : List (PlacedLine N))
    (place : Place N)
    → (StandsIn own place → StandsIn lines place) → StandsIn (cond b (line ∷ own) own) place
    → StandsIn (line ∷ lines) place
stands_in_rest true line own lines place rest (inl e) = inl e
stands_in_rest true line own lines place rest (inr h) = inr (rest h)
stands_in_rest false line own lines place rest h = inr (rest h)

-- what occurs in a session's part occurs in the lines
pub stands_in_part : {N : Type 0} (s : ℕ) (lines : List (PlacedLine N)) (place : Place N)
    → StandsIn (part_of s lines) place → StandsIn lines place
stands_in_part s [] place h = absurd h
stands_in_part s (line ∷ lines) place h =
    stands_in_rest (eqb line.session s) line (part_of s lines) lines place
    (stands_in_part s lines place) h

module _ {N : Type 0} (naming : Naming N) where
  -- the rows, the grants and the releases occur, as many as there are
  pub record NoneMissing (lines : List (PlacedLine N)) : Type 0 where
    pub rows : (q : ℕ) → q < rows_in lines → StandsIn lines (Row q)
    pub grants : (t : N) (f : ℕ) → 1 ≤ f → f ≤ grants_in naming lines t
        → StandsIn lines (Granted t f)
    pub releases : (t : N) (f : ℕ) → 1 ≤ f → f ≤ releases_in naming lines t
        → StandsIn lines (Released t f)

  -- the places that occur are no later
  pub record NoneLater (lines : List (PlacedLine N)) : Type 0 where
    pub row : (r : ℕ) → StandsIn lines (Row r) → r < rows_in lines
    pub granted : (t : N) (g : ℕ) → StandsIn lines (Granted t g)
        → (g ≤ grants_in naming lines t) × (g ≤ releases_in naming lines t + 1)
    pub busy : (t : N) (g : ℕ) → StandsIn lines (Busy t g)
        → (g ≤ grants_in naming lines t) × (g ≤ releases_in naming lines t + 1)

module _ {N : Type 0} {naming : Naming N} (law : IsNaming naming) where
  row_missing : (before : List (PlacedLine N)) (line : PlacedLine N) (place : Place N) (q : ℕ)
      → line.place ≡ place → Follows naming before place
      → rows_in (before ++ line ∷ []) ≡ rows_in before + one_if (is_row place)
      → NoneMissing naming before → q < rows_in (before ++ line ∷ [])
      → StandsIn (before ++ line ∷ []) (Row q)
  row_missing before line (Row r) q e follows push none below = dite (dec_lt q (rows_in before))
      (λ old. stands_before before line (Row q) (none.rows q old))
      (λ new. let same : r ≡ q = omega arith in
      stands_last before line (Row q) (e ∙ ap (λ k. Row k) same))
  row_missing before line place q e follows push none below =
      stands_before before line (Row q) (none.rows q (omega arith))

  grant_missing : (before : List (PlacedLine N)) (line : PlacedLine N) (place : Place N) (t : N)
      (f : ℕ)
      → line.place ≡ place → Follows naming before place
      → grants_in naming (before ++ line ∷ []) t
      ≡ grants_in naming before t + one_if (is_grant naming t place)
      → NoneMissing naming before → 1 ≤ f → f ≤ grants_in naming (before ++ line ∷ []) t
      → StandsIn (before ++ line ∷ []) (Granted t f)
  grant_missing before line (Granted u g) t f e follows push none some below =
      dite (dec_lt (grants_in naming before t) f)
      (λ new. elim (cases_Bool (naming.same u t)) [
        | inl is ↦ let same = (law.decides u t).0 is in
            let b = ap (grants_in naming before) same in
            let here : g ≡ f = omega (arith, follows.0, ap one_if is) in
            stands_last before line (Granted t f) (e ∙ (λ i. Granted (same i) (here i)))
        | inr not ↦ let c = ap one_if not in absurd (omega arith)
      ])
      (λ old. stands_before before line (Granted t f) (none.grants t f some (omega arith)))
  grant_missing before line place t f e follows push none some below =
      stands_before before line (Granted t f) (none.grants t f some (omega arith))

  release_missing : (before : List (PlacedLine N)) (line : PlacedLine N) (place : Place N) (t : N)
      (f : ℕ)
      → line.place ≡ place → Follows naming before place
      → releases_in naming (before ++ line ∷ []) t
      ≡ releases_in naming before t + one_if (is_release naming t place)
      → NoneMissing naming before → 1 ≤ f → f ≤ releases_in naming (before ++ line ∷ []) t
      → StandsIn (before ++ line ∷ []) (Released t f)
  release_missing before line (Released u g) t f e follows push none some below =
      dite (dec_lt (releases_in naming before t) f)
      (λ new. elim (cases_Bool (naming.same u t)) [
        | inl is ↦ let same = (law.decides u t).0 is in
            let b = ap (releases_in naming before) same in
            let here : g ≡ f = omega (arith, follows.1, ap one_if is) in
            stands_last before line (Released t f) (e ∙ (λ i. Released (same i) (here i)))
        | inr not ↦ let c = ap one_if not in absurd (omega arith)
      ])
      (λ old. stands_before before line (Released t f) (none.releases t f some (omega arith)))
  release_missing before line place t f e follows push none some below =
      stands_before before line (Released t f) (none.releases t f some (omega arith))

  none_missing_after : (before : List (PlacedLine N)) (line : PlacedLine N)
      → NoneMissing naming before → Follows naming before line.place
      → NoneMissing naming (before ++ line ∷ [])
  none_missing_after before line none follows = record {
    rows =
        λ q.
        row_missing before line line.place q refl follows (rows_push naming before line) none;
    grants =
        λ t f.
        grant_missing before line line.place t f refl follows
        (grants_push naming before line t) none;
    releases =
        λ t f.
        release_missing before line line.place t f refl follows
        (releases_push naming before line t) none;
  }

  -- in placed lines no row, grant or release is missing
  pub none_missing : (lines : List (PlacedLine N)) → IsPlaced naming lines
      → NoneMissing naming lines
  none_missing =
      along_placed law (NoneMissing naming)
      (record {
        rows = λ q below. absurd (omega arith);
        grants = λ t f some below. absurd (omega arith);
        releases = λ t f some below. absurd (omega arith);
      })
      none_missing_after

  none_later_after : (before : List (PlacedLine N)) (line : PlacedLine N)
      → NoneLater naming before → Follows naming before line.place
      → NoneLater naming (before ++ line ∷ [])
  none_later_after before line none follows = record {
    row =
        λ r stands. let push = rows_push naming before line in
        elim (stands_in_more before line (Row r) stands) [
          | inl old ↦ let a = none.row r old in omega arith
          | inr e ↦ let a : rows_in before ≡ r = subst (Follows naming before) e follows in
              let b : one_if (is_row line.place) ≡ 1 = ap (λ (p : Place N). one_if (is_row p)) e in
              omega arith
        ];
    granted =
        λ t g stands. let grants = grants_push naming before line t in
        let releases = releases_push naming before line t in
        elim (stands_in_more before line (Granted t g) stands) [
          | inl old ↦ let a = none.granted t g old in
              let b = a.0 in
              let c = a.1 in
              (omega arith, omega arith)
          | inr e
              ↦ let a : (grants_in naming before t + 1 ≡ g) × (releases_in naming before t + 1 ≡ g)
              = subst (Follows naming before) e follows in
              let b = a.0 in
              let c = a.1 in
              let d : one_if (is_grant naming t line.place) ≡ 1 =
              ap (λ (p : Place N). one_if (is_grant naming t p)) e
              ∙ ap one_if ((law.decides t t).1 refl) in
              (omega arith, omega arith)
        ];
    busy =
        λ t g stands. let grants = grants_push naming before line t in
        let releases = releases_push naming before line t in
        elim (stands_in_more before line (Busy t g) stands) [
          | inl old ↦ let a = none.busy t g old in
              let b = a.0 in
              let c = a.1 in
              (omega arith, omega arith)
          | inr e
              ↦ let a : (grants_in naming before t ≡ g) × (releases_in naming before t + 1 ≡ g)
              = subst (Follows naming before) e follows in
              let b = a.0 in
              let c = a.1 in
              (omega arith, omega arith)
        ];
  }

  -- in placed lines no place occurs that is later than their counts
  pub none_later : (lines : List (PlacedLine N)) → IsPlaced naming lines → NoneLater naming lines
  none_later =
      along_placed law (NoneLater naming)
      (record {
        row = λ r stands. absurd stands;
        granted = λ t g stands. absurd stands;
        busy = λ t g stands. absurd stands;
      })
      none_later_after

  told_no_later : (s : ℕ) (lines : List (PlacedLine N)) (t : N) (g : ℕ) → NoneLater naming lines
      → IsToldOf (part_of s lines) t g
      → (g ≤ grants_in naming lines t) × (g ≤ releases_in naming lines t + 1)
  told_no_later s lines t g none (inl h) =
      none.granted t g (stands_in_part s lines (Granted t g) h)
  told_no_later s lines t g none (inr h) = none.busy t g (stands_in_part s lines (Busy t g) h)

  -- what a session had seen of a placed history occurs in it
  pub seen_stands : (s : ℕ) (lines : List (PlacedLine N)) (place : Place N)
      → IsPlaced naming lines → HasSeen (part_of s lines) place → StandsIn lines place
  seen_stands s lines (Row q) placed seen =
      let a = (none_later lines placed).row seen.0 (stands_in_part s lines (Row seen.0) seen.2) in
      let b = seen.1 in
      (none_missing lines placed).rows q (omega arith)
  seen_stands s lines (Granted t f) placed seen =
      let a = (told_no_later s lines t seen.0 (none_later lines placed) seen.3).0 in
      let b = seen.2 in
      (none_missing lines placed).grants t f seen.1 (omega arith)
  seen_stands s lines (Busy t f) placed seen = absurd seen
  seen_stands s lines (Released t f) placed seen =
      let a = (told_no_later s lines t seen.0 (none_later lines placed) seen.3).1 in
      let b = seen.2 in
      (none_missing lines placed).releases t f seen.1 (omega arith)
