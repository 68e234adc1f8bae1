-- Rows that are put at a place, and rows that are cleared.
use Rattle.std.proofs.Common.{◌≡◌, ◌≢◌, ◌∙◌, ℕ, ◌+◌, ◌<◌, ◌≤◌, ◌==◌, ◌&&◌, Bool, true, false, cond, List, Option, Some, length, set, length-set, refl, sym, ap, inl, inr, arith}
use Rattle.std.specs.Prelude.{slice_get, option_map, AllPairs}
use Rattle.std.proofs.Math.Path.{fun_ext}
use Rattle.std.proofs.lemmas.Bool.{cases_eq, cases_lt, eq-eqb, ne_eqb}
use Rattle.std.proofs.lemmas.Grind.{get_or-set_at}
use Rattle.std.proofs.lemmas.List.{get_or-set_other, get_or_past}
use Rattle.std.proofs.lemmas.Option.{slice_get-get_or}
use Rattle.redodb_model.specs.Names.{Text, put}
use Rattle.redodb_model.specs.State as states
use Rattle.redodb_records.specs.Rows.{by_number, with_change, with_created, without_rows}
use Rattle.redodb_replica.specs.declared.mark.Mark.{Mark}
use Rattle.redodb_replica.specs.declared.rows.Row.{Row}
use Rattle.redodb_replica.specs.CompactCells.{mark_for}
use Rattle.redodb_replica.specs.PairRows.{IsBlock, IsChanged, IsCleared, IsMade, IsPut, bare, change_of, pair_place, row_at, rows_of}
use Rattle.redodb_replica.proofs.Places.{place_found, place_is}

pub field_of_cond : {X Y : Type 0} (f : X → Y) (b : Bool) (x y : X)
    → f (cond b x y) ≡ cond b (f x) (f y)
field_of_cond f true x y = refl
field_of_cond f false x y = refl

cond_at : {X : Type 0} (b : Bool) (f g : ℕ → X) (k : ℕ) → cond b (f k) (g k) ≡ cond b f g k
cond_at true f g k = refl
cond_at false f g k = refl

-- one value that is put at t and n
put_two : {X : Type 0} (f : ℕ → ℕ → X) (t n : ℕ) (x : X) (u k : ℕ)
    → cond ((t == u) && (n == k)) x (f u k)
    ≡ put by_number t (put by_number n x (f t)) f u k
put_two {X = X} f t n x u k = elim (cases_eq t u) [
  | inl e ↦
      ap (λ b. cond (b && (n == k)) x (f u k)) (eq-eqb t u e)
      ∙ ap (λ v. cond (n == k) x (f v k)) (sym e)
      ∙ ap (λ b. cond b (λ (j : ℕ). cond (n == j) x (f t j)) (f u) k) (sym (eq-eqb t u e))
  | inr ne ↦
      ap (λ b. cond (b && (n == k)) x (f u k)) (ne_eqb t u ne)
      ∙ ap (λ b. cond b (λ (j : ℕ). cond (n == j) x (f t j)) (f u) k) (sym (ne_eqb t u ne))
]

module _ (rows : List Row) (place : ℕ) (row : Row) (below : place < length rows) where
  -- what the row has like the old one stays everywhere
  field_stays : {X : Type 0} (f : Row → X) → f row ≡ f (row_at rows place) → (i : ℕ)
      → f (row_at (set rows place row) i) ≡ f (row_at rows i)
  field_stays f same i = elim (cases_eq place i) [
    | inl e ↦
        ap f (get_or-set_at rows place i row bare (sym e) below)
        ∙ same ∙ ap (λ j. f (row_at rows j)) e
    | inr ne ↦ ap f (get_or-set_other rows place i row bare (λ e. ne (sym e)))
  ]

  -- the row is that of t on n, and each other pair keeps its own
  row_is : (pairs : List (ℕ × ℕ)) (t n : ℕ) → AllPairs ◌≢◌ pairs
      → slice_get pairs place ≡ Some (t, n) → (u k : ℕ)
      → row_at (set rows place row) (pair_place pairs u k)
      ≡ cond ((t == u) && (n == k)) row (row_at rows (pair_place pairs u k))
  row_is pairs t n once at u k =
      let old : Row = row_at rows (pair_place pairs u k) in
      written (pair_place pairs u k)
      ∙ ap (λ b. cond b row old) (place_is pairs place t n once at u k)
    where
      written : (i : ℕ)
          → row_at (set rows place row) i ≡ cond (place == i) row (row_at rows i)
      written i = elim (cases_eq place i) [
        | inl e ↦
            get_or-set_at rows place i row bare (sym e) below
            ∙ ap (λ b. cond b row (row_at rows i)) (sym (eq-eqb place i e))
        | inr ne ↦
            get_or-set_other rows place i row bare (λ e. ne (sym e))
            ∙ ap (λ b. cond b row (row_at rows i)) (sym (ne_eqb place i ne))
      ]

  -- so what the row has is put at t and n
  field_put : {X : Type 0} (f : Row → X) (x : X) → f row ≡ x
      → (pairs : List (ℕ × ℕ)) (t n : ℕ) → AllPairs ◌≢◌ pairs
      → slice_get pairs place ≡ Some (t, n)
      → (λ (u k : ℕ). f (row_at (set rows place row) (pair_place pairs u k)))
      ≡ put by_number t (put by_number n x (λ k. f (row_at rows (pair_place pairs t k))))
      (λ u k. f (row_at rows (pair_place pairs u k)))
  field_put {X = X} f x is pairs t n once at =
      let old : ℕ → ℕ → X = λ u k. f (row_at rows (pair_place pairs u k)) in
      fun_ext (λ u. fun_ext (λ k.
      ap f (row_is pairs t n once at u k)
      ∙ field_of_cond f ((t == u) && (n == k)) row (row_at rows (pair_place pairs u k))
      ∙ ap (λ (y : X). cond ((t == u) && (n == k)) y (old u k)) is
      ∙ put_two old t n x u k))

module _ (stamps digests : List Text) (pairs : List (ℕ × ℕ)) (old new : List Row)
    (always : ℕ → Bool) where
  stood : Row → Option states.Mark
  stood row = option_map (mark_for stamps digests) (change_of row)

  pub change_put : (place t n : ℕ) (mark : Mark) → AllPairs ◌≢◌ pairs
      → slice_get pairs place ≡ Some (t, n) → place < length old
      → IsPut place (IsChanged mark) old new
      → rows_of stamps digests pairs new always
      ≡ with_change (rows_of stamps digests pairs old always) t n
      (mark_for stamps digests mark)
  change_put place t n mark once at below written =
      let row : Row = written.0 in
      let change =
      field_put old place row below (λ r. option_map (mark_for stamps digests) (change_of r))
      (Some (mark_for stamps digests mark)) (ap (option_map (mark_for stamps digests)) written.1.0)
      pairs t n once at in
      let created : (λ (u k : ℕ). (row_at (set old place row) (pair_place pairs u k)).created)
      ≡ (λ u k. (row_at old (pair_place pairs u k)).created) =
      fun_ext (λ u. fun_ext (λ k.
      field_stays old place row below (λ (r : Row). r.created) written.1.1
      (pair_place pairs u k))) in
      ap (λ (rows : List Row). rows_of stamps digests pairs rows always) written.2
      ∙ (λ i. record { change = change i; created = created i; always = always })

  pub created_put : (place t n : ℕ) → AllPairs ◌≢◌ pairs
      → slice_get pairs place ≡ Some (t, n) → place < length old → IsPut place IsMade old new
      → rows_of stamps digests pairs new always
      ≡ with_created (rows_of stamps digests pairs old always) t n
  created_put place t n once at below written =
      let row : Row = written.0 in
      let created =
      field_put old place row below (λ (r : Row). r.created) true written.1.1 pairs t n once at in
      let change : (λ (u k : ℕ). option_map (mark_for stamps digests)
      (change_of (row_at (set old place row) (pair_place pairs u k))))
      ≡ (λ u k. option_map (mark_for stamps digests)
      (change_of (row_at old (pair_place pairs u k)))) =
      fun_ext (λ u. fun_ext (λ k.
      field_stays old place row below (λ r. option_map (mark_for stamps digests) (change_of r))
      (ap (option_map (mark_for stamps digests)) written.1.0) (pair_place pairs u k))) in
      ap (λ (rows : List Row). rows_of stamps digests pairs rows always) written.2
      ∙ (λ i. record { change = change i; created = created i; always = always })

  module _ (t from to : ℕ) (sized : length old ≡ length pairs) (block : IsBlock pairs t from to)
      (within : to ≤ length pairs) (cleared : IsCleared from to old new) where
    gone : (u k : ℕ) → u ≡ t → row_at new (pair_place pairs u k) ≡ bare
    gone u k own = elim (cases_lt (pair_place pairs u k) (length pairs)) [
      | inl lt ↦
          let here =
          (block (pair_place pairs u k) u k (slice_get-get_or pairs (pair_place pairs u k) (u, k) lt
          ∙ ap Some (place_found pairs u k (u, k) lt))).0 own in
          cleared.gone (pair_place pairs u k) here.0 here.1
      | inr le ↦
          get_or_past new (pair_place pairs u k) bare (omega (arith, le, sized, cleared.sized))
    ]

    stays : (u k : ℕ) → u ≢ t
        → row_at new (pair_place pairs u k) ≡ row_at old (pair_place pairs u k)
    stays u k other = elim (cases_lt (pair_place pairs u k) from) [
      | inl before ↦ cleared.before (pair_place pairs u k) before
      | inr le ↦ elim (cases_lt (pair_place pairs u k) to) [
        | inl lt ↦
            let there : pair_place pairs u k < length pairs = omega (arith, lt, within) in
            absurd (other ((block (pair_place pairs u k) u k
            (slice_get-get_or pairs (pair_place pairs u k) (u, k) there
            ∙ ap Some (place_found pairs u k (u, k) there))).1 (le, lt)))
        | inr past ↦ cleared.after (pair_place pairs u k) past
      ]
    ]

    row_cleared : (u k : ℕ) → row_at new (pair_place pairs u k)
        ≡ cond (t == u) bare (row_at old (pair_place pairs u k))
    row_cleared u k = elim (cases_eq t u) [
      | inl e ↦
          gone u k (sym e)
          ∙ ap (λ b. cond b bare (row_at old (pair_place pairs u k))) (sym (eq-eqb t u e))
      | inr ne ↦
          stays u k (λ e. ne (sym e))
          ∙ ap (λ b. cond b bare (row_at old (pair_place pairs u k))) (sym (ne_eqb t u ne))
    ]

    field_cleared : {X : Type 0} (f : Row → X)
        → (λ (u k : ℕ). f (row_at new (pair_place pairs u k)))
        ≡ put {X = ℕ → X} by_number t (λ n. f bare) (λ u k. f (row_at old (pair_place pairs u k)))
    field_cleared {X = X} f = fun_ext (λ u. fun_ext (λ k.
        ap f (row_cleared u k)
        ∙ field_of_cond f (t == u) bare (row_at old (pair_place pairs u k))
        ∙ cond_at (t == u) (λ n. f bare) (λ j. f (row_at old (pair_place pairs u j))) k))

    pub rows_cleared : rows_of stamps digests pairs new (put by_number t false always)
        ≡ without_rows (rows_of stamps digests pairs old always) t
    rows_cleared =
        let change =
        field_cleared (λ r. option_map (mark_for stamps digests) (change_of r)) in
        let created = field_cleared (λ (r : Row). r.created) in
        λ i. record {
          change = change i;
          created = created i;
          always = put by_number t false always;
        }

-- nothing is cleared so far
pub cleared_none : (from : ℕ) (old : List Row) → IsCleared from from old old
cleared_none from old = record {
  sized = refl;
  gone = λ i le lt. absurd (omega (arith, le, lt));
  before = λ i lt. refl;
  after = λ i le. refl;
}

-- the row at one place more is cleared
pub cleared_more : (from place : ℕ) (old now : List Row) → from ≤ place → place < length now
    → IsCleared from place old now → IsCleared from (place + 1) old (set now place bare)
cleared_more from place old now order below h = record {
  sized = length-set now place bare ∙ h.sized;
  gone = λ i le lt. elim (cases_eq i place) [
    | inl e ↦ get_or-set_at now place i bare bare e below
    | inr ne ↦ get_or-set_other now place i bare bare ne
        ∙ h.gone i le (omega (arith, lt, ne))
  ];
  before = λ i lt.
      get_or-set_other now place i bare bare (λ e. absurd (omega (arith, lt, order, e)))
      ∙ h.before i lt;
  after = λ i le.
      get_or-set_other now place i bare bare (λ e. absurd (omega (arith, le, e)))
      ∙ h.after i (omega (arith, le));
}
