-- Rows are put one by one, in the order of their numbers.
use Rattle.std.proofs.Common.{◌≡◌, ◌≢◌, ℕ, zero, suc, ◌+◌, ◌-◌, ◌<◌, ◌≤◌, ◌^◌, Bool, true, false, cond, List, [], ◌∷◌, ◌++◌, length, get_or, Option, Some, None, eq-eqb, ne_eqb, refl, sym, ap, ◌∙◌, subst, arith, inl, inr}
use Rattle.std.specs.Prelude.{codes, decimal}
use Rattle.std.specs.List.{flat_map, range_with_len}
use Rattle.std.proofs.lemmas.Bool.{cases_eq, cases_lt}
use Rattle.redodb_model.specs.Names.{Text, by_number, put, text_at}
use Rattle.redodb_model.specs.State.{Mark, Rows, State}
use Rattle.redodb_dump.specs.Dumps.{change_word, created_word, row_words}
use Rattle.redodb_dump.specs.Support.Read.{AreRowsUpTo, AreSameButOf, with_mark, with_sign}
use Rattle.redodb_dump.proofs.DumpWords.{first_is_digit}

pub put_same : {X : Type 0} (n : ℕ) (x : X) (f : ℕ → X) → put by_number n x f n ≡ x
put_same n x f = ap (λ b. cond b x (f n)) (eq-eqb n n refl)

pub put_other : {X : Type 0} (n m : ℕ) (x : X) (f : ℕ → X) → m ≢ n → put by_number n x f m ≡ f m
put_other n m x f off = ap (λ b. cond b x (f m)) (ne_eqb n m (λ e. off (sym e)))

-- one change row

mark_here : (rows : Rows ℕ) (t n : ℕ) (change : Option Mark) → rows.change t n ≡ None
    → (with_mark rows t n change).change t n ≡ change
mark_here rows t n None none = none
mark_here rows t n (Some m) none =
    ap (λ (f : ℕ → Option Mark). f n)
    (put_same t (put by_number n (Some m) (rows.change t)) rows.change)
    ∙ put_same n (Some m) (rows.change t)

mark_at : (rows : Rows ℕ) (t n : ℕ) (change : Option Mark) (k : ℕ) → k ≢ n
    → (with_mark rows t n change).change t k ≡ rows.change t k
mark_at rows t n None k off = refl
mark_at rows t n (Some m) k off =
    ap (λ (f : ℕ → Option Mark). f k)
    (put_same t (put by_number n (Some m) (rows.change t)) rows.change)
    ∙ put_other n k (Some m) (rows.change t) off

mark_elsewhere : (rows : Rows ℕ) (t n : ℕ) (change : Option Mark) (u k : ℕ) → u ≢ t
    → (with_mark rows t n change).change u k ≡ rows.change u k
mark_elsewhere rows t n None u k off = refl
mark_elsewhere rows t n (Some m) u k off =
    ap (λ (f : ℕ → Option Mark). f k)
    (put_other t u (put by_number n (Some m) (rows.change t)) rows.change off)

mark_created : (rows : Rows ℕ) (t n : ℕ) (change : Option Mark)
    → (with_mark rows t n change).created ≡ rows.created
mark_created rows t n None = refl
mark_created rows t n (Some m) = refl

mark_always : (rows : Rows ℕ) (t n : ℕ) (change : Option Mark)
    → (with_mark rows t n change).always ≡ rows.always
mark_always rows t n None = refl
mark_always rows t n (Some m) = refl

-- one created row

sign_here : (rows : Rows ℕ) (t n : ℕ) (created : Bool) → rows.created t n ≡ false
    → (with_sign rows t n created).created t n ≡ created
sign_here rows t n false none = none
sign_here rows t n true none =
    ap (λ (f : ℕ → Bool). f n) (put_same t (put by_number n true (rows.created t)) rows.created)
    ∙ put_same n true (rows.created t)

sign_at : (rows : Rows ℕ) (t n : ℕ) (created : Bool) (k : ℕ) → k ≢ n
    → (with_sign rows t n created).created t k ≡ rows.created t k
sign_at rows t n false k off = refl
sign_at rows t n true k off =
    ap (λ (f : ℕ → Bool). f k) (put_same t (put by_number n true (rows.created t)) rows.created)
    ∙ put_other n k true (rows.created t) off

sign_elsewhere : (rows : Rows ℕ) (t n : ℕ) (created : Bool) (u k : ℕ) → u ≢ t
    → (with_sign rows t n created).created u k ≡ rows.created u k
sign_elsewhere rows t n false u k off = refl
sign_elsewhere rows t n true u k off =
    ap (λ (f : ℕ → Bool). f k)
    (put_other t u (put by_number n true (rows.created t)) rows.created off)

sign_change : (rows : Rows ℕ) (t n : ℕ) (created : Bool)
    → (with_sign rows t n created).change ≡ rows.change
sign_change rows t n false = refl
sign_change rows t n true = refl

sign_always : (rows : Rows ℕ) (t n : ℕ) (created : Bool)
    → (with_sign rows t n created).always ≡ rows.always
sign_always rows t n false = refl
sign_always rows t n true = refl

-- both rows on one name

module _ (rows : Rows ℕ) (t n : ℕ) (change : Option Mark) (created : Bool) where
  abbrev pub with_both : Rows ℕ
  with_both = with_mark (with_sign rows t n created) t n change

  change_kept : (u k : ℕ) → (with_sign rows t n created).change u k ≡ rows.change u k
  change_kept u k = ap (λ (f : ℕ → ℕ → Option Mark). f u k) (sign_change rows t n created)

  created_kept : (u k : ℕ)
      → with_both.created u k ≡ (with_sign rows t n created).created u k
  created_kept u k =
      ap (λ (f : ℕ → ℕ → Bool). f u k) (mark_created (with_sign rows t n created) t n change)

  change_at : (k : ℕ) → k ≢ n → with_both.change t k ≡ rows.change t k
  change_at k off = mark_at (with_sign rows t n created) t n change k off ∙ change_kept t k

  created_at : (k : ℕ) → k ≢ n → with_both.created t k ≡ rows.created t k
  created_at k off = created_kept t k ∙ sign_at rows t n created k off

  pub others_kept : AreSameButOf t rows with_both
  others_kept = record {
    change = λ u k off.
        mark_elsewhere (with_sign rows t n created) t n change u k off ∙ change_kept u k;
    created = λ u k off. created_kept u k ∙ sign_elsewhere rows t n created u k off;
    always = λ u. ap (λ (f : ℕ → Bool). f u)
        (mark_always (with_sign rows t n created) t n change ∙ sign_always rows t n created);
  }

  -- one more name
  pub row_put : (names : List Text) (st : State Text) → AreRowsUpTo names st rows t n
      → change ≡ st.records.rows.change (text_at names t) (text_at names n)
      → created ≡ st.records.rows.created (text_at names t) (text_at names n)
      → AreRowsUpTo names st with_both t (n + 1)
  row_put names st are own sign = record {
    change = λ k below. elim (cases_eq k n) [
      | inl same ↦ subst (λ m. with_both.change t m
          ≡ st.records.rows.change (text_at names t) (text_at names m)) (sym same)
          (mark_here (with_sign rows t n created) t n change
          (change_kept t n ∙ are.others.change n (omega arith)) ∙ own)
      | inr off ↦ change_at k off ∙ are.change k (omega (arith, below, off))
    ];
    created = λ k below. elim (cases_eq k n) [
      | inl same ↦ subst (λ m. with_both.created t m
          ≡ st.records.rows.created (text_at names t) (text_at names m)) (sym same)
          (created_kept t n ∙ sign_here rows t n created (are.others.created n (omega arith))
          ∙ sign)
      | inr off ↦ created_at k off ∙ are.created k (omega (arith, below, off))
    ];
    others = record {
      change = λ k more. change_at k (λ e. omega (arith, more, e))
          ∙ are.others.change k (omega (arith, more));
      created = λ k more. created_at k (λ e. omega (arith, more, e))
          ∙ are.others.created k (omega (arith, more));
    };
  }

-- names without rows don't matter
pub rows_until : (names : List Text) (st : State Text) (rows : Rows ℕ) (t least n : ℕ)
    → AreRowsUpTo names st rows t least → least ≤ n
    → ((k : ℕ) → least ≤ k → k < n
    → (st.records.rows.change (text_at names t) (text_at names k) ≡ None)
    × (st.records.rows.created (text_at names t) (text_at names k) ≡ false))
    → AreRowsUpTo names st rows t n
rows_until names st rows t least n are up none = record {
  change = λ k below. elim (cases_lt k least) [
    | inl less ↦ are.change k less
    | inr more ↦ are.others.change k more ∙ sym (none k more below).0
  ];
  created = λ k below. elim (cases_lt k least) [
    | inl less ↦ are.created k less
    | inr more ↦ are.others.created k more ∙ sym (none k more below).1
  ];
  others = record {
    change = λ k more. are.others.change k (omega (arith, up, more));
    created = λ k more. are.others.created k (omega (arith, up, more));
  };
}

pub same_twice : {t : ℕ} {old new newer : Rows ℕ} → AreSameButOf t old new
    → AreSameButOf t new newer → AreSameButOf t old newer
same_twice first next = record {
  change = λ u n off. next.change u n off ∙ first.change u n off;
  created = λ u n off. next.created u n off ∙ first.created u n off;
  always = λ u. next.always u ∙ first.always u;
}

-- words of rows

pub no_row : (number : ℕ) (now : Mark) (change : Option Mark) (created : Bool)
    → row_words number now change created ≡ [] → (change ≡ None) × (created ≡ false)
no_row number now None false e = (refl, refl)
no_row number now None true e = absurd (omega (arith, ap length e))
no_row number now (Some mark) created e = absurd (omega (arith, ap length e))

pub row_is : (number : ℕ) (now : Mark) (change : Option Mark) (created : Bool) (w : Text)
    → row_words number now change created ≡ w ∷ []
    → w ≡ created_word created ++ decimal number ++ change_word now change
row_is number now None false w e = absurd (omega (arith, ap length e))
row_is number now None true w e = sym (ap (λ ws. get_or ws 0 []) e)
row_is number now (Some mark) created w e = sym (ap (λ ws. get_or ws 0 []) e)

pub plus_found : (created : Bool) (n : ℕ) (more word : Text) → n < 10 ^ 64
    → word ≡ created_word created ++ decimal n ++ more → (flag : Bool) (left : Text)
    → ((rest : Text) → word ≡ codes "+" ++ rest → (flag ≡ true) × (left ≡ rest))
    → (((rest : Text) → word ≢ codes "+" ++ rest) → (flag ≡ false) × (left ≡ word))
    → (flag ≡ created) × (left ≡ decimal n ++ more)
plus_found true n more word small is flag left plus none = plus (decimal n ++ more) is
plus_found false n more word small is flag left plus none =
    let found =
    none (λ rest e. omega (
      arith,
      first_is_digit n more small,
      ap (λ (w : Text). get_or w 0 0) (sym is ∙ e),
    )) in
    (found.0, found.1 ∙ is)

-- pieces, of which each number has one at most

no_parts : {X : Type 0} (xs ys : List X) → xs ++ ys ≡ [] → (xs ≡ []) × (ys ≡ [])
no_parts [] ys e = (refl, e)
no_parts (x ∷ xs) ys e = absurd (omega (arith, ap length e))

module _ {X : Type 0} (f : ℕ → List X) where
  -- the first piece from a number on is that of k
  pub record IsNext (from end k : ℕ) (piece : X) (more : List X) : Type 0 where
    pub least : from ≤ k
    pub below : k < end
    pub none : (j : ℕ) → from ≤ j → j < k → f j ≡ []
    pub here : f k ≡ piece ∷ []
    pub rest : more ≡ flat_map f (range_with_len (k + 1) (end - (k + 1)))

  pub nothing_left : (count from end : ℕ) → from + count ≡ end
      → flat_map f (range_with_len from count) ≡ []
      → (k : ℕ) → from ≤ k → k < end → f k ≡ []
  nothing_left zero from end sum e k least below = absurd (omega arith)
  nothing_left (suc count) from end sum e k least below =
      let parts = no_parts (f from) (flat_map f (range_with_len (from + 1) count)) e in
      elim (cases_eq k from) [
        | inl same ↦ ap f same ∙ parts.0
        | inr off ↦ nothing_left count (from + 1) end (omega arith) parts.1 k (omega arith) below
      ]

  module _ (one : (k : ℕ) → length (f k) ≤ 1) where
    pub next_piece : (count from end : ℕ) (piece : X) (more : List X) → from + count ≡ end
        → flat_map f (range_with_len from count) ≡ piece ∷ more
        → (k : ℕ) × IsNext from end k piece more
    next_piece zero from end piece more sum e = absurd (omega (arith, ap length e))
    next_piece (suc count) from end piece more sum e =
        by (f from) refl (one from)
        (λ none. next_piece count (from + 1) end piece more (omega arith) (skip none))
      where
        rest : List X
        rest = flat_map f (range_with_len (from + 1) count)

        skip : f from ≡ [] → flat_map f (range_with_len (from + 1) count) ≡ piece ∷ more
        skip none =
            ap (λ ps. ps ++ flat_map f (range_with_len (from + 1) count)) (sym none) ∙ e

        counted : count ≡ end - (from + 1)
        counted = omega arith

        by : (ps : List X) → f from ≡ ps → length ps ≤ 1
            → (f from ≡ [] → (k : ℕ) × IsNext (from + 1) end k piece more)
            → (k : ℕ) × IsNext from end k piece more
        by [] none few later =
            let found = later none in
            let next = found.1 in (
              found.0,
              record {
                least = omega (arith, next.least);
                below = next.below;
                none = λ j least below. elim (cases_eq j from) [
                  | inl same ↦ ap f same ∙ none
                  | inr off ↦ next.none j (omega (arith, least, off)) below
                ];
                here = next.here;
                rest = next.rest;
              },
            )
        by (p ∷ []) here few later =
            let both : p ∷ flat_map f (range_with_len (from + 1) count) ≡ piece ∷ more =
            ap (λ ps. ps ++ flat_map f (range_with_len (from + 1) count)) (sym here) ∙ e in
            let first : p ≡ piece = cc in
            let others : flat_map f (range_with_len (from + 1) count) ≡ more = cc in (
              from,
              record {
                least = omega arith;
                below = omega arith;
                none = λ j least below. absurd (omega (arith, least, below));
                here = here ∙ (λ i. first i ∷ []);
                rest = sym others
                    ∙ ap (λ c. flat_map f (range_with_len (from + 1) c)) counted;
              },
            )
        by (p ∷ q ∷ ps) here few later = absurd (omega arith)
