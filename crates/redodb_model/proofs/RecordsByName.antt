-- Records over numbers, under their names: each name has what its number has.
use Rattle.std.proofs.Common.{◌≡◌, ℕ, ◌<◌, Bool, true, false, cond, List, [], ◌∷◌, Option, Some, None, is_some, refl, sym, ap, ◌∙◌, subst, inl, inr, map, length, arith}
use Rattle.std.proofs.Math.Path.{fun_ext}
use Rattle.std.proofs.lemmas.Bool.{cases_Bool, false≢true, eqb-true, eq-eqb, false_from_ne_true}
use Rattle.std.specs.Prelude.{◌==◌}
use Rattle.std.specs.declared.cmp.Ordering.{Ordering}
use Rattle.redodb_model.specs.Names.{Naming, put, numbers}
use Rattle.redodb_model.specs.Support.Names.{IsNaming}
use Rattle.redodb_model.specs.State.{Records, Cell, TargetState, Idle, Built, target_state, idle, mark_of, mark_in, has_file}
use Rattle.redodb_model.specs.OutOfDate.{IsTarget, ReasonIn, HasReason, Chain, Depends, OutOfDate}
use Rattle.redodb_model.specs.Support.Renaming.{Renaming, IsRenaming, value_at, named_records, IsWithin}

-- if all values are the default, the default is read
pub default_at : {X : Type 0} (d : X) (o : Option ℕ) → d ≡ value_at d (λ n. d) o
default_at d None = refl
default_at d (Some k) = refl

-- if a value isn't the default, it has a number
pub number_where : {M X : Type 0} (number : M → Option ℕ) (test : X → Bool) (d : X) (f : ℕ
    → X) (t : M) (o : Option ℕ) → number t ≡ o → test d ≡ false → test (value_at d f o) ≡ true
    → (n : ℕ) × (number t ≡ Some n) × (test (f n) ≡ true)
number_where number test d f t None e off h = absurd (false≢true (sym off ∙ h))
number_where number test d f t (Some n) e off h = (n, e, h)

-- a row with a value other than the default belongs to a number
pub row_where : {M X : Type 0} (number : M → Option ℕ) (test : X → Bool) (d : X) (f : ℕ → ℕ
    → X) (n : M) (o : Option ℕ) → test d ≡ false
    → test (value_at {X = M → X} (λ v. d) (λ k v. value_at d (f k) (number v)) o n) ≡ true
    → (j : ℕ) × (test (value_at d (f j) (number n)) ≡ true)
row_where number test d f n None off h = absurd (false≢true (sym off ∙ h))
row_where number test d f n (Some j) off h = (j, h)

module _ {M : Type 0} {to : Renaming M} (law : IsRenaming to) where
  pub value_at_name : {X : Type 0} (d : X) (f : ℕ → X) (k : ℕ) → k < to.count
      → value_at d f (to.number (to.name k)) ≡ f k
  value_at_name d f k below = ap (value_at d f) (law.back k below)

  -- the row of a number's name
  pub row_at_name : {X : Type 0} (d : X) (f : ℕ → ℕ → X) (k : ℕ) (t : M) → k < to.count
      → value_at {X = M → X} (λ n. d) (λ j n. value_at d (f j) (to.number n))
      (to.number (to.name k)) t ≡ value_at d (f k) (to.number t)
  row_at_name {X = X} d f k t below =
      ap (λ (h : M → X). h t)
      (value_at_name (λ n. d) (λ j n. value_at d (f j) (to.number n)) k below)

  module _ (naming : Naming M) (good : IsNaming naming) (order : ℕ → ℕ → Ordering) where
    -- a number's name is a given name exactly if the number is that name's
    pub same_at : (n : ℕ) (t : M) (o : Option ℕ) → n < to.count → to.number t ≡ o
        → naming.same (to.name n) t ≡ value_at false (λ k. n == k) o
    same_at n t None below e =
        false_from_ne_true (naming.same (to.name n) t)
        (λ h. let f : to.name n ≡ t = (good.decides (to.name n) t).0 h in
        let g : Some n ≡ None = sym (law.back n below) ∙ ap to.number f ∙ e in cc)
    same_at n t (Some k) below e = elim (cases_Bool (n == k)) [
      | inl h ↦
          (good.decides (to.name n) t).1 (ap to.name (eqb-true n k h) ∙ law.forth t k e) ∙ sym h
      | inr h ↦ false_from_ne_true (naming.same (to.name n) t) (λ s.
          let f : to.number t ≡ Some n =
          ap to.number (sym ((good.decides (to.name n) t).0 s)) ∙ law.back n below in
          let g : n ≡ k = cc in
          false≢true (sym h ∙ eq-eqb n k g)) ∙ sym h
    ]

    put_at : {X : Type 0} (d : X) (n : ℕ) (x : X) (f : ℕ → X) (t : M) (o : Option ℕ) → n < to.count
        → to.number t ≡ o → cond (naming.same (to.name n) t) x (value_at d f o)
        ≡ value_at d (put (numbers order) n x f) o
    put_at d n x f t None below e = ap (λ b. cond b x d) (same_at n t None below e)
    put_at d n x f t (Some k) below e = ap (λ b. cond b x (f k)) (same_at n t (Some k) below e)

    -- a function changed at a number, under the names, is the function changed at the name
    pub put_by_name : {X : Type 0} (d : X) (n : ℕ) (x y : X) (f : ℕ → X) → n < to.count → x ≡ y
        → (λ t. value_at d (put (numbers order) n x f) (to.number t))
        ≡ put naming (to.name n) y (λ t. value_at d f (to.number t))
    put_by_name d n x y f below e =
        sym (fun_ext (λ t. put_at d n x f t (to.number t) below refl))
        ∙ ap (λ z. put naming (to.name n) z (λ t. value_at d f (to.number t))) e

  module _ (r : Records ℕ) where
    pub cell_at_name : (k : ℕ) → k < to.count → (named_records to r).cell (to.name k) ≡ r.cell k
    cell_at_name k below = value_at_name idle r.cell k below

    pub state_at_name : (k : ℕ) → k < to.count
        → target_state (named_records to r) (to.name k) ≡ target_state r k
    state_at_name k below = ap (λ (c : Cell). c.state) (cell_at_name k below)

    pub file_at_name : (k : ℕ) → k < to.count
        → has_file (named_records to r) (to.name k) ≡ has_file r k
    file_at_name k below = ap (λ (c : Cell). is_some c.file) (cell_at_name k below)

    pub mark_at_name : (k : ℕ) → k < to.count
        → mark_of (named_records to r) (to.name k) ≡ mark_of r k
    mark_at_name k below = ap (λ (c : Cell). mark_in c.state c) (cell_at_name k below)

    pub change_at_names : (k m : ℕ) → k < to.count → m < to.count
        → (named_records to r).rows.change (to.name k) (to.name m) ≡ r.rows.change k m
    change_at_names k m bk bm =
        row_at_name None r.rows.change k (to.name m) bk ∙ value_at_name None (r.rows.change k) m bm

    pub created_at_names : (k m : ℕ) → k < to.count → m < to.count
        → (named_records to r).rows.created (to.name k) (to.name m) ≡ r.rows.created k m
    created_at_names k m bk bm =
        row_at_name false r.rows.created k (to.name m) bk
        ∙ value_at_name false (r.rows.created k) m bm

    pub target_to_name : (k : ℕ) → k < to.count → IsTarget r k
        → IsTarget (named_records to r) (to.name k)
    target_to_name k below is e = is (sym (state_at_name k below) ∙ e)

    pub target_from_name : (k : ℕ) → k < to.count → IsTarget (named_records to r) (to.name k)
        → IsTarget r k
    target_from_name k below is e = is (state_at_name k below ∙ e)

    module _ (within : IsWithin to.count r) where
      reason_in : (k : ℕ) → k < to.count → (state : TargetState) → ReasonIn state r k
          → ReasonIn state (named_records to r) (to.name k)
      reason_in k below Idle h = absurd h
      reason_in k below Built (inl d) =
          inl (λ f. d (sym (ap (λ (c : Cell). c.file) (cell_at_name k below)) ∙ f
          ∙ ap (λ (c : Cell). c.done) (cell_at_name k below)))
      reason_in k below Built (inr (inl e)) =
          inr (inl (value_at_name false r.rows.always k below ∙ e))
      reason_in k below Built (inr (inr (inl (n, e, f)))) =
          let both = within.createds k n e in
          inr
          (inr (inl (to.name n, created_at_names k n both.0 both.1 ∙ e, file_at_name n both.1 ∙ f)))
      reason_in k below Built (inr (inr (inr (n, mark, e, d)))) =
          let both = within.changes k n (ap is_some e) in
          inr (inr (inr (
            to.name n,
            mark,
            change_at_names k n both.0 both.1 ∙ e,
            λ f. d (f ∙ mark_at_name n both.1),
          )))
      reason_in k below state h = tt

      reason_to_name : (k : ℕ) → k < to.count → HasReason r k
          → HasReason (named_records to r) (to.name k)
      reason_to_name k below h =
          subst (λ state. ReasonIn state (named_records to r) (to.name k))
          (sym (state_at_name k below)) (reason_in k below (target_state r k) h)

      pub chain_to_names : (k : ℕ) (ns : List ℕ) → k < to.count
          → Chain (Depends r) (HasReason r) k ns
          → Chain (Depends (named_records to r)) (HasReason (named_records to r)) (to.name k)
          (map to.name ns)
      chain_to_names k [] below h = reason_to_name k below h
      chain_to_names k (n ∷ ns) below ((is, has), rest) =
          let both = within.changes k n has in (
            (target_to_name k below is, ap is_some (change_at_names k n both.0 both.1) ∙ has),
            chain_to_names n ns both.1 rest,
          )

      reason_from : (k : ℕ) → k < to.count → (state : TargetState)
          → ReasonIn state (named_records to r) (to.name k) → ReasonIn state r k
      reason_from k below Idle h = absurd h
      reason_from k below Built (inl d) =
          inl (λ f. d (ap (λ (c : Cell). c.file) (cell_at_name k below) ∙ f
          ∙ sym (ap (λ (c : Cell). c.done) (cell_at_name k below))))
      reason_from k below Built (inr (inl e)) =
          inr (inl (sym (value_at_name false r.rows.always k below) ∙ e))
      reason_from k below Built (inr (inr (inl (t, e, f)))) =
          let (n, is, row) =
          number_where to.number (λ b. b) false (r.rows.created k) t (to.number t) refl refl
          (sym (row_at_name false r.rows.created k t below) ∙ e) in
          inr (inr (inl (n, row, sym (ap (λ o. is_some (value_at idle r.cell o).file) is) ∙ f)))
      reason_from k below Built (inr (inr (inr (t, mark, e, d)))) =
          let (n, is, row) =
          number_where to.number is_some None (r.rows.change k) t (to.number t) refl refl
          (ap is_some (sym (row_at_name None r.rows.change k t below) ∙ e)) in
          inr (inr (inr (
            n,
            mark,
            sym (ap (value_at None (r.rows.change k)) is)
                ∙ sym (row_at_name None r.rows.change k t below) ∙ e,
            λ f. d (f
                ∙ sym
                (ap (λ o. mark_in (value_at idle r.cell o).state (value_at idle r.cell o)) is)),
          )))
      reason_from k below state h = tt

      reason_from_name : (k : ℕ) → k < to.count → HasReason (named_records to r) (to.name k)
          → HasReason r k
      reason_from_name k below h =
          reason_from k below (target_state r k) (subst
          (λ state. ReasonIn state (named_records to r) (to.name k)) (state_at_name k below) h)

      -- a chain of numbers for one of names, as long
      pub chain_from_names : (ts : List M) (k : ℕ) → k < to.count
          → Chain (Depends (named_records to r)) (HasReason (named_records to r)) (to.name k) ts
          → (ns : List ℕ) × Chain (Depends r) (HasReason r) k ns × (length ns ≡ length ts)
      chain_from_names [] k below h = ([], reason_from_name k below h, refl)
      chain_from_names (t ∷ ts) k below ((is, has), rest) =
          let (n, number, row) =
          number_where to.number is_some None (r.rows.change k) t (to.number t) refl refl
          (sym (ap is_some (row_at_name None r.rows.change k t below)) ∙ has) in
          let (ns, chain, same) =
          chain_from_names ts n (law.below t n number)
          (subst (λ u. Chain (Depends (named_records to r)) (HasReason (named_records to r)) u ts)
          (sym (law.forth t n number)) rest) in
          (n ∷ ns, ((target_from_name k below is, row), chain), omega (arith, same))

      pub out_to_name : (k : ℕ) → k < to.count → OutOfDate r k
          → OutOfDate (named_records to r) (to.name k)
      out_to_name k below (ns, chain) = (map to.name ns, chain_to_names k ns below chain)

      pub out_from_name : (k : ℕ) → k < to.count → OutOfDate (named_records to r) (to.name k)
          → OutOfDate r k
      out_from_name k below (ts, chain) =
          let (ns, there, same) = chain_from_names ts k below chain in (ns, there)
