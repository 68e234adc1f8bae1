-- Writes at one place, and rows that are written one by one: the command's effect on the records that they make up.
use Rattle.std.proofs.Common.{◌≡◌, ℕ, ◌+◌, ◌<◌, ◌==◌, Bool, true, false, cond, ◌||◌, List, Option, Some, length, get_or, set, take, refl, sym, ap, ◌∙◌, inl, inr}
use Rattle.std.proofs.Math.Path.{fun_ext}
use Rattle.std.proofs.lemmas.Bool.{cases_eq, eq-eqb, ne_eqb, or_left, or_right}
use Rattle.std.proofs.lemmas.Grind.{get_or-set_at}
use Rattle.std.proofs.lemmas.List.{get_or-set_other}
use Rattle.std.proofs.lemmas.List.Folds.{list_any_more}
use Rattle.redodb_model.specs.Command as commands
use Rattle.redodb_model.specs.State.{Mark, Records, Rows, mark_of}
use Rattle.redodb_model.specs.Step.{effect_of, is_among}
use Rattle.redodb_records.specs.Rows.{by_number, with_change, with_created}

-- a write to a list is a write to its function from places to values
pub set_is_put : {X : Type 0} (xs : List X) (i : ℕ) (x d : X) → i < length xs → (k : ℕ)
    → get_or (set xs i x) k d ≡ cond (i == k) x (get_or xs k d)
set_is_put xs i x d below k = elim (cases_eq i k) [
  | inl e ↦ get_or-set_at xs i k x d (sym e) below
      ∙ ap (λ (b : Bool). cond b x (get_or xs k d)) (sym (eq-eqb i k e))
  | inr ne ↦ get_or-set_other xs i k x d (λ e. ne (sym e))
      ∙ ap (λ (b : Bool). cond b x (get_or xs k d)) (sym (ne_eqb i k ne))
]

-- of two values put at one place the second stays
put_again : {X : Type 0} (b : Bool) (x y z : X) → cond b x (cond b y z) ≡ cond b x z
put_again true x y z = refl
put_again false x y z = refl

or_false : (b : Bool) → b || false ≡ b
or_false true = refl
or_false false = refl

-- the value x at n, over the values y where b is true
one_more : {X : Type 0} (n k : ℕ) (b : Bool) (x y z : X) → (n ≡ k → x ≡ y)
    → cond (n == k) x (cond b y z) ≡ cond (b || (n == k)) y z
one_more n k b x y z same = elim (cases_eq n k) [
  | inl e ↦ ap (λ c. cond c x (cond b y z)) (eq-eqb n k e) ∙ same e
      ∙ ap (λ c. cond c y z) (sym (or_right b true refl)) ∙ ap (λ c. cond (b || c) y z) (sym (eq-eqb n k e))
  | inr ne ↦ ap (λ c. cond c x (cond b y z)) (ne_eqb n k ne)
      ∙ ap (λ c. cond c y z) (sym (or_false b)) ∙ ap (λ c. cond (b || c) y z) (sym (ne_eqb n k ne))
]

-- the value `true` at n, over those where b is true
true_more : (n k : ℕ) (a b : Bool) → cond (n == k) true (a || b) ≡ (a || (n == k)) || b
true_more n k a b = elim (cases_eq n k) [
  | inl e ↦ ap (λ c. cond c true (a || b)) (eq-eqb n k e) ∙ sym (or_left (a || true) b (or_right a true refl))
      ∙ ap (λ c. (a || c) || b) (sym (eq-eqb n k e))
  | inr ne ↦ ap (λ c. cond c true (a || b)) (ne_eqb n k ne) ∙ ap (λ c. c || b) (sym (or_false a))
      ∙ ap (λ c. (a || c) || b) (sym (ne_eqb n k ne))
]

module _ (r : Records ℕ) (s : ℕ) (t : ℕ) (ns : List ℕ) (i : ℕ) (below : i < length ns)
    (before now : Rows ℕ) where
  -- one change row more than on the names before
  pub change_more : (mark : Mark)
      → record r { rows = before } ≡ effect_of by_number r s (commands.IfChange t (take i ns))
      → now ≡ with_change before t (get_or ns i 0) mark → mark ≡ mark_of r (get_or ns i 0)
      → record r { rows = now } ≡ effect_of by_number r s (commands.IfChange t (take (i + 1) ns))
  change_more mark so_far written marked =
      let n : ℕ = get_or ns i 0 in
      let among : ℕ → Bool = is_among by_number (take i ns) in
      let old : Rows ℕ = r.rows in
      let put_so_far : ℕ → Option Mark =
      λ k. cond (among k) (Some (mark_of r k)) (old.change t k) in
      let put_now : ℕ → Option Mark =
      λ k. cond (is_among by_number (take (i + 1) ns) k) (Some (mark_of r k)) (old.change t k) in
      let more : (λ (k : ℕ). cond (n == k) (Some mark) (put_so_far k)) ≡ put_now =
      fun_ext (λ k. one_more n k (among k) (Some mark) (Some (mark_of r k)) (old.change t k)
      (λ e. ap Some (marked ∙ ap (mark_of r) e)) ∙ ap (λ b. cond b (Some (mark_of r k))
      (old.change t k)) (sym (list_any_more (λ (m : ℕ). m == k) ns i 0 below)))
      in
      let change : (with_change (effect_of by_number r s (commands.IfChange t (take i ns))).rows t n
      mark).change ≡ (λ (u : ℕ). cond (t == u) put_now (old.change u)) =
      fun_ext (λ u.
      put_again (t == u) (λ (k : ℕ). cond (n == k) (Some mark)
      (cond (t == t) put_so_far (old.change t) k)) put_so_far (old.change u)
      ∙ ap (λ b. cond (t == u) (λ (k : ℕ). cond (n == k) (Some mark)
      (cond b put_so_far (old.change t) k)) (old.change u)) (eq-eqb t t refl)
      ∙ ap (λ (f : ℕ → Option Mark). cond (t == u) f (old.change u)) more)
      in
      ap (λ (rows : Rows ℕ). record r { rows = rows })
      (written ∙ ap (λ (x : Records ℕ). with_change x.rows t n mark) so_far)
      ∙ (λ j. record r { rows = record old { change = change j } })

  -- one created row more than on the names before
  pub created_more : record r { rows = before }
      ≡ effect_of by_number r s (commands.IfCreate t (take i ns))
      → now ≡ with_created before t (get_or ns i 0)
      → record r { rows = now } ≡ effect_of by_number r s (commands.IfCreate t (take (i + 1) ns))
  created_more so_far written =
      let n : ℕ = get_or ns i 0 in
      let among : ℕ → Bool = is_among by_number (take i ns) in
      let old : Rows ℕ = r.rows in
      let put_so_far : ℕ → Bool = λ k. among k || old.created t k in
      let put_now : ℕ → Bool = λ k. is_among by_number (take (i + 1) ns) k || old.created t k in
      let more : (λ (k : ℕ). cond (n == k) true (put_so_far k)) ≡ put_now =
      fun_ext (λ k. true_more n k (among k) (old.created t k)
      ∙ ap (λ b. b || old.created t k) (sym (list_any_more (λ (m : ℕ). m == k) ns i 0 below)))
      in
      let created : (with_created (effect_of by_number r s (commands.IfCreate t (take i ns))).rows t
      n).created ≡ (λ (u : ℕ). cond (t == u) put_now (old.created u)) =
      fun_ext (λ u.
      put_again (t == u) (λ (k : ℕ). cond (n == k) true
      (cond (t == t) put_so_far (old.created t) k)) put_so_far (old.created u)
      ∙ ap (λ b. cond (t == u) (λ (k : ℕ). cond (n == k) true (cond b put_so_far (old.created t) k))
      (old.created u)) (eq-eqb t t refl)
      ∙ ap (λ (f : ℕ → Bool). cond (t == u) f (old.created u)) more)
      in
      ap (λ (rows : Rows ℕ). record r { rows = rows })
      (written ∙ ap (λ (x : Records ℕ). with_created x.rows t n) so_far)
      ∙ (λ j. record r { rows = record old { created = created j } })
