-- Moving a line that may come next to the beginning. Each line has a ticket: a counter, the value
-- at which it comes, and by how much it increases the counter (1 or 0).
use Rattle.std.proofs.Common.{◌≡◌, ◌≢◌, ℕ, ◌+◌, ◌≤◌, ◌⊎◌, eqb, cond, List, [], ◌∷◌, Bool, true, false, filter, refl, sym, ap, ◌∙◌, subst, inl, inr, arith, eq-eqb, ne_eqb}
use Rattle.std.specs.Prelude.{Decides}
use Rattle.std.proofs.lemmas.Bool.{cases_Bool, false≢true}
use mathlib.Core.Logic.{dite}
use native.Mathlib.Decide.{ℕ_discrete}

pub record Ticket (K : Type 0) : Type 0 where
  pub counter : K
  pub value : ℕ
  pub step : ℕ

pub record Tickets (L K : Type 0) : Type 0 where
  pub session : L → ℕ
  pub ticket : L → Ticket K
  pub same : K → K → Bool
  pub decides : (a b : K) → Decides (same a b) (a ≡ b)

pub cond_same : {A : Type 0} (a b : ℕ) (x y : A) → a ≡ b → cond (eqb a b) x y ≡ x
cond_same a b x y e = ap (λ t. cond t x y) (eq-eqb a b e)

pub cond_other : {A : Type 0} (a b : ℕ) (x y : A) → a ≢ b → cond (eqb a b) x y ≡ y
cond_other a b x y n = ap (λ t. cond t x y) (ne_eqb a b n)

abbrev pub In : {E : Type 0} → E → List E → Type 0
In x [] = ⊥
In x (y ∷ ys) = (y ≡ x) ⊎ In x ys

pub in_cond : {E : Type 0} (b : Bool) (x y : E) (ys : List E) → In x (cond b (y ∷ ys) ys)
    → (y ≡ x) ⊎ In x ys
in_cond true x y ys h = h
in_cond false x y ys h = inr h

pub cond_in : {E : Type 0} (b : Bool) (x y : E) (ys : List E) → In x ys → In x (cond b (y ∷ ys) ys)
cond_in true x y ys h = inr h
cond_in false x y ys h = h

module _ {L K : Type 0} (t : Tickets L K) where
  abbrev pub part : ℕ → List L → List L
  part s ls = filter (λ line. eqb (t.session line) s) ls

  -- the lines but for the first of session s
  abbrev pub without : ℕ → List L → List L
  without s [] = []
  without s (line ∷ lines) = cond (eqb (t.session line) s) lines (line ∷ without s lines)

  -- the counters after a line
  abbrev pub after : (K → ℕ) → L → K → ℕ
  after counts l k = counts k + cond (t.same k (t.ticket l).counter) (t.ticket l).step 0

  abbrev pub Comes : (K → ℕ) → L → Type 0
  Comes counts l = counts (t.ticket l).counter ≡ (t.ticket l).value

  abbrev pub AllCome : (K → ℕ) → List L → Type 0
  AllCome counts [] = Unit {0}
  AllCome counts (line ∷ lines) = Comes counts line × AllCome (after counts line) lines

  -- no line that keeps the counter at the value of `next` is left, if `next` increases it
  abbrev pub Free : (ℕ → List L) → L → Type 0
  Free lists next =
      (u : ℕ) (x : L) → In x (lists u) → (t.ticket x).counter ≡ (t.ticket next).counter
      → (t.ticket x).value ≡ (t.ticket next).value → (t.ticket x).step ≡ 0
      → (t.ticket next).step ≡ 0

  -- two lines whose order does not matter: of two counters, or neither changes its counter
  abbrev pub Apart : L → L → Type 0
  Apart x next =
      ((t.ticket x).counter ≢ (t.ticket next).counter)
      ⊎ (((t.ticket x).step ≡ 0) × ((t.ticket next).step ≡ 0))

  pub step_same : (a b : K) (x : ℕ) → a ≡ b → cond (t.same a b) x 0 ≡ x
  step_same a b x e = ap (λ z. cond z x 0) ((t.decides a b).1 e)

  pub step_other : (a b : K) (x : ℕ) → a ≢ b → cond (t.same a b) x 0 ≡ 0
  step_other a b x n = elim (cases_Bool (t.same a b)) [
    | inl e ↦ absurd (n ((t.decides a b).0 e))
    | inr e ↦ ap (λ z. cond z x 0) e
  ]

  pub known : (a b : K) → (a ≡ b) ⊎ (a ≢ b)
  known a b = elim (cases_Bool (t.same a b)) [
    | inl e ↦ inl ((t.decides a b).0 e)
    | inr e ↦ inr (λ q. false≢true (sym e ∙ (t.decides a b).1 q))
  ]

  pub part-own : (s : ℕ) (line : L) (lines : List L) → t.session line ≡ s
      → part s (line ∷ lines) ≡ line ∷ part s lines
  part-own s line lines e = cond_same (t.session line) s (line ∷ part s lines) (part s lines) e

  pub part-other : (s : ℕ) (line : L) (lines : List L) → t.session line ≢ s
      → part s (line ∷ lines) ≡ part s lines
  part-other s line lines n = cond_other (t.session line) s (line ∷ part s lines) (part s lines) n

  pub part_without : (s : ℕ) (next : L) (rest : List L) (lines : List L)
      → part s lines ≡ next ∷ rest
      → part s (without s lines) ≡ rest
  part_without s next rest [] h = absurd (cc)
  part_without s next rest (line ∷ lines) h = dite (ℕ_discrete (t.session line) s)
      (λ q. let a = part-own s line lines q in
      let b = cond_same (t.session line) s lines (line ∷ without s lines) q in
      ap (part s) b ∙ cc)
      (λ n. ap (part s) (cond_other (t.session line) s lines (line ∷ without s lines) n)
      ∙ part-other s line (without s lines) n
      ∙ part_without s next rest lines (sym (part-other s line lines n) ∙ h))

  pub part_without_other : (s u : ℕ) (lines : List L) → u ≢ s
      → part u (without s lines) ≡ part u lines
  part_without_other s u [] ne = refl
  part_without_other s u (line ∷ lines) ne = dite (ℕ_discrete (t.session line) s)
      (λ q. ap (part u) (cond_same (t.session line) s lines (line ∷ without s lines) q)
      ∙ sym (part-other u line lines (λ z. ne (sym z ∙ q))))
      (λ n. ap (part u) (cond_other (t.session line) s lines (line ∷ without s lines) n)
      ∙ ap (λ z. cond (eqb (t.session line) u) (line ∷ z) z) (part_without_other s u lines ne))

  -- a line that is still to come comes at no lower value
  pub later : (counts : K → ℕ) (u : ℕ) (x : L) (lines : List L) → AllCome counts lines
      → In x (part u lines)
      → counts (t.ticket x).counter ≤ (t.ticket x).value
  later counts u x [] p h = absurd h
  later counts u x (line ∷ lines) p h =
      elim (in_cond (eqb (t.session line) u) x line (part u lines) h) [
        | inl e ↦ let a : counts (t.ticket x).counter
            ≡ (t.ticket x).value = subst (λ y. counts (t.ticket y).counter ≡ (t.ticket y).value) e
            p.0 in
            omega arith
        | inr k
            ↦ let a : counts (t.ticket x).counter + cond
            (t.same (t.ticket x).counter (t.ticket line).counter) (t.ticket line).step 0 ≤
            (t.ticket x).value = later (after counts line) u x lines p.1 k in
            omega arith
      ]

  pub no_move : (x next : L) → Apart x next
      → cond (t.same (t.ticket x).counter (t.ticket next).counter) (t.ticket next).step 0 ≡ 0
  no_move x next (inl n) =
      step_other (t.ticket x).counter (t.ticket next).counter (t.ticket next).step n
  no_move x next (inr p) = elim (known (t.ticket x).counter (t.ticket next).counter) [
    | inl q ↦ step_same (t.ticket x).counter (t.ticket next).counter (t.ticket next).step q ∙ p.1
    | inr n ↦ step_other (t.ticket x).counter (t.ticket next).counter (t.ticket next).step n
  ]

  pub apart_sym : (x next : L) → Apart x next → Apart next x
  apart_sym x next (inl n) = inl (λ q. n (sym q))
  apart_sym x next (inr p) = inr (p.1, p.0)

  pub after_swap : (counts : K → ℕ) (x next : L)
      → after (after counts x) next ≡ after (after counts next) x
  after_swap counts x next = λ i k. swap k i
    where
      swap : (k : K) → after (after counts x) next k ≡ after (after counts next) x k
      swap k = omega arith

  -- x comes before `next` in an order, and `next` may come now
  pub apart : (counts : K → ℕ) (x next : L) → Comes counts x → Comes counts next
      → counts (t.ticket next).counter + cond (t.same (t.ticket next).counter (t.ticket x).counter)
      (t.ticket x).step 0 ≤ (t.ticket next).value
      →
      ((t.ticket x).counter ≡ (t.ticket next).counter
      → (t.ticket x).value ≡ (t.ticket next).value
      → (t.ticket x).step ≡ 0 → (t.ticket next).step ≡ 0)
      → Apart x next
  apart counts x next cx ce le free = elim (known (t.ticket x).counter (t.ticket next).counter) [
    | inl q
        ↦ let a = step_same (t.ticket next).counter (t.ticket x).counter (t.ticket x).step
        (sym q) in
        let z : (t.ticket x).step ≡ 0 = omega arith in
        inr (z, free q (sym cx ∙ ap counts q ∙ ce) z)
    | inr n ↦ inl n
  ]

  module _ (next : L) where
    -- how an earlier line of another session relates to `next`
    pub apart_first : (counts : K → ℕ) (line : L) (lines : List L) (rest : List L)
        → t.session line ≢ t.session next
        → AllCome counts (line ∷ lines) → part (t.session next) (line ∷ lines) ≡ next ∷ rest
        → Comes counts next
        → Free (λ u. part u (line ∷ lines)) next → Apart line next
    apart_first counts line lines rest n p h ce free =
        let h2 : part (t.session next) lines ≡ next ∷ rest =
        sym (part-other (t.session next) line lines n) ∙ h in
        apart counts line next p.0 ce
        (later (after counts line) (t.session next) next lines p.1
        (subst (In next) (sym h2) (inl refl)))
        (free (t.session line) line
        (subst (In line) (sym (part-own (t.session line) line lines refl)) (inl refl)))

    pub free_rest : (line : L) (lines : List L) → Free (λ u. part u (line ∷ lines)) next
        → Free (λ u. part u lines) next
    free_rest line lines free u x h =
        free u x (cond_in (eqb (t.session line) u) x line (part u lines) h)

    -- the rest comes after `next`
    pub all_come_without : (counts : K → ℕ) (lines : List L) (rest : List L) → AllCome counts lines
        → part (t.session next) lines ≡ next ∷ rest → Comes counts next
        → Free (λ u. part u lines) next
        → AllCome (after counts next) (without (t.session next) lines)
    all_come_without counts [] rest p h ce free = absurd (cc)
    all_come_without counts (line ∷ lines) rest p h ce free =
        dite (ℕ_discrete (t.session line) (t.session next))
        (λ q. let a = part-own (t.session next) line lines q in let b : line ≡ next = cc in
        subst (AllCome (after counts next))
        (sym
        (cond_same (t.session line) (t.session next) lines
        (line ∷ without (t.session next) lines)
        q))
        (subst (λ x. AllCome (after counts x) lines) b p.1))
        (λ n. let z = apart_first counts line lines rest n p h ce free in
        let za = no_move line next z in
        let zb = no_move next line (apart_sym line next z) in
        let cx = p.0 in
        let ih =
        all_come_without (after counts line) lines rest p.1
        (sym (part-other (t.session next) line lines n) ∙ h)
        (omega arith) (free_rest line lines free) in
        subst (AllCome (after counts next))
        (sym
        (cond_other (t.session line) (t.session next) lines
        (line ∷ without (t.session next) lines) n)) (
          omega arith,
          subst (λ d. AllCome d (without (t.session next) lines)) (after_swap counts line next)
              ih,
        ))
