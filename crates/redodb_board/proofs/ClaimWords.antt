-- Claim words, and how a grant and a release change them.
use Rattle.std.proofs.Common.{◌≡◌, ◌≢◌, ℕ, ◌+◌, ◌-◌, ◌*◌, ◌/◌, ◌%◌, max, ◌<◌, ◌≤◌, eqb, cond, true, false, Option, Some, None, refl, sym, ap, ◌∙◌, arith, inl, inr, eq-eqb, ne_eqb, eqb-true}
use Rattle.std.specs.Int.Bits.{bit_or, or_step, or_zero_r}
use Rattle.std.proofs.lemmas.Bool.{cases_Bool}
use Rattle.redodb_model.specs.Names.{numbers}
use Rattle.redodb_model.specs.State.{Locks}
use Rattle.redodb_model.specs.Reply.{Reply}
use Rattle.redodb_model.specs.Reply as replies
use Rattle.redodb_model.specs.Step.{lock_reply, locks_granted, locks_freed}
use Rattle.redodb_model.specs.Placed.{Place, Granted, Busy, is_row}
use Rattle.redodb_board.specs.Core.{claim_word, claim_of, claim_place}
use Rattle.redodb_board.specs.Support.Plays.{lock_said, lock_place}

or-bit : (n : ℕ) → bit_or n 1 ≡ n / 2 * 2 + max (n % 2) 1
or-bit n = or_step n 1 ∙ ap (λ x. x * 2 + max (n % 2) 1) (or_zero_r (n / 2))

pub or-even : (n : ℕ) → n % 2 ≡ 0 → bit_or n 1 ≡ n + 1
or-even n e = let a = or-bit n in let b : max (n % 2) 1 ≡ 1 = omega arith in omega arith

pub or-odd : (n : ℕ) → n % 2 ≢ 0 → bit_or n 1 ≡ n
or-odd n e = let a = or-bit n in let b : max (n % 2) 1 ≡ 1 = omega arith in omega arith

-- a holder was granted the lock
abbrev pub Counted : Option ℕ → ℕ → Type 0
Counted a g = (h : ℕ) → a ≡ Some h → 0 < g

pub claim_no_row : (t g : ℕ) (a : Option ℕ) → is_row (claim_place a g t) ≡ false
claim_no_row t g None = refl
claim_no_row t g (Some h) = refl

-- the word that a lock found gives its reply and its place
pub lock-is : (u : ℕ) (a : Option ℕ) (g : ℕ) → Counted a g
    → ◌≡◌ {A = Reply ℕ × Place ℕ} (lock_reply a g, claim_place a g u)
    (lock_said (claim_word a g), lock_place u (claim_word a g))
lock-is u None g o =
    let n : ℕ = 2 * g in
    let e : g + 1 ≡ n / 2 + 1 = omega arith in
    let b : eqb (n % 2) 0 ≡ true = eq-eqb (n % 2) 0 (omega arith) in
    (λ i. (replies.Granted (e i), Granted u (e i)))
    ∙ sym
    (λ i. (
      cond (b i) (replies.Granted (n / 2 + 1)) (replies.Busy (n / 2 + 1)),
      cond (b i) (Granted u (n / 2 + 1)) (Busy u (n / 2 + 1)),
    ))
lock-is u (Some h) g o =
    let n : ℕ = 2 * g - 1 in
    let some = o h refl in
    let e : g ≡ n / 2 + 1 = omega arith in
    let b : eqb (n % 2) 0 ≡ false = ne_eqb (n % 2) 0 (λ q. absurd (omega arith)) in
    (λ i. (replies.Busy (e i), Busy u (e i)))
    ∙ sym
    (λ i. (
      cond (b i) (replies.Granted (n / 2 + 1)) (replies.Busy (n / 2 + 1)),
      cond (b i) (Granted u (n / 2 + 1)) (Busy u (n / 2 + 1)),
    ))

pub free-is : (h g : ℕ) → 0 < g → g ≡ claim_word (Some h) g / 2 + 1
free-is h g some = omega arith

module _ (order : ℕ → ℕ → Rattle.std.specs.declared.cmp.Ordering.Ordering) (locks : Locks ℕ)
    (s u : ℕ) where
  pub claims-locked : (v : ℕ) (a : Option ℕ) → locks.holder u ≡ a → Counted a (locks.grants u)
      → claim_of (locks_granted (numbers order) a locks s u) v
      ≡ cond (eqb u v) (bit_or (claim_of locks u) 1) (claim_of locks v)
  claims-locked v None is o = elim (cases_Bool (eqb u v)) [
    | inl e ↦
        let n : claim_of locks u ≡ 2 * locks.grants u =
        ap (λ a. claim_word a (locks.grants u)) is in
        let now : bit_or (claim_of locks u) 1 ≡ 2 * (locks.grants u + 1) - 1 =
        let z = or-even (claim_of locks u) (omega arith) in
        omega arith in
        ap
        (λ b. claim_word (cond b (Some s) (locks.holder v))
        (cond b (locks.grants u + 1) (locks.grants v)))
        e
        ∙ sym (ap (λ b. cond b (bit_or (claim_of locks u) 1) (claim_of locks v)) e ∙ now)
    | inr e
        ↦ ap
        (λ b. claim_word (cond b (Some s) (locks.holder v))
        (cond b (locks.grants u + 1) (locks.grants v)))
        e
        ∙ sym (ap (λ b. cond b (bit_or (claim_of locks u) 1) (claim_of locks v)) e)
  ]
  claims-locked v (Some h) is o = elim (cases_Bool (eqb u v)) [
    | inl e ↦
        let some = o h refl in
        let n : claim_of locks u ≡ 2 * locks.grants u - 1 =
        ap (λ a. claim_word a (locks.grants u)) is in
        let now : bit_or (claim_of locks u) 1 ≡ claim_of locks u =
        or-odd (claim_of locks u) (λ q. absurd (omega arith)) in
        ap (claim_of locks) (sym (eqb-true u v e))
        ∙ sym (ap (λ b. cond b (bit_or (claim_of locks u) 1) (claim_of locks v)) e ∙ now)
    | inr e ↦ sym (ap (λ b. cond b (bit_or (claim_of locks u) 1) (claim_of locks v)) e)
  ]

  pub claims-freed : (v h : ℕ) → locks.holder u ≡ Some h → 0 < locks.grants u
      → claim_of (locks_freed (numbers order) locks u) v
      ≡ cond (eqb u v) (claim_of locks u + 1) (claim_of locks v)
  claims-freed v h is some = elim (cases_Bool (eqb u v)) [
    | inl e ↦
        let n : claim_of locks u ≡ 2 * locks.grants u - 1 =
        ap (λ a. claim_word a (locks.grants u)) is in
        let now : claim_of locks u + 1 ≡ 2 * locks.grants u = omega arith in
        ap (λ b. claim_word (cond b None (locks.holder v)) (locks.grants v)) e
        ∙ ap (λ m. 2 * locks.grants m) (sym (eqb-true u v e))
        ∙ sym (ap (λ b. cond b (claim_of locks u + 1) (claim_of locks v)) e ∙ now)
    | inr e ↦ ap (λ b. claim_word (cond b None (locks.holder v)) (locks.grants v)) e
        ∙ sym (ap (λ b. cond b (claim_of locks u + 1) (claim_of locks v)) e)
  ]

-- a claim word is at most twice the grants
pub claim-small : (a : Option ℕ) (g : ℕ) → claim_word a g ≤ 2 * g
claim-small None g = omega arith
claim-small (Some h) g = omega arith
