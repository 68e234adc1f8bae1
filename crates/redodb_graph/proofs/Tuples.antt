-- Pairs of numbers, as the code compares them.
use Rattle.std.proofs.Common.{◌≡◌, ◌&&◌, ℕ, ◌<◌, Bool, true, refl, ap, ◌∙◌, inl, inr, arith}
use Rattle.std.specs.Prelude.{nat_eq}
use Rattle.std.specs.Cmp.{IsTotalOrder}
use Rattle.std.specs.Ordering.{nat_cmp, ordering_then}
use Rattle.std.specs.declared.cmp.Ordering.{Ordering}
use Rattle.std.specs.declared.cmp.Ordering.TheVariants.{Less, Equal}
use Rattle.std.proofs.lemmas.Bool.{and_parts, eqb-true}
use Rattle.std.proofs.lemmas.Cmp.{ranked, by_ranked, nat_cmp_total, on_total, then_total}
use Rattle.redodb_graph.specs.Pairs.{ComesBefore}

abbrev pub pair_cmp : ℕ × ℕ → ℕ × ℕ → Ordering
pair_cmp p q = ordering_then (nat_cmp p.0 q.0) (nat_cmp p.1 q.1)

abbrev pub pair_eq : ℕ × ℕ → ℕ × ℕ → Bool
pair_eq p q = nat_eq p.0 q.0 && nat_eq p.1 q.1

pub pair_total : IsTotalOrder pair_cmp
pair_total =
    then_total (on_total (λ (p : ℕ × ℕ). p.0) nat_cmp_total)
    (on_total (λ (p : ℕ × ℕ). p.1) nat_cmp_total)

pub same_from_eq : (p q : ℕ × ℕ) → pair_eq p q ≡ true → p ≡ q
same_from_eq (a, b) (c, d) e =
    let both = and_parts (nat_eq a c) (nat_eq b d) e in
    let first : a ≡ c = eqb-true a c both.0 in
    let second : b ≡ d = eqb-true b d both.1 in
    cc

number_less : (m n : ℕ) → m < n → nat_cmp m n ≡ Less
number_less m n less =
    by_ranked (m < n) (m ≡ n) (n < m) (nat_cmp m n) (ranked m n (nat_cmp m n) refl)
    (λ e h. e) (λ e same. absurd (omega (arith, less, same)))
    (λ e more. absurd (omega (arith, less, more)))

number_equal : (m n : ℕ) → m ≡ n → nat_cmp m n ≡ Equal
number_equal m n same =
    by_ranked (m < n) (m ≡ n) (n < m) (nat_cmp m n) (ranked m n (nat_cmp m n) refl)
    (λ e less. absurd (omega (arith, less, same))) (λ e h. e)
    (λ e more. absurd (omega (arith, more, same)))

pub less_from_before : (p q : ℕ × ℕ) → ComesBefore p q → pair_cmp p q ≡ Less
less_from_before p q before = elim before [
  | inl first ↦ ap (λ o. ordering_then o (nat_cmp p.1 q.1)) (number_less p.0 q.0 first)
  | inr second ↦
      ap (λ o. ordering_then o (nat_cmp p.1 q.1)) (number_equal p.0 q.0 second.0)
      ∙ number_less p.1 q.1 second.1
]
