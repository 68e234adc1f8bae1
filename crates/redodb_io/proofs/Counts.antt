-- A failure changes the count, and makes it greater than 0.
use Rattle.std.proofs.Common.{◌≡◌, ◌+◌, ℕ, Bool, true, false, not, ◌||◌, ◌==◌, refl, sym, ◌∙◌, subst, eq-eqb, ne_eqb, arith}
use Rattle.std.specs.Prelude.{IsTrue}
use Rattle.std.proofs.lemmas.Bool.{both_ways, cond_both, eqb-true, not_from_true, not_from_false, or_right}
use Rattle.redodb_io.specs.Support.Counts.{counted, one_more}

another : (n : ℕ) → one_more n ≡ n → ⊥
another n =
    cond_both (n == 18446744073709551615) 1 (n + 1) (λ next. next ≡ n → ⊥)
    (λ most same. omega (arith, eqb-true n 18446744073709551615 most, same))
    (λ less same. omega (arith, same))

some : (n : ℕ) → one_more n ≡ 0 → ⊥
some n =
    cond_both (n == 18446744073709551615) 1 (n + 1) (λ next. next ≡ 0 → ⊥)
    (λ most same. omega (arith, same))
    (λ less same. omega (arith, same))

or_false : (b : Bool) → b ≡ (b || false)
or_false true = refl
or_false false = refl

-- a count that stays the same isn't another
pub same_count : (n : ℕ) → not (n == n) ≡ false
same_count n = not_from_true (n == n) (eq-eqb n n refl)

-- a count that stays the same shows no failure
pub none_failed : (before after : ℕ) → after ≡ before → IsTrue (not (after == before)) → ⊥
none_failed before after same failed =
    both_ways (not (after == before))
    (subst (λ (count : ℕ). not (count == before) ≡ false) (sym same) (same_count before)) failed

-- the count changes exactly if there was a failure
pub count_changes : (failed : Bool) (n : ℕ) → not (counted failed n == n) ≡ failed
count_changes true n = not_from_false (one_more n == n) (ne_eqb (one_more n) n (another n))
count_changes false n = same_count n

-- the count is 0 exactly if it was, and there was no failure
pub count_is_some : (failed : Bool) (n : ℕ)
    → not (counted failed n == 0) ≡ (not (n == 0) || failed)
count_is_some true n =
    not_from_false (one_more n == 0) (ne_eqb (one_more n) 0 (some n))
    ∙ sym (or_right (not (n == 0)) true refl)
count_is_some false n = or_false (not (n == 0))
