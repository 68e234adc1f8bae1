-- What is true of the lines of each session is true of all lines; and how many they are.
use Rattle.std.proofs.Common.{◌≡◌, ℕ, zero, suc, ◌+◌, ◌*◌, ◌<◌, ◌≤◌, Bool, true, false, cond, eqb, eq-eqb, List, [], ◌∷◌, length, refl, ap, subst, arith}
use Rattle.std.specs.List.{AllByRecursion}
use mathlib.Core.Logic.{dite}
use native.Mathlib.Decide.{ℕ_discrete}
use Rattle.redodb_model.specs.History.{Line, part_of}

abbrev bit : Bool → ℕ
bit b = cond b 1 0

abbrev total : ℕ → (ℕ → ℕ) → ℕ
total zero f = 0
total (suc n) f = total n f + f n

one_in : (n t : ℕ) → t < n → 1 ≤ total n (λ s. bit (eqb t s))
one_in zero t less = absurd (omega (arith, less))
one_in (suc n) t less = dite (ℕ_discrete t n)
    (λ same. let one = ap bit (eq-eqb t n same) in omega arith)
    (λ other. let before = one_in n t (omega arith) in omega arith)

total_few : (most n : ℕ) (f : ℕ → ℕ) → ((s : ℕ) → s < n → f s ≤ most) → total n f ≤ n * most
total_few most zero f few = omega arith
total_few most (suc n) f few =
    omega (arith, total_few most n f (λ s less. few s (omega arith)), few n (omega arith))

module _ {N : Type 0} where
  later : (P : Line N → Type 0) (b : Bool) (line : Line N) (part : List (Line N))
      → AllByRecursion P (cond b (line ∷ part) part) → AllByRecursion P part
  later P true line part all = all.1
  later P false line part all = all

  -- what is true of the lines of each of n sessions
  pub all_by_part : (P : Line N → Type 0) (n : ℕ) (lines : List (Line N))
      → AllByRecursion (λ line. line.session < n) lines
      → ((s : ℕ) → s < n → AllByRecursion P (part_of s lines)) → AllByRecursion P lines
  all_by_part P n [] below each = tt
  all_by_part P n (line ∷ lines) below each =
      let own = part_of line.session lines in
      let here : AllByRecursion P (line ∷ own) =
      subst (λ b. AllByRecursion P (cond b (line ∷ own) own))
      (eq-eqb line.session line.session refl) (each line.session below.0) in (
        here.0,
        all_by_part P n lines below.1
            (λ s less.
            later P (eqb line.session s) line (part_of s lines) (each s less)),
      )

  abbrev counts : List (Line N) → ℕ → ℕ
  counts lines s = length (part_of s lines)

  one_longer : (b : Bool) (line : Line N) (part : List (Line N))
      → length (cond b (line ∷ part) part) ≡ length part + bit b
  one_longer true line part = omega arith
  one_longer false line part = omega arith

  total_more : (n : ℕ) (line : Line N) (lines : List (Line N))
      → total n (counts (line ∷ lines))
      ≡ total n (counts lines) + total n (λ s. bit (eqb line.session s))
  total_more zero line lines = refl
  total_more (suc n) line lines =
      omega (arith, total_more n line lines, one_longer (eqb line.session n) line (part_of n lines))

  few_lines : (n : ℕ) (lines : List (Line N)) → AllByRecursion (λ line. line.session < n) lines
      → length lines ≤ total n (counts lines)
  few_lines n [] below = omega arith
  few_lines n (line ∷ lines) below =
      let rest = few_lines n lines below.1 in
      omega (arith, total_more n line lines, one_in n line.session below.0)

  -- n sessions, each of at most this many lines
  pub length_by_part : (most n : ℕ) (lines : List (Line N))
      → AllByRecursion (λ line. line.session < n) lines
      → ((s : ℕ) → s < n → length (part_of s lines) ≤ most) → length lines ≤ n * most
  length_by_part most n lines below few =
      omega (arith, few_lines n lines below, total_few most n (counts lines) few)
