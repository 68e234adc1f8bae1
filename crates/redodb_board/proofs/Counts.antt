-- What the sessions did and what their scripts have, added up.
use Rattle.std.proofs.Common.{◌≡◌, ◌≢◌, ℕ, zero, suc, ◌+◌, ◌*◌, ◌<◌, ◌≤◌, List, [], ◌∷◌, ◌++◌, length, get_or, count_by, refl, sym, ap, arith, Bool}
use Rattle.std.specs.List.{AllByRecursion}
use Rattle.std.proofs.lemmas.List.Sums.{sum_by-cons}
use Rattle.redodb_model.specs.Command.{Command, Item}
use Rattle.redodb_model.specs.Placed.{PlacedLine, part_of}
use Rattle.redodb_history_laws.proofs.Counts.{one_if}
use Rattle.redodb_history_laws.proofs.Own.{part_of-own, part_of-other}
use Rattle.redodb_board.specs.Rows.{rows_for, rows_in, rows_in_all}

abbrev pub Scripts : Type 0
Scripts = List (List (Item ℕ))

pub rows-small : (x : Command ℕ) → rows_for x ≤ 2
rows-small x = grind arith

-- a number for each session, added up
unfoldable pub total : (ℕ → ℕ) → Scripts → ℕ
total f [] = 0
total f (x ∷ xs) = f 0 + total (λ i. f (suc i)) xs

pub total-same : (f g : ℕ → ℕ) (p : Scripts) → ((i : ℕ) → f i ≡ g i) → total f p ≡ total g p
unfolding total
total-same f g [] h = refl
total-same f g (x ∷ xs) h =
    omega (arith, h 0, total-same (λ i. f (suc i)) (λ i. g (suc i)) xs (λ i. h (suc i)))

-- one session has d more
pub total-more : (f g : ℕ → ℕ) (d : ℕ) (p : Scripts) (s : ℕ) → s < length p → g s ≡ f s + d
    → ((i : ℕ) → i ≢ s → g i ≡ f i) → total g p ≡ total f p + d
unfolding total
total-more f g d [] s h e n = absurd (omega arith)
total-more f g d (x ∷ xs) zero h e n =
    let b =
    total-same (λ i. g (suc i)) (λ i. f (suc i)) xs (λ i. n (suc i) (λ q. omega arith)) in
    omega arith
total-more f g d (x ∷ xs) (suc s) h e n = let a = n 0 (λ q. omega arith) in
    let b =
    total-more (λ i. f (suc i)) (λ i. g (suc i)) d xs s (omega arith) e
    (λ i ne. n (suc i) (λ q. ne (omega arith))) in
    omega arith

-- lines: at most 12,288 of each session
pub total-few : (f : ℕ → ℕ) (p : Scripts) → ((i : ℕ) → f i ≤ 12288) → total f p ≤ 12288 * length p
unfolding total
total-few f [] h = omega arith
total-few f (x ∷ xs) h = omega (arith, h 0, total-few (λ i. f (suc i)) xs (λ i. h (suc i)))

-- if no session has more, there is no more in all
pub total-le : (f g : ℕ → ℕ) (p : Scripts) → ((i : ℕ) → i < length p → f i ≤ g i)
    → total f p ≤ total g p
unfolding total
total-le f g [] h = omega arith
total-le f g (x ∷ xs) h = let a = h 0 (omega arith) in
    let b = total-le (λ i. f (suc i)) (λ i. g (suc i)) xs (λ i l. h (suc i) (omega arith)) in
    omega arith

-- if one session has less, there is less in all
pub total-lt : (f g : ℕ → ℕ) (p : Scripts) (s : ℕ) → s < length p → f s < g s
    → ((i : ℕ) → i < length p → f i ≤ g i) → total f p < total g p
unfolding total
total-lt f g [] s l h n = absurd (omega arith)
total-lt f g (x ∷ xs) zero l h n =
    let b = total-le (λ i. f (suc i)) (λ i. g (suc i)) xs (λ i k. n (suc i) (omega arith)) in
    omega arith
total-lt f g (x ∷ xs) (suc s) l h n = let a = n 0 (omega arith) in
    let b =
    total-lt (λ i. f (suc i)) (λ i. g (suc i)) xs s (omega arith) h
    (λ i k. n (suc i) (omega arith)) in
    omega arith

-- the rows of a board are those that each script may need
pub rows-total : (p : Scripts) → rows_in_all p ≡ total (λ s. rows_in (get_or p s [])) p
unfolding total
rows-total [] = refl
rows-total (x ∷ xs) = ap (λ n. rows_in x + n) (rows-total xs)

none : (p : Scripts) → total (λ s. 0) p ≡ 0
unfolding total
none [] = refl
none (x ∷ xs) = let a = none xs in omega arith

-- the count over all lines is the sum of the counts over each session's
pub by-parts : (test : PlacedLine ℕ → Bool) (log : List (PlacedLine ℕ)) (p : Scripts)
    → AllByRecursion (λ line. line.session < length p) log
    → count_by test log ≡ total (λ s. count_by test (part_of s log)) p
by-parts test [] p all = sym (none p)
by-parts test (line ∷ lines) p all =
    let more =
    total-more (λ s. count_by test (part_of s lines))
    (λ s. count_by test (part_of s (line ∷ lines))) (one_if (test line)) p line.session all.0
    (let a = ap (count_by test) (part_of-own line.session line lines refl) in
    let one =
    sum_by-cons (λ (x : PlacedLine ℕ). one_if (test x)) line (part_of line.session lines) in
    omega arith)
    (λ s ne. ap (count_by test) (part_of-other s line lines (λ q. ne (sym q)))) in
    let one = sum_by-cons (λ (x : PlacedLine ℕ). one_if (test x)) line lines in
    let rest = by-parts test lines p all.1 in
    omega arith

rows-short : (xs : List (Item ℕ)) → rows_in xs ≤ 2 * length xs
rows-short [] = omega arith
rows-short (x ∷ xs) = let a = rows-short xs in let b = rows-small x.command in omega arith

-- a plan has at most two rows for each line
pub rows-few : (p : Scripts) → ((s : ℕ) → length (get_or p s []) ≤ 4096)
    → rows_in_all p ≤ 8192 * length p
rows-few [] h = omega arith
rows-few (x ∷ xs) h = omega (arith, h 0, rows-short x, rows-few xs (λ s. h (suc s)))

pub rows-push : (xs : List (Item ℕ)) (x : Item ℕ)
    → rows_in (xs ++ x ∷ []) ≡ rows_in xs + rows_for x.command
rows-push [] x = omega arith
rows-push (y ∷ ys) x = let a = rows-push ys x in omega arith

pub rows-push-all : (xs : Scripts) (x : List (Item ℕ))
    → rows_in_all (xs ++ x ∷ []) ≡ rows_in_all xs + rows_in x
rows-push-all [] x = omega arith
rows-push-all (y ∷ ys) x = let a = rows-push-all ys x in omega arith
