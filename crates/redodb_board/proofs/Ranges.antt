-- Fresh seats: ranges of sessions, and how they are cut.
use Rattle.std.proofs.Common.{◌≡◌, ◌≢◌, ℕ, zero, suc, ◌+◌, ◌-◌, ◌<◌, ◌≤◌, lt-ltb, le-ltb, List, [], ◌∷◌, ◌++◌, length, get_or, refl, sym, ap, ◌∙◌, subst, inl, inr, ⊎_elim, arith}
use Rattle.std.proofs.lemmas.List.{get_or_past}
use mathlib.Core.Logic.{dite}
use mathlib.Core.Option.{some, some-injective, some-ne-none}
use native.Mathlib.Decide.{ℕ_discrete, dec_lt}
use lib.ListN.{get_elem?}
use Rattle.atomic_table.specs.Table.{opening}
use Rattle.redodb_journal.specs.Plans.{PlanOf, IsPlan}
use Rattle.redodb_board.specs.Rows.{rows_of}
use Rattle.redodb_board.specs.Core.{Line, row_words}
use Rattle.redodb_board.specs.Views.{Part, ViewOf, view}
use Rattle.redodb_board.specs.Rule.{HasPart, Fits, AllFit, Orderly, Told, range}
use Rattle.redodb_board.specs.Support.Rule.{first_view, below, from}
use Rattle.redodb_board.proofs.Bounds.{words_name}
use Rattle.redodb_board.proofs.Totals.{few}
use Rattle.redodb_board.proofs.Kept.{St}

has_range : (n k s : ℕ) (j : List Line) → HasPart (range n k) s j → j ≡ []
has_range n zero s j h = absurd h
has_range n (suc k) s j h = ⊎_elim (λ (q : (n ≡ s) × ([] ≡ j)). sym q.1) (has_range (n + 1) k s j) h

has_all : (n k s : ℕ) → n ≤ s → s < n + k → HasPart (range n k) s []
has_all n zero s from below = absurd (omega arith)
has_all n (suc k) s from below = dite (ℕ_discrete n s) (λ e. inl (e, refl))
    (λ ne. inr (has_all (n + 1) k s (omega arith) (omega arith)))

pub range_fits : (p : PlanOf) (n k : ℕ) → Fits p [] (view p (range n k) [] [])
range_fits p n k =
    record { own = λ s j h. sym (has_range n k s j h); seen = ([], refl); also = ([], refl) }

pub fresh_fits : (p : PlanOf) → Fits p [] (first_view p)
fresh_fits p = range_fits p 0 (length p.scripts)

-- a range that is cut
pub below-range : (m n k : ℕ) → n ≤ m → m ≤ n + k → below m (range n k) ≡ range n (m - n)
below-range m n zero a b = ap (range n) (let e : 0 ≡ m - n = omega arith in e)
below-range m n (suc k) a b = dite (dec_lt n m)
    (λ l. rw (lt-ltb n m l)
    (ap (λ (t : List Part). (n, []) ∷ t) (below-range m (n + 1) k (omega arith) (omega arith))
    ∙ ap (range n) (let e : suc (m - (n + 1)) ≡ m - n = omega arith in e)))
    (λ g. rw (le-ltb n m (omega arith))
    (below-all m (n + 1) k (omega arith)
    ∙ ap (range n) (let e : 0 ≡ m - n = omega arith in e)))
  where
    below-all : (m n k : ℕ) → m ≤ n → below m (range n k) ≡ []
    below-all m n zero a = refl
    below-all m n (suc k) a = rw (le-ltb n m a) (below-all m (n + 1) k (omega arith))

pub from-range : (m n k : ℕ) → n ≤ m → m ≤ n + k → from m (range n k) ≡ range m (n + k - m)
from-range m n zero a b = ap (range m) (let e : 0 ≡ n + 0 - m = omega arith in e)
from-range m n (suc k) a b = dite (dec_lt n m)
    (λ l. rw (lt-ltb n m l)
    (from-range m (n + 1) k (omega arith) (omega arith)
    ∙ ap (range m) (let e : n + 1 + k - m ≡ n + suc k - m = omega arith in e)))
    (λ g. let same : n ≡ m = omega arith in
    rw (le-ltb n m (omega arith))
    (ap (λ (t : List Part). (n, []) ∷ t) (from-all m (n + 1) k (omega arith))
    ∙ ap (λ x. range x (suc k)) same
    ∙ ap (range m) (let e : suc k ≡ n + suc k - m = omega arith in e)))
  where
    from-all : (m n k : ℕ) → m ≤ n → from m (range n k) ≡ range n k
    from-all m n zero a = refl
    from-all m n (suc k) a =
        rw (le-ltb n m a)
        (ap (λ (t : List Part). (n, []) ∷ t) (from-all m (n + 1) k (omega arith)))

-- adjacent ranges
pub range-append : (n a b : ℕ) → range n a ++ range (n + a) b ≡ range n (a + b)
range-append n zero b =
    ap (λ m. range m b) (let e : n + 0 ≡ n = omega arith in e)
    ∙ ap (range n) (let e : b ≡ 0 + b = omega arith in e)
range-append n (suc a) b =
    ap (λ (t : List Part). (n, []) ∷ t)
    (ap (λ m. range (n + 1) a ++ range m b) (let e : n + suc a ≡ n + 1 + a = omega arith in e)
    ∙ range-append (n + 1) a b)
    ∙ ap (range n) (let e : suc (a + b) ≡ suc a + b = omega arith in e)

pub fresh_told : (p : PlanOf) (n k : ℕ) → IsPlan p → Told (view p (range n k) [] [])
fresh_told p n k plan = record { log = []; plan = plan; legal = tt; fits = range_fits p n k }

-- the board at the start
pub opens : (p : PlanOf) (words : List ℕ) → IsPlan p → length words ≡ rows_of p + 1 + length p.names
    → ((r : ℕ) → get_or words r 0 ≡ 0) → Orderly p (opening words [] (first_view p))
opens p words plan long zeros = record {
  log = [];
  plan = plan;
  legal = tt;
  wide = long;
  seat = zeros 0;
  rows = λ r h. zeros (r + 1);
  claims = λ t h. zeros (rows_of p + 1 + t);
  fits = only;
  apart = λ i k v w t j h ei ek hx hy. alone i k v w ei ek;
  stand =
      λ t less.
      (0, first_view p, [], refl, has_all 0 (length p.scripts) t (omega arith) (omega arith));
}
  where
    only : AllFit p [] (first_view p ∷ [])
    only zero v e = subst (Fits p []) (some-injective _ _ e) (fresh_fits p)
    only (suc n) v e = absurd (some-ne-none v (sym e))

    alone : (i k : ℕ) (v w : ViewOf) → get_elem? (first_view p ∷ []) i ≡ some v
        → get_elem? (first_view p ∷ []) k ≡ some w → i ≡ k
    alone zero zero v w a b = refl
    alone (suc i) k v w a b = absurd (some-ne-none v (sym a))
    alone zero (suc k) v w a b = absurd (some-ne-none w (sym b))

-- a count of the words up to the first 0
pub counted : (p : PlanOf) (s : St) (o : Orderly p s) (n : ℕ) → n ≤ rows_of p
    → ((r : ℕ) → r < n → get_or s.words (r + 1) 0 ≢ 0)
    → (n < rows_of p → get_or s.words (n + 1) 0 ≡ 0) → length (row_words p o.log) ≡ n
counted p s o n small full stop =
    let l : ℕ = length (row_words p o.log) in
    dite (ℕ_discrete l n) (λ e. e) (λ ne. dite (dec_lt l n)
    (λ less. absurd
    (full l less
    (o.rows l (omega arith)
    ∙ get_or_past (row_words p o.log) l 0 (let e : l ≤ l = omega arith in e))))
    (λ ge. let more : n < l = omega arith in
    let is = words_name p o.log o.plan o.legal n more in
    dite (dec_lt n (rows_of p))
    (λ near. let a = o.rows n near in let b = stop near in absurd (omega (arith, is.some)))
    (λ far. let b = few p o.log o.plan o.legal in absurd (omega arith))))

pub at_get : (l : List ℕ) (i n : ℕ) → get_elem? l i ≡ some n → get_or l i 0 ≡ n
at_get [] i n e = absurd (some-ne-none n (sym e))
at_get (x ∷ l) zero n e = some-injective x n e
at_get (x ∷ l) (suc i) n e = at_get l i n e
