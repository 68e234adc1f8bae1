-- Seats that look, are split and joined.
use Rattle.std.proofs.Common.{◌≡◌, ◌≢◌, ℕ, zero, suc, ◌⊎◌, ltb, cond, List, [], ◌∷◌, ◌++◌, length, set, Bool, true, false, not, refl, sym, ap, ◌∙◌, subst, inl, inr, ⊎_elim}
use Rattle.std.specs.List.{filter}
use Rattle.std.proofs.lemmas.Bool.{cases_Bool}
use mathlib.Core.Logic.{dite}
use mathlib.Core.Option.{some, none, some-injective, some-ne-none}
use native.Mathlib.Decide.{ℕ_discrete}
use lib.ListN.{get_elem?}
use Rattle.atomic_table.specs.Table.{step, keeps, Allows, Splits, Joins}
use Rattle.atomic_table.proofs.Lists.{at_set, at_snoc, at_longer, at_last, set_else}
use Rattle.redodb_journal.specs.Plans.{PlanOf}
use Rattle.redodb_board.specs.Core.{Line, row_words}
use Rattle.redodb_board.specs.Views.{Part, ViewOf, view}
use Rattle.redodb_board.specs.Support.Views.{nobody}
use Rattle.redodb_board.specs.Rule.{HasPart, Fits, Apart, AllStand, AllFit, Orderly, longer}
use Rattle.redodb_board.specs.Support.Rule.{left_of, right_of, met}
use Rattle.redodb_board.specs.Support.Plays.{looked}
use Rattle.redodb_board.proofs.Kept.{kept, fits_set, apart_set, set_there, begins_longer}

-- a load on the seat word
pub looks : (p : PlanOf) (slots id i : ℕ) (v : ViewOf) (c : List (ℕ × Unit {0})) → v.plan ≡ p
    → Allows (Orderly p) slots id (v, c) i (λ n. n) (looked (step slots i 0 0 none) (v, c))
looks p slots id i v c same =
    subst
    (λ q. Allows (Orderly q) slots id (v, c) i (λ n. n) (looked (step slots i 0 0 none) (v, c)))
    same (λ s o wide me _.
    let f = o.fits id v me in
    let w : ViewOf = view v.plan v.parts (longer v.seen v.also) [] in
    let g : Fits v.plan o.log w =
    record {
      own = f.own;
      seen = begins_longer (row_words v.plan o.log) v.seen v.also f.seen f.also;
      also = (row_words v.plan o.log, refl);
    } in (
      w,
      keeps,
      tt,
      kept v.plan s o id i v w me (λ u h has. (h, has)) (λ u h has. (h, has)) g,
      (
        record { now = refl; log = o.log; plan = o.plan; legal = o.legal; before = f; fits = g },
        refl,
      ),
    ))

-- the sessions of a cut are those of the view that pass a test
abbrev passing : (ℕ → Bool) → List Part → List Part
passing test ps = filter (λ (x : Part). test x.0) ps

has_first_passing : (b : Bool) (x : Part) (xs : List Part) (s : ℕ) (j : List Line)
    → HasPart (cond b (x ∷ xs) xs) s j
    → ((b ≡ true) × ((x.0 ≡ s) × (x.1 ≡ j))) ⊎ HasPart xs s j
has_first_passing true x xs s j (inl here) = inl (refl, here)
has_first_passing true x xs s j (inr later) = inr later
has_first_passing false x xs s j h = inr h

has_passing : (test : ℕ → Bool) (ps : List Part) (s : ℕ) (j : List Line)
    → HasPart (passing test ps) s j → HasPart ps s j × (test s ≡ true)
has_passing test [] s j h = absurd h
has_passing test (x ∷ xs) s j h =
    elim (has_first_passing (test x.0) x (passing test xs) s j h) [
      | inl y ↦ (inl y.1, subst (λ n. test n ≡ true) y.1.0 y.0)
      | inr y ↦ let a = has_passing test xs s j y in (inr a.0, a.1)
    ]

is_passing : (test : ℕ → Bool) (ps : List Part) (s : ℕ) (j : List Line) → test s ≡ true
    → HasPart ps s j → HasPart (passing test ps) s j
is_passing test [] s j passes h = h
is_passing test (x ∷ xs) s j passes (inl here) =
    subst (λ b. HasPart (cond b (x ∷ passing test xs) (passing test xs)) s j)
    (sym (ap test here.0 ∙ passes)) (inl here)
is_passing test (x ∷ xs) s j passes (inr later) =
    after (test x.0) (is_passing test xs s j passes later)
  where
    after : (b : Bool) → HasPart (passing test xs) s j
        → HasPart (cond b (x ∷ passing test xs) (passing test xs)) s j
    after true h = inr h
    after false h = h

-- and so each session is in a view after the cut
stand_cut : (n : ℕ) (views : List ViewOf) (id m : ℕ) (v : ViewOf) → get_elem? views id ≡ some v
    → AllStand n views → AllStand n (set views id (left_of m v) ++ right_of m v ∷ [])
stand_cut n views id m v me stand t less =
    let (k, u, j, at, has) = stand t less in
    let lefts : List ViewOf = set views id (left_of m v) in
    let right : ViewOf = right_of m v in
    dite (ℕ_discrete k id)
    (λ e.
    let same : u ≡ v = some-injective u v (sym at ∙ ap (get_elem? views) e ∙ me) in
    let here : HasPart v.parts t j = subst (λ (x : ViewOf). HasPart x.parts t j) same has in
    elim (cases_Bool (ltb t m)) [
      | inl low ↦ (
        id,
        left_of m v,
        j,
        at_longer lefts (right ∷ []) id (left_of m v) (set_there views id v (left_of m v) me),
        is_passing (λ n. ltb n m) v.parts t j low here,
      )
      | inr high ↦ (
        length lefts,
        right,
        j,
        at_last lefts right (length lefts) refl,
        is_passing (λ n. not (ltb n m)) v.parts t j (ap not high) here,
      )
    ])
    (λ ne. (
      k,
      u,
      j,
      at_longer lefts (right ∷ []) k u (set_else views id k (left_of m v) ne ∙ at),
      has,
    ))

-- a new view at the end, whose sessions are of none of the others
apart_push : (views : List ViewOf) (w : ViewOf) → Apart views
    →
    ((n : ℕ) (u : ViewOf) (t : ℕ) (j h : List Line) → get_elem? views n ≡ some u
    → HasPart u.parts t j → HasPart w.parts t h → ⊥)
    → Apart (views ++ w ∷ [])
apart_push views w apart new i k x y t j h ei ek hx hy =
    at_two views w i x ei
    (λ a. at_two views w k y ek (λ b. apart i k x y t j h a b hx hy)
    (λ b. absurd
    (new i x t j h a hx (subst (λ (z : ViewOf). HasPart z.parts t h) (sym b.0) hy))))
    (λ a. at_two views w k y ek
    (λ b. absurd
    (new k y t h j b hy (subst (λ (z : ViewOf). HasPart z.parts t j) (sym a.0) hx)))
    (λ b. a.1 ∙ sym b.1))
  where
    at_two : {C : Type 0} (l : List ViewOf) (a : ViewOf) (n : ℕ) (b : ViewOf)
        → get_elem? (l ++ a ∷ []) n ≡ some b → (get_elem? l n ≡ some b → C)
        → ((a ≡ b) × (n ≡ length l) → C) → C
    at_two [] a zero b e f g = g (some-injective a b e, refl)
    at_two [] a (suc n) b e f g = absurd (some-ne-none b (sym e))
    at_two (x ∷ l) a zero b e f g = f e
    at_two (x ∷ l) a (suc n) b e f g = at_two l a n b e f (λ q. g (q.0, ap suc q.1))

pub splits : (p : PlanOf) (id m : ℕ) (v : ViewOf)
    → Splits (Orderly p) id v (left_of m v) (right_of m v)
splits p id m v s o me =
    let f = o.fits id v me in
    let l : Fits p o.log (left_of m v) =
    record {
      own = λ t j h. f.own t j (has_passing (λ n. ltb n m) v.parts t j h).0;
      seen = f.seen;
      also = f.also;
    } in
    let r : Fits p o.log (right_of m v) =
    record {
      own = λ t j h. f.own t j (has_passing (λ n. not (ltb n m)) v.parts t j h).0;
      seen = f.seen;
      also = f.also;
    } in
    let views : List ViewOf = set s.views id (left_of m v) in
    let lefts : AllFit p o.log views =
    fits_set p o.log s.views id (left_of m v) (λ k u ne e. o.fits k u e) l in
    record {
      log = o.log;
      plan = o.plan;
      legal = o.legal;
      wide = o.wide;
      seat = o.seat;
      rows = o.rows;
      claims = o.claims;
      fits =
          λ k u e.
          ⊎_elim (λ was. lefts k u was)
          (λ (same : right_of m v ≡ u). subst (Fits p o.log) same r)
          (at_snoc views (right_of m v) u k e);
      apart =
          apart_push views (right_of m v)
          (apart_set s.views id v (left_of m v) me
          (λ t h has. (h, (has_passing (λ n. ltb n m) v.parts t h has).0)) o.apart)
          (λ n u t j h e hu hw. let b = has_passing (λ n. not (ltb n m)) v.parts t h hw in ⊎_elim
          (λ (q : (n ≡ id) × (left_of m v ≡ u)). let a = has_passing (λ n. ltb n m) v.parts t j
          (subst (λ (z : ViewOf). HasPart z.parts t j) (sym q.1) hu) in
          off (ltb t m) a.1 b.1)
          (λ (q : (n ≢ id) × (get_elem? s.views n ≡ some u)). q.0
          (o.apart n id u v t j h q.1 me hu b.0))
          (at_set s.views id n (left_of m v) u e));
      stand = stand_cut (length p.scripts) s.views id m v me o.stand;
    }
  where
    off : (b : Bool) → b ≡ true → not b ≡ true → ⊥
    off true e f = cc
    off false e f = cc

has_append : (xs ys : List Part) (s : ℕ) (j : List Line) → HasPart (xs ++ ys) s j
    → HasPart xs s j ⊎ HasPart ys s j
has_append [] ys s j h = inr h
has_append (x ∷ xs) ys s j h =
    ⊎_elim (λ a. inl (inl a)) (λ a. ⊎_elim (λ b. inl (inr b)) inr (has_append xs ys s j a)) h

has_first : (xs ys : List Part) (s : ℕ) (j : List Line) → HasPart xs s j → HasPart (xs ++ ys) s j
has_first [] ys s j h = absurd h
has_first (x ∷ xs) ys s j (inl here) = inl here
has_first (x ∷ xs) ys s j (inr later) = inr (has_first xs ys s j later)

has_second : (xs ys : List Part) (s : ℕ) (j : List Line) → HasPart ys s j → HasPart (xs ++ ys) s j
has_second [] ys s j h = h
has_second (x ∷ xs) ys s j h = inr (has_second xs ys s j h)

-- each session is in a view after two were joined
stand_met : (n : ℕ) (views : List ViewOf) (id other : ℕ) (v u : ViewOf) → (other ≡ id → ⊥)
    → get_elem? views id ≡ some v → get_elem? views other ≡ some u → AllStand n views
    → AllStand n (set (set views id (met v u)) other nobody)
stand_met n views id other v u away me their stand t less =
    let (k, x, j, at, has) = stand t less in
    let met_there : get_elem? (set (set views id (met v u)) other nobody) id ≡ some (met v u) =
    set_else (set views id (met v u)) other id nobody (λ e. away (sym e))
    ∙ set_there views id v (met v u) me in
    dite (ℕ_discrete k other)
    (λ e.
    let same : x ≡ u = some-injective x u (sym at ∙ ap (get_elem? views) e ∙ their) in (
      id,
      met v u,
      j,
      met_there,
      has_second v.parts u.parts t j
          (subst (λ (y : ViewOf). HasPart y.parts t j) same has),
    ))
    (λ no. dite (ℕ_discrete k id)
    (λ e.
    let same : x ≡ v = some-injective x v (sym at ∙ ap (get_elem? views) e ∙ me) in (
      id,
      met v u,
      j,
      met_there,
      has_first v.parts u.parts t j
          (subst (λ (y : ViewOf). HasPart y.parts t j) same has),
    ))
    (λ ne. (
      k,
      x,
      j,
      set_else (set views id (met v u)) other k nobody no ∙ set_else views id k (met v u) ne ∙ at,
      has,
    )))

pub meets : (p : PlanOf) (id : ℕ) (v : ViewOf) (other : ℕ) (u : ViewOf)
    → Joins (Orderly p) id v other u (met v u) nobody
meets p id v other u s o me away there =
    let w : ViewOf = met v u in
    let their : get_elem? s.views other ≡ some u =
    ⊎_elim (λ (q : (other ≡ id) × (w ≡ u)). absurd (away q.0))
    (λ (q : (other ≢ id) × (get_elem? s.views other ≡ some u)). q.1)
    (at_set s.views id other w u there) in
    let f = o.fits id v me in
    let g = o.fits other u their in
    let both : Fits p o.log w =
    record {
      own = λ t j h. ⊎_elim (f.own t j) (g.own t j) (has_append v.parts u.parts t j h);
      seen = f.seen;
      also = g.seen;
    } in
    let none-left : Fits p o.log nobody =
    record {
      own = λ t j h. absurd h;
      seen = (row_words p o.log, refl);
      also = (row_words p o.log, refl);
    } in
    record {
      log = o.log;
      plan = o.plan;
      legal = o.legal;
      wide = o.wide;
      seat = o.seat;
      rows = o.rows;
      claims = o.claims;
      fits =
          fits_set p o.log (set s.views id w) other nobody
          (λ k x ne e. fits_set p o.log s.views id w (λ n y ne' e'. o.fits n y e') both k x e)
          none-left;
      apart = joined s.views o.apart me their;
      stand = stand_met (length p.scripts) s.views id other v u away me their o.stand;
    }
  where
    joined : (views : List ViewOf) → Apart views → get_elem? views id ≡ some v
        → get_elem? views other ≡ some u → Apart (set (set views id (met v u)) other nobody)
    joined views apart mine theirs i k x y t j h ei ek hx hy =
        let from-set : (n : ℕ) (z : ViewOf) (g : List Line)
        → get_elem? (set (set views id (met v u)) other nobody) n ≡ some z → HasPart z.parts t g
        → (n ≢ other)
        ×
        ((n ≡ id) × (HasPart v.parts t g ⊎ HasPart u.parts t g)
        ⊎ ((n ≢ id) × (get_elem? views n ≡ some z))) =
        λ n z g e has. ⊎_elim
        (λ (q : (n ≡ other) × (nobody ≡ z)). absurd
        (subst (λ (a : ViewOf). HasPart a.parts t g) (sym q.1) has))
        (λ (q : (n ≢ other) × (get_elem? (set views id (met v u)) n ≡ some z)). (
          q.0,
          ⊎_elim
              (λ (q' : (n ≡ id) × (met v u ≡ z)). inl (
                q'.0,
                has_append v.parts u.parts t g
                    (subst (λ (a : ViewOf). HasPart a.parts t g) (sym q'.1) has),
              ))
              (λ (q' : (n ≢ id) × (get_elem? views n ≡ some z)). inr q')
              (at_set views id n (met v u) z q.1),
        ))
        (at_set (set views id (met v u)) other n nobody z e) in
        let a = from-set i x j ei hx in
        let b = from-set k y h ek hy in
        ⊎_elim
        (λ (q : (i ≡ id) × (HasPart v.parts t j ⊎ HasPart u.parts t j)). ⊎_elim
        (λ (r : (k ≡ id) × (HasPart v.parts t h ⊎ HasPart u.parts t h)). q.0 ∙ sym r.0)
        (λ (r : (k ≢ id) × (get_elem? views k ≡ some y)). ⊎_elim
        (λ c. q.0 ∙ apart id k v y t j h mine r.1 c hy)
        (λ c. absurd (b.0 (sym (apart other k u y t j h theirs r.1 c hy)))) q.1)
        b.1)
        (λ (q : (i ≢ id) × (get_elem? views i ≡ some x)). ⊎_elim
        (λ (r : (k ≡ id) × (HasPart v.parts t h ⊎ HasPart u.parts t h)). ⊎_elim
        (λ c. apart i id x v t j h q.1 mine hx c ∙ sym r.0)
        (λ c. absurd (a.0 (apart i other x u t j h q.1 theirs hx c))) r.1)
        (λ (r : (k ≢ id) × (get_elem? views k ≡ some y)). apart i k x y t j h q.1 r.1 hx hy)
        b.1)
        a.1
