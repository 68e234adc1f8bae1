-- Views that fit a history, and how a step of one seat affects the others.
use Rattle.std.proofs.Common.{◌≡◌, ◌≢◌, ℕ, zero, suc, ◌+◌, ◌<◌, ◌≤◌, eqb, ltb, cond, List, [], ◌∷◌, ◌++◌, length, get_or, set, true, false, refl, sym, ap, ◌∙◌, subst, ⊎_elim, arith, length-append, eq-eqb, ne_eqb, append_assoc}
use Rattle.std.proofs.lemmas.List.{get_or_past, append-nil, set-get_or}
use mathlib.Core.Logic.{dite}
use mathlib.Core.Option.{some, some-injective, some-ne-none}
use native.Mathlib.Decide.{ℕ_discrete, dec_lt}
use lib.ListN.{get_elem?}
use prog.Atomic.{either}
use Rattle.atomic_table.specs.Table.{State}
use Rattle.atomic_table.proofs.Lists.{at_set, set_else}
use Rattle.redodb_journal.specs.Plans.{PlanOf}
use Rattle.redodb_board.specs.Rows.{rows_of}
use Rattle.redodb_board.specs.Core.{Line, Core, start, after_all, row_words, Begins}
use Rattle.redodb_board.specs.Views.{ViewOf}
use Rattle.redodb_board.specs.Rule.{HasPart, Fits, Apart, AllStand, AllFit, Orderly, longer}
use Rattle.redodb_history_laws.proofs.Own.{push_other}
use Rattle.redodb_board.proofs.Parts.{after-push, grows}
use Rattle.redodb_board.proofs.Bounds.{words_name}

abbrev pub St : Type 0
St = State (Unit {0}) ViewOf

abbrev pub board : List ℕ → List ViewOf → St → St
board ws vs s = record { words = ws; homes = s.homes; views = vs }

pub exchanged : (n old new : ℕ) (F : ℕ → Type 0) → (n ≡ old → F new) → (n ≢ old → F n)
    → F (either (eqb n old) new n)
exchanged n old new F hit miss =
    dite (ℕ_discrete n old) (λ e. subst (λ b. F (either b new n)) (sym (eq-eqb n old e)) (hit e))
    (λ ne. subst (λ b. F (either b new n)) (sym (ne_eqb n old ne)) (miss ne))

-- beginnings
pub begins_more : (all seen xs : List ℕ) → Begins all seen → Begins (all ++ xs) seen
begins_more all seen xs b = (b.0 ++ xs, ap (λ l. l ++ xs) b.1 ∙ append_assoc seen b.0 xs)

pub begins_whole : (all seen rest : List ℕ) → all ≡ seen ++ rest → length all ≤ length seen
    → all ≡ seen
begins_whole all seen [] e h = e ∙ append-nil seen
begins_whole all seen (x ∷ rest) e h =
    absurd (let a = ap length e in let b = length-append seen (x ∷ rest) in omega arith)

pub begins_next : (all seen rest : List ℕ) (n : ℕ) → all ≡ seen ++ rest → length seen < length all
    → n ≡ get_or all (length seen) 0 → Begins all (seen ++ n ∷ [])
begins_next all seen [] n e h is = absurd (let a = ap length (e ∙ append-nil seen) in omega arith)
begins_next all seen (x ∷ rest) n e h is =
    let here : n ≡ x = is ∙ ap (λ l. get_or l (length seen) 0) e ∙ get_or_at_seam seen x rest in
    (rest, e ∙ ap (λ y. seen ++ y ∷ rest) (sym here) ∙ sym (append_assoc seen (n ∷ []) rest))
  where
    get_or_at_seam : (xs : List ℕ) (y : ℕ) (ys : List ℕ) → get_or (xs ++ y ∷ ys) (length xs) 0 ≡ y
    get_or_at_seam [] y ys = refl
    get_or_at_seam (z ∷ xs) y ys = get_or_at_seam xs y ys

pub begins_longer : (all xs ys : List ℕ) → Begins all xs → Begins all ys → Begins all (longer xs ys)
begins_longer all xs ys a b =
    elim (ltb (length xs) (length ys)) as (λ t. Begins all (cond t ys xs)) [ true ↦ b | false ↦ a ]

-- one line more, by a session that the view does not have
pub begins_done : (p : PlanOf) (log : List Line) (l : Line) (seen : List ℕ)
    → Begins (row_words p log) seen → Begins (row_words p (log ++ l ∷ [])) seen
begins_done p log l seen b =
    let g = grows p (after_all p start log) l in
    subst (λ r. Begins r seen)
    (sym (ap (λ (c : Core). c.rows) (after-push p start log l) ∙ g.1))
    (begins_more (row_words p log) seen g.0 b)

pub fits_other : (p : PlanOf) (log : List Line) (l : Line) (v : ViewOf) → Fits p log v
    → ((j : List Line) → HasPart v.parts l.session j → ⊥) → Fits p (log ++ l ∷ []) v
fits_other p log l v f lacks = record {
  own =
      λ t j h.
      dite (ℕ_discrete t l.session)
      (λ eq. absurd (lacks j (subst (λ u. HasPart v.parts u j) eq h)))
      (λ ne. push_other t log l (λ q. ne (sym q)) ∙ f.own t j h);
  seen = begins_done p log l v.seen f.seen;
  also = begins_done p log l v.also f.also;
}

pub fits_set : (p : PlanOf) (log : List Line) (views : List ViewOf) (id : ℕ) (w : ViewOf)
    → ((k : ℕ) (u : ViewOf) → k ≢ id → get_elem? views k ≡ some u → Fits p log u) → Fits p log w
    → AllFit p log (set views id w)
fits_set p log views id w others mine k u e =
    ⊎_elim (λ (x : (k ≡ id) × (w ≡ u)). subst (Fits p log) x.1 mine)
    (λ (x : (k ≢ id) × (get_elem? views k ≡ some u)). others k u x.0 x.1)
    (at_set views id k w u e)

-- the sessions of w are sessions of v
abbrev pub Within : ViewOf → ViewOf → Type 0
Within w v = (t : ℕ) (h : List Line) → HasPart w.parts t h → (g : List Line) × HasPart v.parts t g

pub apart_set : (views : List ViewOf) (id : ℕ) (v w : ViewOf) → get_elem? views id ≡ some v
    → Within w v → Apart views → Apart (set views id w)
apart_set views id v w me within apart i k x y t j h ei ek hx hy =
    let back : (n : ℕ) (u : ViewOf) (g : List Line) → get_elem? (set views id w) n ≡ some u
    → HasPart u.parts t g
    → (z : ViewOf) × (f : List Line) × (get_elem? views n ≡ some z) × HasPart z.parts t f =
    λ n u g e has. ⊎_elim
    (λ (q : (n ≡ id) × (w ≡ u)). let old = within t g
    (subst (λ (z : ViewOf). HasPart z.parts t g) (sym q.1) has) in
    (v, old.0, subst (λ m. get_elem? views m ≡ some v) (sym q.0) me, old.1))
    (λ (q : (n ≢ id) × (get_elem? views n ≡ some u)). (u, g, q.1, has))
    (at_set views id n w u e) in
    let a = back i x j ei hx in
    let b = back k y h ek hy in
    apart i k a.0 b.0 t a.1 b.1 a.2 b.2 a.3 b.3

-- the replaced view is the new one
pub set_there : (views : List ViewOf) (id : ℕ) (v w : ViewOf) → get_elem? views id ≡ some v
    → get_elem? (set views id w) id ≡ some w
set_there [] id v w at = absurd (some-ne-none v (sym at))
set_there (x ∷ views) zero v w at = refl
set_there (x ∷ views) (suc id) v w at = set_there views id v w at

-- each session is in a view still, if the new one has the sessions of the old one
pub stand_set : (n : ℕ) (views : List ViewOf) (id : ℕ) (v w : ViewOf)
    → get_elem? views id ≡ some v → Within v w → AllStand n views → AllStand n (set views id w)
stand_set n views id v w me within stand t less =
    let (k, u, j, at, has) = stand t less in
    dite (ℕ_discrete k id)
    (λ e.
    let same : u ≡ v = some-injective u v (sym at ∙ ap (get_elem? views) e ∙ me) in
    let new = within t j (subst (λ (x : ViewOf). HasPart x.parts t j) same has) in
    (id, w, new.0, set_there views id v w me, new.1))
    (λ ne. (k, u, j, set_else views id k w ne ∙ at, has))

-- a step that adds nothing to the history
pub kept : (p : PlanOf) (s : St) (o : Orderly p s) (id i : ℕ) (v w : ViewOf)
    → get_elem? s.views id ≡ some v → Within w v → Within v w → Fits p o.log w
    → Orderly p (board (set s.words i (get_or s.words i 0)) (set s.views id w) s)
kept p s o id i v w me within covers fits =
    subst (λ ws. Orderly p (board ws (set s.views id w) s)) (sym (set-get_or s.words i 0)) (record {
      log = o.log;
      plan = o.plan;
      legal = o.legal;
      wide = o.wide;
      seat = o.seat;
      rows = o.rows;
      claims = o.claims;
      fits = fits_set p o.log s.views id w (λ k u ne e. o.fits k u e) fits;
      apart = apart_set s.views id v w me within o.apart;
      stand = stand_set (length p.scripts) s.views id v w me covers o.stand;
    })

-- a row that was seen is filled
pub filled : (p : PlanOf) (s : St) (o : Orderly p s) (seen : List ℕ)
    → Begins (row_words p o.log) seen → (r : ℕ) → r < length seen → r < rows_of p
    → get_or s.words (r + 1) 0 ≢ 0
filled p s o seen b r saw near none-there =
    let long = ap length b.1 in
    let sum = length-append seen b.0 in
    let is = words_name p o.log o.plan o.legal r (omega arith) in
    let a = o.rows r near in
    omega (arith, is.some)

-- a row that was found empty is the first after the history's
module _ (p : PlanOf) (s : St) (o : Orderly p s) (seen : List ℕ) (near : length seen < rows_of p)
    (b : Begins (row_words p o.log) seen) where
  pub whole : get_or s.words (length seen + 1) 0 ≡ 0 → row_words p o.log ≡ seen
  whole none-there = dite (dec_lt (length seen) (length (row_words p o.log)))
      (λ more. let is = words_name p o.log o.plan o.legal (length seen) more in
      let a = o.rows (length seen) near in
      absurd (omega (arith, is.some)))
      (λ less. begins_whole (row_words p o.log) seen b.0 b.1 (omega arith))

  pub further : get_or s.words (length seen + 1) 0 ≢ 0
      → Begins (row_words p o.log) (seen ++ get_or s.words (length seen + 1) 0 ∷ [])
  further some-there = let a = o.rows (length seen) near in
      dite (dec_lt (length seen) (length (row_words p o.log)))
      (λ more. begins_next (row_words p o.log) seen b.0 (get_or s.words (length seen + 1) 0) b.1
      more a)
      (λ less. absurd
      (some-there (a ∙ get_or_past (row_words p o.log) (length seen) 0 (omega arith))))
