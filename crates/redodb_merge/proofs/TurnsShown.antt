-- The merge's values as lines with tickets.
use Rattle.std.proofs.Common.{◌≡◌, ◌≢◌, ◌↔◌, ℕ, zero, suc, ◌+◌, ◌*◌, ◌<◌, ◌≤◌, ◌&&◌, eqb, true, List, [], ◌∷◌, Option, Some, None, refl, sym, ap, ◌∙◌, subst, inl, inr, arith, length, get_or, drop, map, eq-eqb, eqb-true, nat_cmp}
use Rattle.std.proofs.Math.ListN.{set}
use Rattle.std.specs.Cmp.{tied_itself, nat_cmp_total}
use Rattle.std.specs.HashMap.{HashMap}
use Rattle.std.proofs.lemmas.Bool.{cases_Bool, false≢true}
use Rattle.std.proofs.lemmas.List.{drop_more, get_or-set_same, get_or-set_other}
use mathlib.Core.Logic.{dite}
use native.Mathlib.Decide.{ℕ_discrete, dec_lt}
use Rattle.redodb_model.specs.Names.{numbers}
use Rattle.redodb_model.specs.Support.Names.{IsNaming}
use Rattle.redodb_model.specs.Placed.{PlacedLine}
use Rattle.redodb_model.specs.Placed as placed
use Rattle.redodb_history_laws.proofs.Exchange.{In, Tickets, after, Comes, Free}
use Rattle.redodb_history_laws.proofs.Greedy.{May, Can, Takes}
use Rattle.redodb_history_laws.proofs.Moved.{tickets, ticket_of, same_counter}
use Rattle.redodb_history_laws.proofs.Counts.{one_if, no_step}
use Rattle.redodb_history_laws.proofs.FromName.{in_map}
use Rattle.redodb_journal.specs.declared.entry.Place.{Place}
use Rattle.redodb_journal.specs.declared.entry.Place.TheVariants.{Row, Granted, Busy, Released}
use Rattle.redodb_journal.specs.declared.entry.Entry.{Entry}
use Rattle.redodb_journal.specs.declared.entry.Journal.{Journal}
use Rattle.redodb_merge.specs.declared.merging.turning.Turns.{Turns}
use Rattle.redodb_journal.specs.Plans.{PlanOf, script_of}
use Rattle.redodb_journal.specs.Journals.{place_of, line_told, entries_of}
use Rattle.redodb_merge.specs.Support.Merging.{is_busy, busy_one, busy_in, busy_below, none, tally, IsFree, Turned, SessionMayCome}
use Rattle.redodb_merge.specs.Support.Merging as merging
use Rattle.redodb_merge.proofs.Unmerged.{entries_past}
use Rattle.redodb_merge.proofs.BusyCounts.{and_true, busy_in-cons}

pub numbers_are_names : IsNaming (numbers nat_cmp)
numbers_are_names = record {
  decides = λ m n. (eqb-true m n, eq-eqb m n);
  irreflexive = λ n e. let f = tied_itself nat_cmp_total n in cc;
  transitive = nat_cmp_total.trans;
}

abbrev pub ticketed : Tickets (PlacedLine ℕ) (Option ℕ)
ticketed = tickets numbers_are_names

-- the counters of the turns
abbrev pub shown : Turns → Option ℕ → ℕ
shown turns None = turns.rows
shown turns (Some t) = get_or turns.claims.items t 0 + 2

pub map_in : {A B : Type 0} (f : A → B) (x : A) (xs : List A) → In x xs → In (f x) (map f xs)
map_in f x [] h = absurd h
map_in f x (y ∷ ys) (inl e) = inl (ap f e)
map_in f x (y ∷ ys) (inr i) = inr (map_in f x ys i)

-- what is left of the journals, as entries and as their lines
module _ (plan : PlanOf) (js : List Journal) where
  abbrev pub told_at : ℕ → Entry → PlacedLine ℕ
  told_at s = line_told s (script_of plan s)

  abbrev pub left_entries : List ℕ → ℕ → List Entry
  left_entries next s = drop (get_or next s 0) (entries_of js s)

  abbrev pub rests : List ℕ → ℕ → List (PlacedLine ℕ)
  rests next s = map (told_at s) (left_entries next s)

pub comes_is : (turns : Turns) (p : Place) (l : PlacedLine ℕ)
    → merging.Comes turns p ↔ Comes ticketed (shown turns) (record l { place = place_of p })
comes_is turns (Busy t g) l = (λ h. omega arith, λ h. omega arith)
comes_is turns (Released t g) l = (λ h. omega arith, λ h. omega arith)
comes_is turns place l = (λ h. h, λ h. h)

shown_at : (old new : Turns) (p : Place) (l : PlacedLine ℕ) (k : Option ℕ) → Turned old new p
    → shown new k ≡ after ticketed (shown old) (record l { place = place_of p }) k
shown_at old new (Row r) l None h = h.rows
shown_at old new (Granted t g) l None h = let a = h.rows in omega arith
shown_at old new (Busy t g) l None h = let a = h.rows in omega arith
shown_at old new (Busy t g) l (Some u) h =
    omega (arith, h.claims u, no_step (same_counter (numbers nat_cmp) (Some u) (Some t)))
shown_at old new (Released t g) l None h = let a = h.rows in omega arith
shown_at old new place l (Some u) h = let a = h.claims u in omega arith

pub shown_after : (old new : Turns) (p : Place) (l : PlacedLine ℕ) → Turned old new p
    → shown new ≡ after ticketed (shown old) (record l { place = place_of p })
shown_after old new p l h = λ i k. shown_at old new p l k h i

-- busy replies and their tickets
ticket_busy : (p : Place) (t g : ℕ) → (ticket_of (place_of p)).counter ≡ Some t
    → (ticket_of (place_of p)).value ≡ 2 * g + 1 → (ticket_of (place_of p)).step ≡ 0
    → is_busy t g p ≡ true
ticket_busy (Row r) t g a b d = absurd (cc)
ticket_busy (Busy u h) t g a b d = let e : u ≡ t = cc in
    let f : h ≡ g = omega arith in
    (λ i. eq-eqb u t e i && eq-eqb h g f i)
ticket_busy place t g a b d = absurd (omega arith)

busy_ticket : (p : Place) (t g : ℕ) → is_busy t g p ≡ true
    → ((ticket_of (place_of p)).counter ≡ Some t) × ((ticket_of (place_of p)).value ≡ 2 * g + 1)
    × ((ticket_of (place_of p)).step ≡ 0)
busy_ticket (Busy u v) t g h = let both = and_true (eqb u t) (eqb v g) h in
    let a = eqb-true u t both.0 in
    let b = eqb-true v g both.1 in
    (ap Some a, (let x : 2 * v + 1 ≡ 2 * g + 1 = omega arith in x), refl)
busy_ticket place t g h = absurd (false≢true h)

in_some : (e : Entry) (xs : List Entry) (t g : ℕ) → In e xs → is_busy t g e.place ≡ true
    → 0 < busy_in t g xs
in_some e [] t g i h = absurd i
in_some e (y ∷ ys) t g (inl q) h = let a = busy_in-cons t g y ys in
    let b : one_if (is_busy t g y.place) ≡ 1 =
    ap (λ (z : Entry). one_if (is_busy t g z.place)) q ∙ ap one_if h in
    omega arith
in_some e (y ∷ ys) t g (inr i) h = omega (arith, busy_in-cons t g y ys, in_some e ys t g i h)

-- if none is counted, none is left
below_none : (t g : ℕ) (j : ℕ → List Entry) (n : ℕ) → busy_below t g j n ≡ 0 → (u : ℕ) (e : Entry)
    → u < n → In e (j u) → is_busy t g e.place ≡ true → ⊥
below_none t g j zero z u e lt i h = omega arith
below_none t g j (suc n) z u e lt i h = dite (ℕ_discrete u n)
    (λ q. let a = in_some e (j n) t g (subst (λ (v : ℕ). In e (j v)) q i) h in absurd (omega arith))
    (λ ne. below_none t g j n (omega arith) u e (omega arith) i h)

in_none : (xs : List Entry) (t g : ℕ) → ((e : Entry) → In e xs → is_busy t g e.place ≡ true → ⊥)
    → busy_in t g xs ≡ 0
in_none [] t g h = refl
in_none (x ∷ xs) t g h = elim (cases_Bool (is_busy t g x.place)) [
  | inl e ↦ absurd (h x (inl refl) e)
  | inr e ↦ omega (arith, busy_in-cons t g x xs, ap one_if e, in_none xs t g (λ y i. h y (inr i)))
]

none_below : (t g : ℕ) (j : ℕ → List Entry) (n : ℕ)
    → ((u : ℕ) (e : Entry) → In e (j u) → is_busy t g e.place ≡ true → ⊥) → busy_below t g j n ≡ 0
none_below t g j zero h = refl
none_below t g j (suc n) h = omega (arith, none_below t g j n h, in_none (j n) t g (h n))

pub below_same : (t g : ℕ) (j j2 : ℕ → List Entry) (n : ℕ) → ((u : ℕ) → u < n → j2 u ≡ j u)
    → busy_below t g j2 n ≡ busy_below t g j n
below_same t g j j2 zero h = refl
below_same t g j j2 (suc n) h = let a = below_same t g j j2 n (λ u lt. h u (omega arith)) in
    let b = ap (busy_in t g) (h n (omega arith)) in
    omega arith

-- taking an entry takes its own count with it
pub below_step : (t g : ℕ) (j j2 : ℕ → List Entry) (s : ℕ) (e : Entry) (n : ℕ) → s < n
    → j s ≡ e ∷ j2 s → ((u : ℕ) → u ≢ s → j2 u ≡ j u)
    → busy_below t g j2 n + busy_one t g e.place ≡ busy_below t g j n
below_step t g j j2 s e zero lt here others = absurd (omega arith)
below_step t g j j2 s e (suc n) lt here others = dite (ℕ_discrete s n)
    (λ q. let a = below_same t g j j2 n (λ u less. others u (λ z. omega arith)) in
    let b : busy_in t g (j n) ≡ busy_one t g e.place + busy_in t g (j2 n) =
    subst (λ (v : ℕ). busy_in t g (j v) ≡ busy_one t g e.place + busy_in t g (j2 v)) q
    (ap (busy_in t g) here ∙ busy_in-cons t g e (j2 s)) in
    omega arith)
    (λ ne. let a = below_step t g j j2 s e n (omega arith) here others in
    let b = ap (busy_in t g) (others n (λ z. ne (sym z))) in
    omega arith)

pub drop_all : {A : Type 0} (n : ℕ) (xs : List A) → length xs ≤ n → drop n xs ≡ []
drop_all zero [] h = refl
drop_all (suc n) [] h = refl
drop_all zero (y ∷ ys) h = absurd (omega arith)
drop_all (suc n) (y ∷ ys) h = drop_all n ys (omega arith)

module _ (plan : PlanOf) (js : List Journal) (next : List ℕ) where
  left_past : (u : ℕ) → length js ≤ u → left_entries plan js next u ≡ []
  left_past u h =
      drop_all (get_or next u 0) (entries_of js u)
      (let a = ap length (entries_past js u h) in omega arith)

  -- a release is free if no busy reply of its grant is counted
  free_release : (l : PlacedLine ℕ) (t g : ℕ)
      → busy_below t g (left_entries plan js next) (length js) ≡ 0
      ↔ Free ticketed (rests plan js next) (record l { place = place_of (Released t g) })
  free_release l t g = (
    λ z u x i a b d. let m = in_map (told_at plan js u) x (left_entries plan js next u) i in
        let c1 : (ticket_of (place_of m.0.place)).counter ≡ Some t =
        ap (λ (y : PlacedLine ℕ). (ticket_of y.place).counter) m.2 ∙ a in
        let c2 : (ticket_of (place_of m.0.place)).value ≡ 2 * g + 1 =
        ap (λ (y : PlacedLine ℕ). (ticket_of y.place).value) m.2 ∙ b in
        let c3 : (ticket_of (place_of m.0.place)).step ≡ 0 =
        ap (λ (y : PlacedLine ℕ). (ticket_of y.place).step) m.2 ∙ d in
        absurd (dite (dec_lt u (length js))
        (λ lt. below_none t g (left_entries plan js next) (length js) z u m.0 lt m.1
        (ticket_busy m.0.place t g c1 c2 c3))
        (λ past. absurd (subst (In m.0) (left_past u (omega arith)) m.1))),
    λ free.
        none_below t g (left_entries plan js next) (length js)
        (λ u e i h. let r = busy_ticket e.place t g h in
        let z : 1 ≡ 0 =
        free u (told_at plan js u e)
        (map_in (told_at plan js u) e (left_entries plan js next u) i) r.0 r.1 r.2 in
        omega arith),
  )

  -- what doesn't release a target is always free
  never_row : (q : placed.Place ℕ) → (ticket_of q).counter ≡ None → (ticket_of q).step ≡ 0
      → ◌≡◌ {A = ℕ} 1 0
  never_row (placed.Row r) a d = d
  never_row place a d = absurd (cc)

  never_grant : (q : placed.Place ℕ) (g : ℕ) → (ticket_of q).value ≡ 2 * g → (ticket_of q).step ≡ 0
      → ◌≡◌ {A = ℕ} 1 0
  never_grant (placed.Busy t h) g b d = absurd (omega arith)
  never_grant place g b d = d

  free_is : {S : Type 0} (counts : HashMap (ℕ × ℕ) ℕ S) (l : PlacedLine ℕ) (p : Place)
      → ((t g : ℕ) → tally counts t g ≡ busy_below t g (left_entries plan js next) (length js))
      → IsFree counts p ↔ Free ticketed (rests plan js next) (record l { place = place_of p })
  free_is counts l (Row r) counted = (λ h u x i a b d. never_row x.place a d, λ h. tt)
  free_is counts l (Granted t g) counted = (λ h u x i a b d. never_grant x.place g b d, λ h. tt)
  free_is counts l (Busy t g) counted = (λ h u x i a b d. refl, λ h. tt)
  free_is counts l (Released t g) counted = let both = free_release l t g in
      (λ h. both.0 (sym (counted t g) ∙ h), λ h. counted t g ∙ both.1 h)

  first_left : (s : ℕ) → get_or next s 0 < length (entries_of js s)
      → left_entries plan js next s
      ≡ get_or (entries_of js s) (get_or next s 0) none ∷ drop (get_or next s 0 + 1)
      (entries_of js s)
  first_left s h = drop_more (entries_of js s) (get_or next s 0) none h

  first_rest : (s : ℕ) → get_or next s 0 < length (entries_of js s)
      → rests plan js next s
      ≡ told_at plan js s (get_or (entries_of js s) (get_or next s 0) none) ∷ map
      (told_at plan js s) (drop (get_or next s 0 + 1) (entries_of js s))
  first_rest s h = ap (map (told_at plan js s)) (first_left s h)

  pub no_rest : (s : ℕ) → length (entries_of js s) ≤ get_or next s 0 → rests plan js next s ≡ []
  no_rest s h = ap (map (told_at plan js s)) (drop_all (get_or next s 0) (entries_of js s) h)

  pub some_rest : (s : ℕ) → get_or next s 0 < length (entries_of js s) → rests plan js next s ≢ []
  some_rest s h e = let f = first_rest s h in cc

  pub may_here : {S : Type 0} (turns : Turns) (counts : HashMap (ℕ × ℕ) ℕ S) (s : ℕ)
      → ((t g : ℕ) → tally counts t g ≡ busy_below t g (left_entries plan js next) (length js))
      → SessionMayCome turns counts js next s
      → May ticketed (shown turns) (rests plan js next)
      (told_at plan js s (get_or (entries_of js s) (get_or next s 0) none))
  may_here turns counts s counted m =
      let e = get_or (entries_of js s) (get_or next s 0) none in
      let l = told_at plan js s e in
      record {
        rest = map (told_at plan js s) (drop (get_or next s 0 + 1) (entries_of js s));
        first = first_rest s m.more;
        comes = (comes_is turns e.place l).0 m.comes;
        free = (free_is counts l e.place counted).0 m.free;
      }

  pub can_back : {S : Type 0} (turns : Turns) (counts : HashMap (ℕ × ℕ) ℕ S) (s : ℕ)
      → ((t g : ℕ) → tally counts t g ≡ busy_below t g (left_entries plan js next) (length js))
      → Can ticketed (shown turns) (rests plan js next) s → SessionMayCome turns counts js next s
  can_back turns counts s counted (x, q, may) =
      let e = get_or (entries_of js s) (get_or next s 0) none in
      let l = told_at plan js s e in
      let first : rests plan js next s ≡ x ∷ may.rest =
      subst (λ (v : ℕ). rests plan js next v ≡ x ∷ may.rest) q may.first in
      dite (dec_lt (get_or next s 0) (length (entries_of js s)))
      (λ more. let is = first_rest s more in let same : x ≡ l = cc in
      record {
        more = more;
        comes = (comes_is turns e.place l).1 (subst (Comes ticketed (shown turns)) same may.comes);
        free =
            (free_is counts l e.place counted).1
            (subst (Free ticketed (rests plan js next)) same may.free);
      })
      (λ past. let none_left = no_rest s (omega arith) in absurd (cc))

  module _ (s : ℕ) (in_next : s < length next) (more : get_or next s 0 < length (entries_of js s))
    where
      abbrev e_here : Entry
      e_here = get_or (entries_of js s) (get_or next s 0) none

      abbrev next_after : List ℕ
      next_after = set next s (get_or next s 0 + 1)

      pub takes_here : Takes ticketed (rests plan js next) (told_at plan js s e_here)
          (rests plan js next_after)
      takes_here = record {
        here =
            first_rest s more
            ∙ ap
            (λ (m : ℕ). told_at plan js s e_here ∷ map (told_at plan js s)
            (drop m (entries_of js s)))
            (sym (get_or-set_same next s (get_or next s 0 + 1) 0 in_next));
        others =
            λ u n.
            ap (λ (m : ℕ). map (told_at plan js u) (drop m (entries_of js u)))
            (get_or-set_other next s u (get_or next s 0 + 1) 0 n);
      }

      pub counts_step : (t g : ℕ) → s < length js
          → busy_below t g (left_entries plan js next_after) (length js) + busy_one t g e_here.place
          ≡ busy_below t g (left_entries plan js next) (length js)
      counts_step t g lt =
          below_step t g (left_entries plan js next) (left_entries plan js next_after) s e_here
          (length js) lt
          (first_left s more
          ∙ ap (λ (m : ℕ). e_here ∷ drop m (entries_of js s))
          (sym (get_or-set_same next s (get_or next s 0 + 1) 0 in_next)))
          (λ u n. ap (λ (m : ℕ). drop m (entries_of js u))
          (get_or-set_other next s u (get_or next s 0 + 1) 0 n))
