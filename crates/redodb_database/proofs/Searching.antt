-- A search along change rows, step by step.
use Rattle.std.proofs.Common.{◌≡◌, ◌⊎◌, ◌↔◌, ◌∙◌, ℕ, ◌<◌, ◌≤◌, ◌+◌, true, List, [], ◌∷◌, ◌++◌, length, get_or, take, Option, IsSome, refl, sym, ap, subst, inl, inr, arith, length-append, append_assoc}
use Rattle.std.proofs.Math.ListN.{get_or-append}
use Rattle.std.proofs.lemmas.Bool.{cases_lt}
use Rattle.std.proofs.lemmas.List.{get_or_default, length-set}
use Rattle.std.specs.List.{Contains}
use Rattle.redodb_model.specs.State.{Records}
use Rattle.redodb_model.specs.OutOfDate.{IsTarget, HasReason, Depends}
use Rattle.redodb_model.proofs.Members.{contains_first, contains_none}
use Rattle.redodb_memo.specs.NameSet.{Marked, IsMarked, IsQueued, with_name, size_of}
use Rattle.redodb_database.specs.Support.Search.{IsSearch, StepsBefore, Finds, HaveNoReason}
use Rattle.redodb_memo.proofs.Marking.{set_cases}
use Rattle.redodb_model.proofs.Listing.{one_more}
use Rattle.redodb_database.proofs.SearchTree.{search_with_name}

module _ (r : Records ℕ) where
  -- a search with fewer known steps
  pub fewer_steps : (Looked Fewer : ℕ → ℕ → Type 0) {at : ℕ} {seen : Marked} {parents : List ℕ}
      → ((i m : ℕ) → Fewer i m → Looked i m) → IsSearch r Looked at seen parents
      → IsSearch r Fewer at seen parents
  fewer_steps Looked Fewer weaker search = record {
    tree = search.tree;
    queued = search.queued;
    near = search.near;
    found = λ i m looked. search.found i m (weaker i m looked);
  }

  -- a name that was found before
  found_before : (Looked : ℕ → ℕ → Type 0) (n from : ℕ) (seen : Marked)
      (parents : List ℕ) → IsSearch r Looked from seen parents → from < length seen.queue
      → (P : Type 0) → (P → IsMarked seen n)
      → IsSearch r (λ i m. Looked i m ⊎ ((i ≡ from) × (m ≡ n) × P)) from seen parents
  found_before Looked n from seen parents search in' P on = record {
    tree = search.tree;
    queued = search.queued;
    near = search.near;
    found = λ i m looked. elim looked [
      | inl earlier ↦ search.found i m earlier
      | inr (e, f, p) ↦
          let q : IsQueued seen n = search.queued n (on p) in
          let name : get_or seen.queue q.0 0 ≡ m =
          get_or_default seen.queue q.0 0 n q.1 ∙ q.2 ∙ sym f in
          let deep : search.tree.depth q.0 ≤ search.tree.depth i + 1 =
          omega (arith, search.near in' q.0 q.1, ap search.tree.depth e) in
          (q.0, q.1, name, deep)
    ];
  }

  -- the search looked at one more step of a place
  pub one_more_step : (P : Type 0) (Looked : ℕ → ℕ → Type 0) (n from : ℕ) (a b : Marked)
      (ps qs : List ℕ) → n < size_of a → from < length a.queue
      → ((i m : ℕ) → Looked i m → i ≤ from) → (P → Depends r (get_or a.queue from 0) n)
      → Finds P n from a ps b qs → IsSearch r Looked from a ps
      → IsSearch r (λ i m. Looked i m ⊎ ((i ≡ from) × (m ≡ n) × P)) from b qs
  one_more_step P Looked n from a b ps qs below in' before depends finds search = elim finds [
    | inl (same, same', on) ↦
        subst (λ k. IsSearch r (λ i m. Looked i m ⊎ ((i ≡ from) × (m ≡ n) × P)) from k qs)
        (sym same)
        (subst (λ ks. IsSearch r (λ i m. Looked i m ⊎ ((i ≡ from) × (m ≡ n) × P)) from a ks)
        (sym same') (found_before Looked n from a ps search in' P on))
    | inr (p, e, e') ↦
        subst (λ k. IsSearch r (λ i m. Looked i m ⊎ ((i ≡ from) × (m ≡ n) × P)) from k qs) (sym e)
        (subst (λ ks. IsSearch r (λ i m. Looked i m ⊎ ((i ≡ from) × (m ≡ n) × P)) from
        (with_name a n) ks) (sym e')
        (fewer_steps (λ i m. Looked i m ⊎ ((i ≡ from) × (m ≡ n)))
        (λ i m. Looked i m ⊎ ((i ≡ from) × (m ≡ n) × P))
        (λ i m s. elim s [ inl old ↦ inl old | inr w ↦ inr (w.0, w.1) ])
        (search_with_name r Looked n from a ps search in' (depends p) below before)))
  ]

  -- the search looked at all steps of a place
  pub next_place : (Looked : ℕ → ℕ → Type 0) (at : ℕ) (seen : Marked) (parents : List ℕ)
      → IsSearch r Looked at seen parents → at < length seen.queue
      → IsSearch r Looked (at + 1) seen parents
  next_place Looked at seen parents search in' = record {
    tree = search.tree;
    queued = search.queued;
    near = λ more j here.
        let rise = search.tree.rising at (at + 1) (omega arith) more in
        omega (arith, search.near in' j here, rise);
    found = search.found;
  }

  -- the search begins at one name
  pub search_begun : (Looked : ℕ → ℕ → Type 0) (t : ℕ) (seen : Marked) (parents : List ℕ)
      → ((i m : ℕ) → Looked i m → ⊥) → seen.queue ≡ t ∷ [] → parents ≡ 0 ∷ []
      → ((n : ℕ) → IsMarked seen n → IsQueued seen n) → IsSearch r Looked 0 seen parents
  search_begun Looked t seen parents none q p queued =
      let one : length seen.queue ≡ 1 = ap length q in
      let one' : length parents ≡ 1 = ap length p in
      record {
        tree = record {
          depth = λ i. 0;
          sized = omega (arith, one, one');
          earlier = λ i some here. absurd (omega (arith, one, some, here));
          step = λ i some here. absurd (omega (arith, one, some, here));
          first = refl;
          deeper = λ i some here. absurd (omega (arith, one, some, here));
          rising = λ i j le here. omega arith;
        };
        queued = queued;
        near = λ some j here. omega arith;
        found = λ i m looked. absurd (none i m looked);
      }

-- the steps from the places before this one, and those along the rows of t, the name at this place,
-- to some names
abbrev pub StepsPartly : Records ℕ → Marked → List ℕ → ℕ → ℕ → List ℕ → ℕ → ℕ → Type 0
StepsPartly r out queue at t names i n = StepsBefore r out queue at i n
    ⊎ ((i ≡ at) × Contains names n × IsSome (r.rows.change t n) × IsMarked out n)

module _ (r : Records ℕ) (out : Marked) (queue : List ℕ) (at t : ℕ) (in' : at < length queue)
    (here : t ≡ get_or queue at 0)
  where
    partly_before : (names : List ℕ) (i m : ℕ) → StepsPartly r out queue at t names i m → i ≤ at
    partly_before names i m step = elim step [
      | inl w ↦ omega (arith, w.0)
      | inr w ↦ omega (arith, w.0)
    ]

    -- the search looked at no row of t
    pub partly_begun : {seen : Marked} {parents : List ℕ}
        → IsSearch r (StepsBefore r out queue at) at seen parents
        → IsSearch r (StepsPartly r out queue at t []) at seen parents
    partly_begun search = fewer_steps r (StepsBefore r out queue at)
        (StepsPartly r out queue at t [])
        (λ i m s. elim s [ inl before ↦ before | inr w ↦ absurd (contains_none m w.1) ]) search

    -- the search looked at one more row of t
    pub partly_more : (names : List ℕ) (k n : ℕ) (a b : Marked) (ps qs ns : List ℕ) (P : Type 0)
        → k < length names → get_or names k 0 ≡ n → n < size_of a → a.queue ≡ queue ++ ns
        → IsTarget r t → P ↔ (IsSome (r.rows.change t n) × IsMarked out n)
        → Finds P n at a ps b qs
        → IsSearch r (StepsPartly r out queue at t (take k names)) at a ps
        → IsSearch r (StepsPartly r out queue at t (take (k + 1) names)) at b qs
    partly_more names k n a b ps qs ns P in'' named below behind target due finds search =
        let L : ℕ → ℕ → Type 0 = StepsPartly r out queue at t (take k names) in
        let longer : at < length a.queue =
        omega (arith, in', ap length behind, length-append queue ns) in
        let stands : t ≡ get_or a.queue at 0 =
        here ∙ sym (ap (λ q. get_or q at 0) behind ∙ get_or-append queue ns 0 at in') in
        let depends : P → Depends r (get_or a.queue at 0) n =
        λ p. subst (λ u. Depends r u n) stands (target, (due.0 p).0) in
        fewer_steps r (λ i m. L i m ⊎ ((i ≡ at) × (m ≡ n) × P))
        (StepsPartly r out queue at t (take (k + 1) names))
        (λ i m s. elim s [
          | inl before ↦ inl (inl before)
          | inr w ↦ elim ((one_more names k 0 m in'').0 w.1) [
            | inl earlier ↦ inl (inr (w.0, earlier, w.2, w.3))
            | inr now ↦
                let here : m ≡ n = now ∙ named in
                let row = subst (λ u. IsSome (r.rows.change t u)) here w.2 in
                inr (w.0, here, due.1 (row, subst (IsMarked out) here w.3))
          ]
        ])
        (one_more_step r P L n at a b ps qs below longer (partly_before (take k names)) depends
        finds search)

    -- the search looked at all rows of t, if it is a target
    pub partly_done : (names : List ℕ) (seen : Marked) (parents ns : List ℕ)
        → seen.queue ≡ queue ++ ns
        → (IsTarget r t → (n : ℕ) → IsSome (r.rows.change t n) → Contains names n)
        → IsSearch r (StepsPartly r out queue at t names) at seen parents
        → IsSearch r (StepsBefore r out seen.queue (at + 1)) (at + 1) seen parents
    partly_done names seen parents ns behind all search =
        let longer : at < length seen.queue =
        omega (arith, in', ap length behind, length-append queue ns) in
        let same : (i : ℕ) → i < length queue → get_or seen.queue i 0 ≡ get_or queue i 0 =
        λ i below. ap (λ q. get_or q i 0) behind ∙ get_or-append queue ns 0 i below in
        next_place r (StepsBefore r out seen.queue (at + 1)) at seen parents
        (fewer_steps r (StepsPartly r out queue at t names)
        (StepsBefore r out seen.queue (at + 1))
        (λ i m s. elim (cases_lt i at) [
          | inl before ↦
              let e = same i (omega (arith, before, in')) in
              inl (before, subst (λ u. Depends r u m) e s.1, s.2)
          | inr past ↦
              let e : i ≡ at = omega (arith, past, s.0) in
              let stands : get_or seen.queue i 0 ≡ t =
              ap (λ k. get_or seen.queue k 0) e ∙ same at in' ∙ sym here in
              let step = subst (λ u. Depends r u m) stands s.1 in
              inr (e, all step.0 m step.1, step.1, s.2)
        ]) search) longer

-- what is due for a row is due for an equal name
pub due_at : {X : Type 0} (P : Type 0) (out : Marked) (row other : Option X) (n m : ℕ)
    → row ≡ other → n ≡ m → P ↔ (IsSome other × IsMarked out m)
    → P ↔ (IsSome row × IsMarked out n)
due_at P out row other n m e f due = (
  λ p. (subst IsSome (sym e) (due.0 p).0, subst (IsMarked out) (sym f) (due.0 p).1),
  λ w. due.1 (subst IsSome e w.0, subst (IsMarked out) f w.1),
)

pub finds_sized : (P : Type 0) (n from : ℕ) (a b : Marked) (ps qs : List ℕ)
    → Finds P n from a ps b qs → size_of b ≡ size_of a
finds_sized P n from a b ps qs finds = elim finds [
  | inl w ↦ ap size_of w.0
  | inr w ↦ ap size_of w.1 ∙ length-set a.marks n true
]

pub finds_behind : (P : Type 0) (n from : ℕ) (queue : List ℕ) (a b : Marked) (ps qs : List ℕ)
    → Finds P n from a ps b qs → (ns : List ℕ) × (a.queue ≡ queue ++ ns)
    → (ns : List ℕ) × (b.queue ≡ queue ++ ns)
finds_behind P n from queue a b ps qs finds behind = elim finds [
  | inl w ↦ (behind.0, ap (λ (m : Marked). m.queue) w.0 ∙ behind.1)
  | inr w ↦ (
    behind.0 ++ n ∷ [],
    ap (λ (m : Marked). m.queue) w.1 ∙ ap (λ q. q ++ n ∷ []) behind.1
        ∙ append_assoc queue behind.0 (n ∷ []),
  )
]

none_in : (ns : List ℕ) → ((n : ℕ) → Contains ns n → ⊥) → ns ≡ []
none_in [] none = refl
none_in (n ∷ ns) none = absurd (none n (contains_first n ns))

-- the queue of the search's first name alone
pub one_name : (t : ℕ) (m b : Marked) → ((n : ℕ) → IsQueued m n → ⊥)
    → b ≡ with_name m t → b.queue ≡ t ∷ []
one_name t m b empty f =
    ap (λ (k : Marked). k.queue) f ∙ ap (λ q. q ++ t ∷ []) (none_in m.queue empty)

pub one_name_sized : (t : ℕ) (m b : Marked) → b ≡ with_name m t → size_of b ≡ size_of m
one_name_sized t m b f = ap size_of f ∙ length-set m.marks t true

-- the search begins at a name while nothing is marked
pub search_at_first : (r : Records ℕ) (out : Marked) (t : ℕ) (m b : Marked) (ps : List ℕ)
    → ((n : ℕ) → IsMarked m n → ⊥) → ((n : ℕ) → IsQueued m n → ⊥) → b ≡ with_name m t
    → ps ≡ 0 ∷ [] → IsSearch r (StepsBefore r out b.queue 0) 0 b ps
search_at_first r out t m b ps unmarked empty f p =
    let q = one_name t m b empty f in
    search_begun r (StepsBefore r out b.queue 0) t b ps (λ i n s. absurd (omega (arith, s.0))) q p
    (λ n on. elim (set_cases m.marks t n (subst (λ (k : Marked). IsMarked k n) f on)) [
      | inl before ↦ absurd (unmarked n before)
      | inr here ↦ subst (λ (ks : List ℕ). Contains ks n) (sym q)
          (subst (Contains (t ∷ [])) (sym here) (contains_first t []))
    ])

-- none of the names has a reason, nor has the one at this place
pub none_here : (r : Records ℕ) (queue : List ℕ) (from at : ℕ) → HaveNoReason r queue from at
    → (HasReason r (get_or queue at 0) → ⊥) → HaveNoReason r queue from (at + 1)
none_here r queue from at none here i past before reason = elim (cases_lt i at) [
  | inl earlier ↦ none i past earlier reason
  | inr later ↦
      let e : i ≡ at = omega (arith, later, before) in
      here (subst (λ k. HasReason r (get_or queue k 0)) e reason)
]

-- none of the names before a place has a reason, and none from there up to another
pub none_before : (r : Records ℕ) (queue : List ℕ) (from to : ℕ)
    → HaveNoReason r queue 0 from → HaveNoReason r queue from to → HaveNoReason r queue 0 to
none_before r queue from to none more i past before reason = elim (cases_lt i from) [
  | inl earlier ↦ none i past earlier reason
  | inr later ↦ more i later before reason
]

-- and still none if more names are found
pub none_still : (r : Records ℕ) (queue longer ns : List ℕ) → longer ≡ queue ++ ns
    → HaveNoReason r queue 0 (length queue) → HaveNoReason r longer 0 (length queue)
none_still r queue longer ns behind none i past before reason =
    let same : get_or longer i 0 ≡ get_or queue i 0 =
    ap (λ q. get_or q i 0) behind ∙ get_or-append queue ns 0 i before in
    none i past before (subst (HasReason r) same reason)

pub first_kept : (queue whole ns : List ℕ) → 0 < length queue → whole ≡ queue ++ ns
    → get_or whole 0 0 ≡ get_or queue 0 0
first_kept queue whole ns some behind =
    ap (λ q. get_or q 0 0) behind ∙ get_or-append queue ns 0 0 some
