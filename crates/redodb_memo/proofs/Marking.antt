-- Marks that are set and removed, and the queue's invariant.
use Rattle.std.proofs.Common.{◌≡◌, ◌⊎◌, ◌↔◌, ◌∙◌, ℕ, ◌<◌, ◌≤◌, ◌+◌, ◌^◌, Bool, true, false, cond, not, IsTrue, List, [], ◌∷◌, ◌++◌, length, get_or, replicate, set, take, refl, sym, ap, subst, inl, inr, arith, length-append, append_assoc}
use Rattle.std.proofs.lemmas.Bool.{cases_Bool, cases_eq, cases_lt, false≢true}
use Rattle.std.proofs.lemmas.List.{length-set, get_or-set_same, get_or-set_other, get_or_past, take_all, take-append-le}
use Rattle.std.proofs.lemmas.List.Sums.{sum_by-set, count_by-le-length}
use Rattle.std.proofs.lemmas.List.Quantifiers.{all_pairs_push}
use Rattle.std.proofs.lemmas.List.Elements.{Contains-get_or, Contains-push, Contains-push_cases, Contains-append_left}
use Rattle.std.specs.List.{count_by, Contains}
use Rattle.redodb_model.specs.Renaming.{AllBelow}
use Rattle.redodb_model.proofs.Listing.{one_more, each_below}
use Rattle.redodb_model.proofs.MorePlaces.{same_everywhere}
use Rattle.redodb_memo.specs.Bits.{IsSet}
use Rattle.redodb_memo.specs.NameSet.{Marked, IsMarked, IsQueued, IsQueue, Grows, Enters, Unmarks, size_of}
use Rattle.redodb_memo.specs.Support.NameSet.{AreQueued, MarksOnly}

fewer_by_one : (marks : List Bool) (t : ℕ) → t < length marks → get_or marks t false ≡ false
    → count_by not (set marks t true) + 1 ≡ count_by not marks
fewer_by_one marks t below off =
    let s = sum_by-set (λ x. cond (not x) 1 0) marks t true false below in
    let one : ℕ = 1 in
    let f : cond (not (get_or marks t false)) 1 0 ≡ one = ap (λ b. cond (not b) 1 0) off in
    omega (arith, s, f)

set_here : (marks : List Bool) (t : ℕ) → t < length marks → IsSet (set marks t true) t
set_here marks t below = get_or-set_same marks t true false below

set_stays : (marks : List Bool) (t u : ℕ) → t < length marks → IsSet marks u
    → IsSet (set marks t true) u
set_stays marks t u below on = elim (cases_eq u t) [
  | inl e ↦ subst (IsSet (set marks t true)) (sym e) (set_here marks t below)
  | inr other ↦ get_or-set_other marks t u true false other ∙ on
]

pub set_cases : (marks : List Bool) (t u : ℕ) → IsSet (set marks t true) u → IsSet marks u ⊎ (u ≡ t)
set_cases marks t u on = elim (cases_eq u t) [
  | inl e ↦ inr e
  | inr other ↦ inl (sym (get_or-set_other marks t u true false other) ∙ on)
]

-- a marked name is below the end of the marks
pub marked_below : (marks : List Bool) (t : ℕ) → IsSet marks t → t < length marks
marked_below marks t on = elim (cases_lt t (length marks)) [
  | inl below ↦ below
  | inr past ↦ absurd (false≢true (sym (get_or_past marks t false past) ∙ on))
]

-- none is marked at first
pub none_marked : (count k : ℕ) → IsSet (replicate count false) k → ⊥
none_marked count k on = false≢true (sym (same_everywhere count k false) ∙ on)

-- a name is marked or isn't
pub marked_or_not : (m : Marked) (t : ℕ) → IsMarked m t ⊎ (IsMarked m t → ⊥)
marked_or_not m t = elim (cases_Bool (get_or m.marks t false)) [
  | inl on ↦ inl on
  | inr off ↦ inr (λ on. false≢true (sym off ∙ on))
]

pub grows_then : {a b c : Marked} → Grows a b → Grows b c → Grows a c
grows_then {a = a} {b = b} {c = c} f g = record {
  sized = g.sized ∙ f.sized;
  keeps = λ t on. g.keeps t (f.keeps t on);
  behind = (
    f.behind.0 ++ g.behind.0,
    g.behind.1 ∙ ap (λ q. q ++ g.behind.0) f.behind.1
        ∙ append_assoc a.queue f.behind.0 g.behind.0,
  );
  queued = λ t. (
    λ q. elim ((g.queued t).0 q) [
      | inl q1 ↦ elim ((f.queued t).0 q1) [
        | inl q0 ↦ inl q0
        | inr w ↦ inr (g.keeps t w.0, w.1)
      ]
      | inr w ↦ inr (w.0, λ on. w.1 (f.keeps t on))
    ],
    λ s. (g.queued t).1 (elim s [
      | inl q0 ↦ inl ((f.queued t).1 (inl q0))
      | inr w ↦ elim (marked_or_not b t) [
        | inl on ↦ inl ((f.queued t).1 (inr (on, w.1)))
        | inr off ↦ inr (w.0, off)
      ]
    ]),
  );
}

pub grows_longer : {a b : Marked} → Grows a b → length a.queue ≤ length b.queue
grows_longer {a = a} {b = b} f =
    omega (arith, ap length f.behind.1, length-append a.queue f.behind.0)

-- the old queue is a prefix of the new one
pub prefix_of : {a b : Marked} → Grows a b → (k : ℕ) → k ≡ length a.queue
    → take k b.queue ≡ a.queue
prefix_of {a = a} {b = b} f k at =
    let inside : k ≤ length a.queue = omega (arith, at) in
    let whole : length a.queue ≤ k = omega (arith, at) in
    ap (take k) f.behind.1 ∙ take-append-le k a.queue f.behind.0 inside
    ∙ take_all k a.queue whole

-- a name that wasn't marked enters
module _ (m : Marked) (t : ℕ) (below : t < size_of m) (off : get_or m.marks t false ≡ false) where
  grows_by_name : Grows m (record { marks = set m.marks t true; queue = m.queue ++ t ∷ [] })
  grows_by_name = record {
    sized = length-set m.marks t true;
    keeps = λ u. set_stays m.marks t u below;
    behind = (t ∷ [], refl);
    queued = λ u. (
      λ q. elim (Contains-push_cases m.queue t u q) [
        | inl old ↦ inl old
        | inr e ↦ inr (
          subst (IsSet (set m.marks t true)) e (set_here m.marks t below),
          λ on. false≢true (sym off ∙ subst (IsMarked m) (sym e) on),
        )
      ],
      λ s. elim s [
        | inl old ↦ Contains-append_left m.queue (t ∷ []) u old
        | inr w ↦ elim (set_cases m.marks t u w.0) [
          | inl on ↦ absurd (w.1 on)
          | inr e ↦ subst (Contains (m.queue ++ t ∷ [])) (sym e) (Contains-push m.queue t)
        ]
      ],
    );
  }

  pub enters_name : Enters (λ u. u ≡ t) m
      (record { marks = set m.marks t true; queue = m.queue ++ t ∷ [] })
  enters_name = record {
    grown = grows_by_name;
    each = λ u. (
      set_cases m.marks t u,
      λ s. elim s [
        | inl on ↦ set_stays m.marks t u below on
        | inr e ↦ subst (IsSet (set m.marks t true)) (sym e) (set_here m.marks t below)
      ],
    );
  }

  pub queue_with_name : IsQueue m
      → IsQueue (record { marks = set m.marks t true; queue = m.queue ++ t ∷ [] })
  queue_with_name h =
      let sized = length-set m.marks t true in
      let longer = length-append m.queue (t ∷ []) in
      record {
        marked = λ u q. elim ((grows_by_name.queued u).0 q) [
          | inl old ↦ grows_by_name.keeps u (h.marked u old)
          | inr w ↦ w.0
        ];
        once = all_pairs_push (λ x y. x ≡ y → ⊥) m.queue t h.once (λ k d in' e.
            let here : IsQueued m t = subst (IsQueued m) e (Contains-get_or m.queue k d in') in
            false≢true (sym off ∙ h.marked t here));
        counted = omega (arith, fewer_by_one m.marks t below off, h.counted, longer, sized);
        few = subst (λ n. n < 2 ^ 32) (sym sized) h.few;
      }

-- two entries, one after the other
pub enters_then : {P Q : ℕ → Type 0} {a b c : Marked} (R : ℕ → Type 0)
    → ((t : ℕ) → R t ↔ (P t ⊎ Q t)) → Enters P a b → Enters Q b c → Enters R a c
enters_then R both f g = record {
  grown = grows_then f.grown g.grown;
  each = λ t. (
    λ on. elim ((g.each t).0 on) [
      | inl on1 ↦ elim ((f.each t).0 on1) [
        | inl old ↦ inl old
        | inr p ↦ inr ((both t).1 (inl p))
      ]
      | inr x ↦ inr ((both t).1 (inr x))
    ],
    λ s. (g.each t).1 (elim s [
      | inl old ↦ inl ((f.each t).1 (inl old))
      | inr r ↦ elim ((both t).0 r) [ inl p ↦ inl ((f.each t).1 (inr p)) | inr x ↦ inr x ]
    ]),
  );
}

-- the names of a list enter, one after the other
pub enters_one_more : {a b c : Marked} (P : ℕ → Type 0) (ts : List ℕ) (k d : ℕ) (due : Bool)
    → k < length ts → (IsTrue due ↔ P (get_or ts k d))
    → Enters (λ u. P u × Contains (take k ts) u) a b
    → Enters (λ u. IsTrue due × (u ≡ get_or ts k d)) b c
    → Enters (λ u. P u × Contains (take (k + 1) ts) u) a c
enters_one_more P ts k d due in' is f g =
    enters_then (λ u. P u × Contains (take (k + 1) ts) u) (λ u. (
      λ h. elim ((one_more ts k d u in').0 h.1) [
        | inl old ↦ inl (h.0, old)
        | inr here ↦ inr (is.1 (subst P here h.0), here)
      ],
      λ s. elim s [
        | inl old ↦ (old.0, (one_more ts k d u in').1 (inl old.1))
        | inr new ↦ (subst P (sym new.1) (is.0 new.0), (one_more ts k d u in').1 (inr new.1))
      ],
    )) f g

-- if nothing was marked or queued, exactly what enters is
pub marks_entered : {P : ℕ → Type 0} {a b : Marked} → ((t : ℕ) → IsMarked a t → ⊥)
    → ((t : ℕ) → IsQueued a t → ⊥) → Enters P a b → MarksOnly P b
marks_entered {b = b} unmarked empty e =
    let queued : (t : ℕ) → IsMarked b t → IsQueued b t =
    λ t on. (e.grown.queued t).1 (inr (on, unmarked t)) in
    record {
      queued = λ t. (
        λ q. elim ((e.grown.queued t).0 q) [
          | inl before ↦ absurd (empty t before)
          | inr w ↦ elim ((e.each t).0 w.0) [ inl on ↦ absurd (w.1 on) | inr p ↦ p ]
        ],
        λ p. queued t ((e.each t).1 (inr p)),
      );
      marked = queued;
    }

-- if each marked name was queued, each is after names entered
pub still_queued : {P : ℕ → Type 0} {a b : Marked} → AreQueued a → Enters P a b → AreQueued b
still_queued {a = a} kept e t on = elim (marked_or_not a t) [
  | inl before ↦ (e.grown.queued t).1 (inl (kept t before))
  | inr off ↦ (e.grown.queued t).1 (inr (on, off))
]

-- and the queue has what enters besides
pub queued_too : {P : ℕ → Type 0} {a b : Marked} → AreQueued a → Enters P a b → (t : ℕ)
    → IsQueued b t ↔ (IsQueued a t ⊎ P t)
queued_too {a = a} kept e t = (
  λ q. elim ((e.grown.queued t).0 q) [
    | inl before ↦ inl before
    | inr w ↦ elim ((e.each t).0 w.0) [ inl on ↦ absurd (w.1 on) | inr p ↦ inr p ]
  ],
  λ s. elim s [
    | inl before ↦ (e.grown.queued t).1 (inl before)
    | inr p ↦ still_queued kept e t ((e.each t).1 (inr p))
  ],
)

-- the mark of one more name of a list is removed
pub unmarked_one_more : (old marks : List Bool) (ts : List ℕ) (k d : ℕ) → k < length ts
    → get_or ts k d < length marks
    → ((t : ℕ) → IsSet marks t ↔ (IsSet old t × (Contains (take k ts) t → ⊥)))
    → (t : ℕ) → IsSet (set marks (get_or ts k d) false) t
    ↔ (IsSet old t × (Contains (take (k + 1) ts) t → ⊥))
unmarked_one_more old marks ts k d in' below before t =
    let n = get_or ts k d in
    let off : get_or (set marks n false) n false ≡ false =
    get_or-set_same marks n false false below in (
      λ on. elim (cases_eq t n) [
        | inl e ↦ absurd (false≢true (sym off ∙ subst (IsSet (set marks n false)) e on))
        | inr other ↦
            let was = (before t).0 (sym (get_or-set_other marks n t false false other) ∙ on) in (
              was.0,
              λ c. elim ((one_more ts k d t in').0 c) [
                | inl earlier ↦ was.1 earlier
                | inr here ↦ other here
              ],
            )
      ],
      λ h.
          let other : t ≡ n → ⊥ = λ e. h.1 ((one_more ts k d t in').1 (inr e)) in
          get_or-set_other marks n t false false other
          ∙ (before t).1 (h.0, λ c. h.1 ((one_more ts k d t in').1 (inl c))),
    )

-- the marks of the names with P are removed, and the queue is empty
pub unmarks_from : (P : ℕ → Type 0) (m : Marked) (marks : List Bool) → length marks ≡ size_of m
    → ((t : ℕ) → IsSet marks t ↔ (IsMarked m t × (P t → ⊥)))
    → Unmarks P m (record { marks = marks; queue = [] })
unmarks_from P m marks sized each = record {
  sized = sized;
  none = λ t q. absurd (omega (arith, q.1));
  each = each;
}

pub queue_emptied : (marks : List Bool) → length marks < 2 ^ 32
    → IsQueue (record { marks = marks; queue = [] })
queue_emptied marks few = record {
  marked = λ t q. absurd (omega (arith, q.1));
  once = λ i j d before in'. absurd (omega (arith, in'));
  counted = omega (arith, count_by-le-length not marks);
  few = few;
}

-- what is queued is marked, so it is below the end of the marks
pub queue_below : (m : Marked) → IsQueue m → AllBelow (size_of m) m.queue
queue_below m kept =
    each_below (size_of m) m.queue (λ t q. marked_below m.marks t (kept.marked t q))
