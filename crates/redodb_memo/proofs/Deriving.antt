-- The out-of-date targets of a region, derived from those outside of it.
use Rattle.std.proofs.Common.{◌≡◌, ◌⊎◌, ◌↔◌, ◌∙◌, ℕ, ◌<◌, ◌+◌, Bool, false, List, [], ◌∷◌, length, get_or, take, drop, refl, sym, ap, subst, inl, inr}
use Rattle.std.specs.List.{Contains}
use Rattle.std.proofs.Math.ListN.{replicate}
use Rattle.std.proofs.lemmas.Bool.{false≢true}
use Rattle.std.proofs.lemmas.List.{take-append-drop}
use Rattle.std.proofs.lemmas.List.Elements.{Contains-append_cases}
use Rattle.redodb_model.specs.State.{Records, empty}
use Rattle.redodb_model.specs.OutOfDate.{OutOfDate, Depends}
use Rattle.redodb_model.specs.Support.OutOfDate.{DifferAt, TouchesSeed, InRegion}
use Rattle.redodb_model.proofs.Members.{contains_first, contains_cases, contains_none}
use Rattle.redodb_model.proofs.Region.{differ_nowhere, differ_then, out_of_date_by_step, as_before_outside, was_out_of_date, derived_along}
use Rattle.redodb_model.proofs.UpToDate.{idle_up_to_date}
use Rattle.redodb_model.proofs.MorePlaces.{same_everywhere}
use Rattle.redodb_memo.specs.NameSet.{Marked, IsMarked, IsQueued, Enters, Grows, Unmarks, size_of}
use Rattle.redodb_memo.specs.Support.NameSet.{MarksOnly, IsCleared}
use Rattle.redodb_memo.specs.Memo.{is_out, IsRight, WasRight}
use Rattle.redodb_memo.specs.Support.Regions.{Spreads, IsDue, IsClosed, IsSound, EntersDue}
use Rattle.redodb_model.proofs.Listing.{listed_or_not, one_more}
use Rattle.redodb_memo.proofs.Marking.{prefix_of, grows_then, marked_or_not}
use Rattle.redodb_memo.proofs.Spreading.{reaches_queued, reaches_out_of_date}

due_then : (r : Records ℕ) {a b : Marked} → Grows a b → (t : ℕ) → IsDue r a t → IsDue r b t
due_then r grown t due = elim due [
  | inl reason ↦ inl reason
  | inr w ↦ inr (w.0, w.1, grown.keeps w.0 w.2)
]

due_out_of_date : (r : Records ℕ) (m : Marked) → ((t : ℕ) → IsMarked m t → OutOfDate r t)
    → (t : ℕ) → IsDue r m t → OutOfDate r t
due_out_of_date r m sound t due = elim due [
  | inl reason ↦ ([], reason)
  | inr w ↦ out_of_date_by_step r t w.0 w.1 (sound w.0 w.2)
]

-- a due name enters, and all that depend on it
module _ (r : Records ℕ) (t : ℕ) {a b c : Marked} (due : IsDue r a t)
    (e : Enters (λ u. u ≡ t) a b) (s : Spreads r c.queue b c)
  where
    module _ (sound : IsSound r a) where
      marked_sound : (u : ℕ) → IsMarked b u → OutOfDate r u
      marked_sound u on = elim ((e.each u).0 on) [
        | inl before ↦ sound u (inl before)
        | inr here ↦
            let out = due_out_of_date r a (λ v before. sound v (inl before)) t due in
            subst (OutOfDate r) (sym here) out
      ]

      queued_sound : (u : ℕ) → IsQueued b u → OutOfDate r u
      queued_sound u q = elim ((e.grown.queued u).0 q) [
        | inl before ↦ sound u (inr before)
        | inr w ↦ marked_sound u w.0
      ]

      spread_sound : (u : ℕ) → IsMarked c u → OutOfDate r u
      spread_sound u on = elim (s.reaches u on) [
        | inl before ↦ marked_sound u before
        | inr reach ↦ (let out = reaches_queued r b queued_sound u reach in
            reaches_out_of_date r out.0 u out.1)
      ]

      sound_then : IsSound r c
      sound_then u h = elim h [
        | inl on ↦ spread_sound u on
        | inr q ↦ elim ((s.grown.queued u).0 q) [
          | inl before ↦ queued_sound u before
          | inr w ↦ spread_sound u w.0
        ]
      ]

    pub due_spread : EntersDue r (t ∷ []) a c
    due_spread = record {
      grown = grows_then e.grown s.grown;
      sound = sound_then;
      closed = λ _. s.closed;
      due = λ u c h. elim (contains_cases t [] u c) [
        | inl e' ↦ s.grown.keeps u ((e.each u).1 (inr (sym e')))
        | inr none ↦ absurd (contains_none u none)
      ];
    }

-- the set was closed when the queue was shorter
pub closed_then : (r : Records ℕ) {a b : Marked} (from : ℕ) → from ≡ length a.queue → Grows a b
    → IsClosed r a.queue a → IsClosed r (take from b.queue) b
closed_then r from at g closed t n c step =
    let before = subst (λ (xs : List ℕ). Contains xs n) (prefix_of g from at) c in
    g.keeps t (closed t n before step)

-- one more name of a list enters if it is due
pub due_more : (r : Records ℕ) (a b c : Marked) (ts : List ℕ) (k d : ℕ) → k < length ts
    → EntersDue r (take k ts) a b → EntersDue r (get_or ts k d ∷ []) b c
    → EntersDue r (take (k + 1) ts) a c
due_more r a b c ts k d in' f g =
    let n = get_or ts k d in
    record {
      grown = grows_then f.grown g.grown;
      sound = λ sound. g.sound (f.sound sound);
      closed = λ closed. g.closed (f.closed closed);
      due = λ t c h. elim ((one_more ts k d t in').0 c) [
        | inl earlier ↦ g.grown.keeps t (f.due t earlier h)
        | inr here ↦
            let only = subst (Contains (n ∷ [])) (sym here) (contains_first n []) in
            g.due t only (due_then r f.grown t h)
      ];
    }

-- in the empty state nothing is out of date
pub right_at_first : (names : ℕ) (m : Marked)
    → m ≡ record { marks = replicate names false; queue = [] } → IsRight m.marks empty.records
right_at_first names m at t =
    let off : get_or m.marks t false ≡ false =
    ap (λ (k : Marked). get_or k.marks t false) at ∙ same_everywhere names t false in (
      λ on. absurd (false≢true (sym off ∙ on)),
      λ out. absurd (idle_up_to_date empty.records t refl out),
    )

-- a memo that is right is so but for seeds
pub right_but_seeds : (seeds : List ℕ) (memo : List Bool) (r : Records ℕ) → IsRight memo r
    → WasRight seeds memo r
right_but_seeds seeds memo r right = (r, differ_nowhere seeds r, right)

-- a memo that was right but for seeds is so after one more change, but for its seeds too
pub right_but_more : {first second both : List ℕ} {old new : Records ℕ} (memo : List Bool)
    → ((n : ℕ) → Contains first n ⊎ Contains second n → Contains both n)
    → WasRight first memo old → DifferAt second old new → WasRight both memo new
right_but_more memo within was d = (was.0, differ_then within was.1 d, was.2)

-- the names of the queue are those of the region
pub region_listed : (r : Records ℕ) (seeds ns : List ℕ) {region : Marked}
    → MarksOnly (InRegion r seeds) region
    → ns ≡ region.queue → (t : ℕ) → Contains ns t ↔ InRegion r seeds t
region_listed r seeds ns is same =
    subst (λ (qs : List ℕ). (t : ℕ) → Contains qs t ↔ InRegion r seeds t) (sym same) is.queued

-- if nothing is queued, all that depends on queued names is marked
pub closed_after : {P : ℕ → Type 0} (r : Records ℕ) {a b : Marked} → Unmarks P a b
    → IsClosed r b.queue b
closed_after r unmarked t n c = absurd (unmarked.none n c)

-- the memo was right in a state that differs only at the seeds, and the marks of the region were
-- removed
module _ (r : Records ℕ) (seeds ns : List ℕ) (memo : List Bool) {out cleared : Marked}
    (was : WasRight seeds memo r) (seen : out.marks ≡ memo)
    (listed : (t : ℕ) → Contains ns t ↔ InRegion r seeds t)
    (unmarked : Unmarks (Contains ns) out cleared)
  where
    right_before : IsRight out.marks was.0
    right_before = subst (λ (bs : List Bool). IsRight bs was.0) (sym seen) was.2

    outside : (t : ℕ) → IsMarked cleared t → InRegion r seeds t → ⊥
    outside t on inside = ((unmarked.each t).0 on).1 ((listed t).1 inside)

    marked_out_of_date : (t : ℕ) → IsMarked cleared t → OutOfDate r t
    marked_out_of_date t on =
        (as_before_outside was.1 t (outside t on)).0
        ((right_before t).0 ((unmarked.each t).0 on).0)

    cleared_sound : IsSound r cleared
    cleared_sound t h = elim h [
      | inl on ↦ marked_out_of_date t on
      | inr q ↦ absurd (unmarked.none t q)
    ]

    -- what is due in the region touches a seed, or was out of date
    module _ (touching : ℕ)
        (touched : (t : ℕ) → TouchesSeed r seeds t → Contains (take touching ns) t)
        {outdated : Marked}
        (held : MarksOnly (λ t. IsMarked out t × Contains (drop touching ns) t) outdated)
      where
        due_of_these : (t : ℕ) → InRegion r seeds t → IsDue r cleared t
            → Contains (take touching ns) t ⊎ IsQueued outdated t
        due_of_these t inside due = elim (listed_or_not (take touching ns) t) [
          | inl here ↦ inl here
          | inr not ↦
              let before : OutOfDate was.0 t =
              was_out_of_date was.1 t (λ touches. not (touched t touches)) (elim due [
                | inl reason ↦ inl reason
                | inr w ↦ inr (w.0, w.1, outside w.0 w.2, marked_out_of_date w.0 w.2)
              ]) in
              let whole = subst (λ (us : List ℕ). Contains us t)
              (sym (take-append-drop touching ns)) ((listed t).1 inside) in
              inr ((held.queued t).1 (
                (right_before t).1 before,
                elim (Contains-append_cases (take touching ns) (drop touching ns) t whole) [
                  | inl here ↦ absurd (not here)
                  | inr rest ↦ rest
                ],
              ))
        ]

        module _ {some all : Marked} (first : EntersDue r (take touching ns) cleared some)
            (second : EntersDue r outdated.queue some all)
          where
            due_marked : (t : ℕ) → InRegion r seeds t → IsDue r cleared t → IsMarked all t
            due_marked t inside due = elim (due_of_these t inside due) [
              | inl here ↦ second.grown.keeps t (first.due t here due)
              | inr there ↦ second.due t there (due_then r first.grown t due)
            ]

            grown : Grows cleared all
            grown = grows_then first.grown second.grown

            dependent_marked : (t n : ℕ) → InRegion r seeds t → Depends r t n → IsMarked all n
                → IsMarked all t
            dependent_marked t n inside step on = elim (marked_or_not cleared n) [
              | inl before ↦ due_marked t inside (inr (n, step, before))
              | inr off ↦ second.closed (first.closed (closed_after r unmarked)) t n
                  ((grown.queued n).1 (inr (on, off))) step
            ]

            pub memo_right : IsRight all.marks r
            memo_right t = (
              λ on. second.sound (first.sound cleared_sound) t (inl on),
              λ o. derived_along was.1 (is_out all.marks)
                  (λ u away out_before.
                  let kept = (unmarked.each u).1
                  ((right_before u).1 out_before, λ c. away ((listed u).0 c)) in
                  grown.keeps u kept)
                  (λ u inside reason. due_marked u inside (inl reason))
                  dependent_marked
                  o.0 t o.1,
            )

-- the marks of all that was marked are removed
pub cleared_again : {P : ℕ → Type 0} {a b : Marked} (names : ℕ) → size_of a ≡ names → MarksOnly P a
    → Unmarks (IsQueued a) a b → IsCleared names b
cleared_again names sized held unmarked = record {
  sized = unmarked.sized ∙ sized;
  unmarked = λ t on.
      let was = (unmarked.each t).0 on in
      was.1 (held.marked t was.0);
  empty = unmarked.none;
}
