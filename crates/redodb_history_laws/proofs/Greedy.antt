-- The greedy order is the first joint order, and none is missed.
use Rattle.std.proofs.Common.{◌≡◌, ◌≢◌, ℕ, ◌+◌, ◌<◌, ◌≤◌, ◌⊎◌, eqb, cond, List, [], ◌∷◌, ◌++◌, refl, sym, ap, ◌∙◌, subst, inl, inr, arith, append_assoc}
use Rattle.std.proofs.lemmas.List.{append-nil}
use mathlib.Core.Logic.{dite}
use native.Mathlib.Decide.{ℕ_discrete, dec_lt}
use Rattle.redodb_history_laws.proofs.Exchange.{Tickets, In, in_cond, part, without, after, Comes, AllCome, Free, part-own, part-other, part_without, part_without_other, later, all_come_without, step_same}

module _ {L K : Type 0} (t : Tickets L K) where
  -- an order of the lists
  pub record IsJoint (counts : K → ℕ) (lists : ℕ → List L) (lines : List L) : Type 0 where
    pub parts : (s : ℕ) → part t s lines ≡ lists s
    pub come : AllCome t counts lines

  -- the line is the next one of its session, and it may come next
  pub record May (counts : K → ℕ) (lists : ℕ → List L) (next : L) : Type 0 where
    pub rest : List L
    pub first : lists (t.session next) ≡ next ∷ rest
    pub comes : Comes t counts next
    pub free : Free t lists next

  abbrev pub Can : (K → ℕ) → (ℕ → List L) → ℕ → Type 0
  Can counts lists s = (next : L) × (t.session next ≡ s) × May counts lists next

  -- the line is the next one of its session, and what is left are the lists without it
  pub record Takes (lists : ℕ → List L) (next : L) (left : ℕ → List L) : Type 0 where
    pub here : lists (t.session next) ≡ next ∷ left (t.session next)
    pub others : (u : ℕ) → u ≢ t.session next → left u ≡ lists u

  abbrev pub NoLater : List L → List L → Type 0
  NoLater [] others = Unit {0}
  NoLater (line ∷ lines) [] = ⊥
  NoLater (line ∷ lines) (other ∷ others) =
      (t.session line < t.session other)
      ⊎ ((t.session line ≡ t.session other) × NoLater lines others)

  -- the first line of a joint order may come next
  pub first_may : (counts : K → ℕ) (lists : ℕ → List L) (line : L) (lines : List L)
      → IsJoint counts lists (line ∷ lines)
      → May counts lists line
  first_may counts lists line lines h = record {
    rest = part t (t.session line) lines;
    first = sym (h.parts (t.session line)) ∙ part-own t (t.session line) line lines refl;
    comes = h.come.0;
    free =
        λ u x y same at z.
        elim (in_cond (eqb (t.session line) u) x line (part t u lines)
        (subst (In x) (sym (h.parts u)) y)) [
          | inl e ↦ subst (λ w. (t.ticket w).step ≡ 0) (sym e) z
          | inr k
              ↦ let a : counts (t.ticket x).counter + cond
              (t.same (t.ticket x).counter (t.ticket line).counter)
              (t.ticket line).step 0 ≤ (t.ticket x).value = later t (after t counts line) u x
              lines h.come.1 k in
              let b =
              step_same t (t.ticket x).counter (t.ticket line).counter (t.ticket line).step same in
              let d = h.come.0 in
              let f : counts (t.ticket x).counter ≡ counts (t.ticket line).counter =
              ap counts same in
              omega arith
        ];
  }

  -- what is left of a joint order after its first line
  pub takes_first : (counts : K → ℕ) (lists : ℕ → List L) (line : L) (lines : List L)
      → IsJoint counts lists (line ∷ lines)
      → Takes lists line (λ u. part t u lines)
  takes_first counts lists line lines h = record {
    here = sym (h.parts (t.session line)) ∙ part-own t (t.session line) line lines refl;
    others = λ u n. sym (part-other t u line lines (λ q. n (sym q))) ∙ h.parts u;
  }

  pub rest_joint : (counts : K → ℕ) (lists left : ℕ → List L) (line : L) (lines : List L)
      → IsJoint counts lists (line ∷ lines)
      → Takes lists line left → IsJoint (after t counts line) left lines
  rest_joint counts lists left line lines h k = record {
    parts = λ u. dite (ℕ_discrete u (t.session line))
        (λ q. let a = part-own t u line lines (sym q) in
        let b = h.parts u in
        let d = subst (λ w. lists w ≡ line ∷ left w) (sym q) k.here in
        cc)
        (λ n. sym (part-other t u line lines (λ q. n (sym q))) ∙ h.parts u ∙ sym (k.others u n));
    come = h.come.1;
  }

  pub prefix_joint : (counts : K → ℕ) (lists left : ℕ → List L) (line : L) (lines : List L)
      → IsJoint (after t counts line) left lines → Takes lists line left → Comes t counts line
      → IsJoint counts lists (line ∷ lines)
  prefix_joint counts lists left line lines h k comes = record {
    parts = λ u. dite (ℕ_discrete u (t.session line))
        (λ q. part-own t u line lines (sym q) ∙ ap (λ r. line ∷ r) (h.parts u)
        ∙ subst (λ w. line ∷ left w ≡ lists w) (sym q) (sym k.here))
        (λ n. part-other t u line lines (λ q. n (sym q)) ∙ h.parts u ∙ k.others u n);
    come = (comes, h.come);
  }

  -- a line that may come next, moved to the beginning of a joint order, gives a joint order
  pub exchange : (counts : K → ℕ) (lists left : ℕ → List L) (next : L) (lines : List L)
      → IsJoint counts lists lines → May counts lists next
      → Takes lists next left
      → IsJoint (after t counts next) left (without t (t.session next) lines)
  exchange counts lists left next lines h may k = record {
    parts = λ u. dite (ℕ_discrete u (t.session next))
        (λ q. subst (λ w. part t w (without t (t.session next) lines) ≡ left w) (sym q)
        (part_without t (t.session next) next (left (t.session next)) lines
        (h.parts (t.session next) ∙ k.here)))
        (λ n. part_without_other t (t.session next) u lines n ∙ h.parts u ∙ sym (k.others u n));
    come =
        all_come_without t next counts lines (left (t.session next)) h.come
        (h.parts (t.session next) ∙ k.here)
        may.comes (λ u x y. may.free u x (subst (In x) (h.parts u) y));
  }

  -- always the line of the least session that may come next
  abbrev pub Greedy : (K → ℕ) → (ℕ → List L) → List L → Type 0
  Greedy counts lists [] = (s : ℕ) → lists s ≡ []
  Greedy counts lists (line ∷ lines) =
      (left : ℕ → List L) × Takes lists line left × May counts lists line
      × ((u : ℕ) → u < t.session line → Can counts lists u → ⊥)
      × Greedy (after t counts line) left lines

  -- the joint order whose list of sessions comes first in dictionary order
  pub record IsFirst (counts : K → ℕ) (lists : ℕ → List L) (lines : List L) : Type 0 where
    pub joint : IsJoint counts lists lines
    pub first : (others : List L) → IsJoint counts lists others → NoLater lines others

  pub greedy_joint : (counts : K → ℕ) (lists : ℕ → List L) (lines : List L)
      → Greedy counts lists lines → IsJoint counts lists lines
  greedy_joint counts lists [] g = record { parts = λ s. sym (g s); come = tt }
  greedy_joint counts lists (line ∷ lines) (left, takes, may, least, g) =
      prefix_joint counts lists left line lines (greedy_joint (after t counts line) left lines g)
      takes
      may.comes

  pub greedy_first : (counts : K → ℕ) (lists : ℕ → List L) (lines others : List L)
      → Greedy counts lists lines → IsJoint counts lists others
      → NoLater lines others
  greedy_first counts lists [] others g h = tt
  greedy_first counts lists (line ∷ lines) [] (left, takes, may, least, g) h =
      let a = h.parts (t.session line) in
      let b = takes.here in
      absurd (cc)
  greedy_first counts lists (line ∷ lines) (other ∷ others) (left, takes, may, least, g) h =
      let first = first_may counts lists other others h in
      dite (ℕ_discrete (t.session line) (t.session other))
      (λ q. let a = first.first in
      let b = takes.here in
      let d : lists (t.session line) ≡ lists (t.session other) = ap lists q in
      let same : other ≡ line = cc in
      inr (
        q,
        greedy_first (after t counts line) left lines others g
            (rest_joint counts lists left line others
            (subst (λ w. IsJoint counts lists (w ∷ others)) same h) takes),
      ))
      (λ n. dite (dec_lt (t.session other) (t.session line))
      (λ below. absurd (least (t.session other) below (other, refl, first)))
      (λ not_below. inl (omega arith)))

  pub greedy_is_first : (counts : K → ℕ) (lists : ℕ → List L) (lines : List L)
      → Greedy counts lists lines → IsFirst counts lists lines
  greedy_is_first counts lists lines g =
      record {
        joint = greedy_joint counts lists lines g;
        first = λ others h. greedy_first counts lists lines others g h;
      }

  -- if nothing may come next, nothing is left
  pub stuck : (counts : K → ℕ) (lists : ℕ → List L) (lines : List L)
      → ((s : ℕ) → Can counts lists s → ⊥)
      → IsJoint counts lists lines → (s : ℕ) → lists s ≡ []
  stuck counts lists [] none h s = sym (h.parts s)
  stuck counts lists (line ∷ lines) none h s =
      absurd (none (t.session line) (line, refl, first_may counts lists line lines h))

  -- the state of the greedy merge: `out` was put, and the counts and lists are what is left
  pub record Half (first_counts : K → ℕ) (first_lists : ℕ → List L) (out : List L) (counts : K → ℕ)
      (lists : ℕ → List L) : Type 0 where
    pub greedy : (rest : List L) → Greedy counts lists rest
        → Greedy first_counts first_lists (out ++ rest)
    pub kept : (others : List L) → IsJoint first_counts first_lists others
        → (rest : List L) × IsJoint counts lists rest

  pub half_start : (counts : K → ℕ) (lists : ℕ → List L) → Half counts lists [] counts lists
  half_start counts lists = record { greedy = λ rest g. g; kept = λ others h. (others, h) }

  pub half_step : (first_counts : K → ℕ) (first_lists : ℕ → List L) (out : List L) (counts : K → ℕ)
      (lists left : ℕ → List L)
      (next : L)
      → Half first_counts first_lists out counts lists → May counts lists next
      → ((u : ℕ) → u < t.session next → Can counts lists u → ⊥) → Takes lists next left
      → Half first_counts first_lists (out ++ next ∷ []) (after t counts next) left
  half_step first_counts first_lists out counts lists left next half may least k = record {
    greedy =
        λ rest g.
        subst (Greedy first_counts first_lists) (sym (append_assoc out (next ∷ []) rest))
        (half.greedy (next ∷ rest) (left, k, may, least, g));
    kept = λ others h. let kept = half.kept others h in
        (without t (t.session next) kept.0, exchange counts lists left next kept.0 kept.1 may k);
  }

  pub half_done : (first_counts : K → ℕ) (first_lists : ℕ → List L) (out : List L) (counts : K → ℕ)
      (lists : ℕ → List L)
      → Half first_counts first_lists out counts lists → ((s : ℕ) → lists s ≡ [])
      → IsFirst first_counts first_lists out
  half_done first_counts first_lists out counts lists half none =
      greedy_is_first first_counts first_lists out
      (subst (Greedy first_counts first_lists) (append-nil out) (half.greedy [] none))

  pub half_none : (first_counts : K → ℕ) (first_lists : ℕ → List L) (out : List L) (counts : K → ℕ)
      (lists : ℕ → List L) (s : ℕ)
      → Half first_counts first_lists out counts lists → ((u : ℕ) → Can counts lists u → ⊥)
      → lists s ≢ []
      → (others : List L) → IsJoint first_counts first_lists others
      → ⊥
  half_none first_counts first_lists out counts lists s half none some others h =
      let k = half.kept others h in
      some (stuck counts lists k.0 none k.1 s)
