-- The tree of a search that finds one more name.
use Rattle.std.proofs.Common.{◌≡◌, ◌⊎◌, ◌∙◌, ℕ, ◌<◌, ◌≤◌, ◌+◌, cond, List, [], ◌∷◌, ◌++◌, length, get_or, refl, sym, ap, subst, inl, inr, arith, length-append}
use Rattle.std.proofs.Math.ListN.{get_or-append}
use Rattle.std.proofs.Math.Seq.{get_or-append_seam}
use Rattle.std.proofs.lemmas.Bool.{cases_lt, eqb-true, eq-eqb, false_from_ne_true}
use Rattle.std.specs.Prelude.{◌==◌}
use Rattle.std.proofs.lemmas.List.Elements.{Contains-push, Contains-append_left}
use Rattle.std.specs.List.{Contains}
use Rattle.redodb_model.specs.State.{Records}
use Rattle.redodb_model.specs.OutOfDate.{Depends}
use Rattle.redodb_memo.specs.NameSet.{Marked, IsMarked, IsQueued, with_name, size_of}
use Rattle.redodb_database.specs.Support.Search.{IsSearchTree, IsNear, IsSearch}
use Rattle.redodb_memo.proofs.Marking.{set_cases}

-- a depth for one more place
with_depth : (ℕ → ℕ) → ℕ → ℕ → ℕ → ℕ
with_depth depth m d i = cond (i == m) d (depth i)

depth_here : (depth : ℕ → ℕ) (m d i : ℕ) → i ≡ m → with_depth depth m d i ≡ d
unfolding with_depth
depth_here depth m d i e = ap (λ b. cond b d (depth i)) (eq-eqb i m e)

depth_before : (depth : ℕ → ℕ) (m d i : ℕ) → i < m → with_depth depth m d i ≡ depth i
unfolding with_depth
depth_before depth m d i below =
    ap (λ b. cond b d (depth i)) (false_from_ne_true (i == m) (λ e.
    let same : i ≡ m = eqb-true i m e in absurd (omega (arith, same, below))))

depends_at : (r : Records ℕ) (a a' b b' : ℕ) → a' ≡ a → b' ≡ b → Depends r a b → Depends r a' b'
depends_at r a a' b b' e f depends =
    subst (λ m. Depends r m b') (sym e) (subst (Depends r a) (sym f) depends)

-- a name is found from a place whose name depends on it
module _ (r : Records ℕ) (Looked : ℕ → ℕ → Type 0) (n from : ℕ) (seen : Marked) (parents : List ℕ)
    (search : IsSearch r Looked from seen parents) (in' : from < length seen.queue)
    (depends : Depends r (get_or seen.queue from 0) n)
  where
    old_name : (i : ℕ) → i < length seen.queue
        → get_or (seen.queue ++ n ∷ []) i 0 ≡ get_or seen.queue i 0
    old_name i before = get_or-append seen.queue (n ∷ []) 0 i before

    new_name : (i : ℕ) → i ≡ length seen.queue → get_or (seen.queue ++ n ∷ []) i 0 ≡ n
    new_name i e =
        ap (λ k. get_or (seen.queue ++ n ∷ []) k 0) e ∙ get_or-append_seam seen.queue n [] 0

    old_parent : (i : ℕ) → i < length seen.queue
        → get_or (parents ++ from ∷ []) i 0 ≡ get_or parents i 0
    old_parent i before =
        get_or-append parents (from ∷ []) 0 i (omega (arith, before, search.tree.sized))

    new_parent : (i : ℕ) → i ≡ length seen.queue → get_or (parents ++ from ∷ []) i 0 ≡ from
    new_parent i e = ap (λ k. get_or (parents ++ from ∷ []) k 0) (e ∙ sym search.tree.sized)
        ∙ get_or-append_seam parents from [] 0

    longer : length (seen.queue ++ n ∷ []) ≡ length seen.queue + 1
    longer = length-append seen.queue (n ∷ [])

    -- an old place or the new one
    old_or_new : (i : ℕ) → i < length (seen.queue ++ n ∷ [])
        → (i < length seen.queue) ⊎ (i ≡ length seen.queue)
    old_or_new i here = elim (cases_lt i (length seen.queue)) [
      | inl before ↦ inl before
      | inr past ↦ inr (omega (arith, here, longer, past))
    ]

    depth : ℕ → ℕ
    depth = with_depth search.tree.depth (length seen.queue) (search.tree.depth from + 1)

    old_depth : (i : ℕ) → i < length seen.queue → depth i ≡ search.tree.depth i
    unfolding depth
    old_depth i before = depth_before search.tree.depth (length seen.queue)
        (search.tree.depth from + 1) i before

    new_depth : (i : ℕ) → i ≡ length seen.queue → depth i ≡ search.tree.depth from + 1
    unfolding depth
    new_depth i e = depth_here search.tree.depth (length seen.queue)
        (search.tree.depth from + 1) i e

    earlier_then : (i : ℕ) → 0 < i → i < length (seen.queue ++ n ∷ [])
        → get_or (parents ++ from ∷ []) i 0 < i
    earlier_then i some here = elim (old_or_new i here) [
      | inl before ↦ omega (arith, old_parent i before, search.tree.earlier i some before)
      | inr e ↦ omega (arith, new_parent i e, e, in')
    ]

    step_then : (i : ℕ) → 0 < i → i < length (seen.queue ++ n ∷ [])
        → Depends r (get_or (seen.queue ++ n ∷ []) (get_or (parents ++ from ∷ []) i 0) 0)
        (get_or (seen.queue ++ n ∷ []) i 0)
    step_then i some here = elim (old_or_new i here) [
      | inl before ↦
          let p = get_or parents i 0 in
          let less : p < length seen.queue =
          omega (arith, search.tree.earlier i some before, before) in
          depends_at r (get_or seen.queue p 0)
          (get_or (seen.queue ++ n ∷ []) (get_or (parents ++ from ∷ []) i 0) 0)
          (get_or seen.queue i 0) (get_or (seen.queue ++ n ∷ []) i 0)
          (ap (λ k. get_or (seen.queue ++ n ∷ []) k 0) (old_parent i before) ∙ old_name p less)
          (old_name i before) (search.tree.step i some before)
      | inr e ↦
          depends_at r (get_or seen.queue from 0)
          (get_or (seen.queue ++ n ∷ []) (get_or (parents ++ from ∷ []) i 0) 0)
          n (get_or (seen.queue ++ n ∷ []) i 0)
          (ap (λ k. get_or (seen.queue ++ n ∷ []) k 0) (new_parent i e) ∙ old_name from in')
          (new_name i e) depends
    ]

    first_then : depth 0 ≡ 0
    first_then = old_depth 0 (omega (arith, in')) ∙ search.tree.first

    deeper_then : (i : ℕ) → 0 < i → i < length (seen.queue ++ n ∷ [])
        → depth i ≡ depth (get_or (parents ++ from ∷ []) i 0) + 1
    deeper_then i some here = elim (old_or_new i here) [
      | inl before ↦
          let p = get_or parents i 0 in
          let less : p < length seen.queue =
          omega (arith, search.tree.earlier i some before, before) in
          let same : depth (get_or (parents ++ from ∷ []) i 0) ≡ search.tree.depth p =
          ap depth (old_parent i before) ∙ old_depth p less in
          omega (arith, same, old_depth i before, search.tree.deeper i some before)
      | inr e ↦
          let same : depth (get_or (parents ++ from ∷ []) i 0) ≡ search.tree.depth from =
          ap depth (new_parent i e) ∙ old_depth from in' in
          omega (arith, same, new_depth i e)
    ]

    rising_then : (i j : ℕ) → i ≤ j → j < length (seen.queue ++ n ∷ []) → depth i ≤ depth j
    rising_then i j le here = elim (old_or_new j here) [
      | inl before ↦
          let less : i < length seen.queue = omega (arith, le, before) in
          omega (arith, old_depth i less, old_depth j before, search.tree.rising i j le before)
      | inr e ↦ elim (cases_lt i (length seen.queue)) [
        | inl before ↦
            omega (arith, old_depth i before, new_depth j e, search.near in' i before)
        | inr past ↦
            let last : i ≡ length seen.queue = omega (arith, past, le, e) in
            omega (arith, new_depth i last, new_depth j e)
      ]
    ]

    abbrev tree_then : IsSearchTree r (seen.queue ++ n ∷ []) (parents ++ from ∷ [])
    tree_then = record {
      depth = depth;
      sized = omega (arith, longer, length-append parents (from ∷ []), search.tree.sized);
      earlier = earlier_then;
      step = step_then;
      first = first_then;
      deeper = deeper_then;
      rising = rising_then;
    }

    queued_then : n < size_of seen → (m : ℕ) → IsMarked (with_name seen n) m
        → IsQueued (with_name seen n) m
    queued_then below m on = elim (set_cases seen.marks n m on) [
      | inl before ↦ Contains-append_left seen.queue (n ∷ []) m (search.queued m before)
      | inr e ↦ subst (Contains (seen.queue ++ n ∷ [])) (sym e) (Contains-push seen.queue n)
    ]

    near_then : (j : ℕ) → j < length (seen.queue ++ n ∷ []) → depth j ≤ depth from + 1
    near_then j here = elim (old_or_new j here) [
      | inl before ↦
          omega (arith, old_depth j before, old_depth from in', search.near in' j before)
      | inr e ↦ omega (arith, new_depth j e, old_depth from in')
    ]

    -- names that were found stay found
    kept : (i m : ℕ) → i < length seen.queue → IsNear seen.queue search.tree.depth i m
        → IsNear (seen.queue ++ n ∷ []) depth i m
    kept i m here near = (
      near.0,
      omega (arith, longer, near.1),
      old_name near.0 near.1 ∙ near.2,
      omega (arith, old_depth near.0 near.1, old_depth i here, near.3),
    )

    new_near : IsNear (seen.queue ++ n ∷ []) depth from n
    new_near = (
      length seen.queue,
      omega (arith, longer),
      new_name (length seen.queue) refl,
      omega (arith, new_depth (length seen.queue) refl, old_depth from in'),
    )

    pub search_with_name : n < size_of seen → ((i m : ℕ) → Looked i m → i ≤ from)
        → IsSearch r (λ i m. Looked i m ⊎ ((i ≡ from) × (m ≡ n))) from (with_name seen n)
        (parents ++ from ∷ [])
    search_with_name below before = record {
      tree = tree_then;
      queued = queued_then below;
      near = λ _. near_then;
      found = λ i m looked. elim looked [
        | inl earlier ↦
            let here : i < length seen.queue = omega (arith, before i m earlier, in') in
            kept i m here (search.found i m earlier)
        | inr (e, f) ↦
            subst (λ k. IsNear (seen.queue ++ n ∷ []) depth k m) (sym e)
            (subst (λ k. IsNear (seen.queue ++ n ∷ []) depth from k) (sym f) new_near)
      ];
    }
