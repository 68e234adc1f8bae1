-- The path to the first place with a reason is a shortest chain.
use Rattle.std.proofs.Common.{◌≡◌, ℕ, ◌<◌, ◌≤◌, ◌+◌, List, [], ◌∷◌, length, get_or, sym, ap, ◌∙◌, subst, inl, inr, arith}
use Rattle.std.proofs.lemmas.Bool.{cases_lt}
use Rattle.redodb_model.specs.State.{Records}
use Rattle.redodb_model.specs.OutOfDate.{HasReason, Depends, Chain, OutOfDate}
use Rattle.redodb_model.specs.Why.{Reason, IsReason, Explains, end_of}
use Rattle.redodb_model.proofs.Reasons.{reason_applies}
use Rattle.redodb_memo.specs.NameSet.{Marked, IsMarked}
use Rattle.redodb_database.specs.Support.Search.{IsSearchTree, IsSearch, StepsBefore, IsWay}

-- a path along parents is a chain, as long as its end is deep
module _ (r : Records ℕ) (queue parents : List ℕ) (tree : IsSearchTree r queue parents) (to : ℕ)
  where
    way_deeper : (ns : List ℕ) (from : ℕ) → IsWay queue parents from to ns
        → tree.depth from + length ns ≡ tree.depth to
    way_deeper [] from is = let same = ap tree.depth is in omega (arith, same)
    way_deeper (n ∷ ns) from (i, some, here, parent, name, rest) =
        let same = ap tree.depth parent in
        omega (arith, same, tree.deeper i some here, way_deeper ns i rest)

    way_ends : (ns : List ℕ) (from : ℕ) → IsWay queue parents from to ns
        → end_of (get_or queue from 0) ns ≡ get_or queue to 0
    way_ends [] from is = ap (λ k. get_or queue k 0) is
    way_ends (n ∷ ns) from (i, some, here, parent, name, rest) =
        ap (λ m. end_of m ns) (sym name) ∙ way_ends ns i rest

    way_chains : HasReason r (get_or queue to 0) → (ns : List ℕ) (from : ℕ)
        → IsWay queue parents from to ns
        → Chain (Depends r) (HasReason r) (get_or queue from 0) ns
    way_chains reason [] from is = subst (λ k. HasReason r (get_or queue k 0)) (sym is) reason
    way_chains reason (n ∷ ns) from (i, some, here, parent, name, rest) = (
      subst (λ k. Depends r (get_or queue k 0) n) parent
          (subst (Depends r (get_or queue (get_or parents i 0) 0)) name (tree.step i some here)),
      subst (λ m. Chain (Depends r) (HasReason r) m ns) name (way_chains reason ns i rest),
    )

-- the search looked at all steps from the places before `at` to names that are out of date, and
-- none of the names before `place`, which isn't before `at`, has a reason
module _ (r : Records ℕ) (out seen : Marked) (parents : List ℕ) (at place : ℕ)
    (right : (n : ℕ) → OutOfDate r n → IsMarked out n)
    (search : IsSearch r (StepsBefore r out seen.queue at) at seen parents)
    (ahead : at ≤ place)
    (none : (i : ℕ) → i < place → HasReason r (get_or seen.queue i 0) → ⊥)
  where
    -- then no chain from a place to a reason is shorter than the path from there to `place`
    no_shorter : place < length seen.queue → (ns : List ℕ) (i : ℕ) → i < length seen.queue
        → Chain (Depends r) (HasReason r) (get_or seen.queue i 0) ns
        → search.tree.depth place ≤ search.tree.depth i + length ns
    no_shorter in' [] i here chain = elim (cases_lt i place) [
      | inl before ↦ absurd (none i before chain)
      | inr past ↦ omega (arith, search.tree.rising place i past here)
    ]
    no_shorter in' (n ∷ ns) i here chain = elim (cases_lt i at) [
      | inl before ↦
          let near = search.found i n (before, chain.0, right n (ns, chain.1)) in
          let rest : Chain (Depends r) (HasReason r) (get_or seen.queue near.0 0) ns =
          subst (λ m. Chain (Depends r) (HasReason r) m ns) (sym near.2) chain.1 in
          omega (arith, no_shorter in' ns near.0 near.1 rest, near.3)
      | inr past ↦
          let one : search.tree.depth place ≤ search.tree.depth at + 1 =
          search.near (omega (arith, ahead, in')) place in' in
          omega (arith, one, search.tree.rising at i past here)
    ]

    -- and at the end of the queue there is no chain
    no_chain : length seen.queue ≤ at → (ns : List ℕ) (i : ℕ) → i < length seen.queue
        → Chain (Depends r) (HasReason r) (get_or seen.queue i 0) ns → ⊥
    no_chain end [] i here chain = none i (omega (arith, here, end, ahead)) chain
    no_chain end (n ∷ ns) i here chain =
        let before : i < at = omega (arith, here, end) in
        let near = search.found i n (before, chain.0, right n (ns, chain.1)) in
        no_chain end ns near.0 near.1
        (subst (λ m. Chain (Depends r) (HasReason r) m ns) (sym near.2) chain.1)

    module _ (t : ℕ) (first : t ≡ get_or seen.queue 0 0) where
      pub way_explains : place < length seen.queue → (reason : Reason ℕ)
          → IsReason r (get_or seen.queue place 0) reason → (ns : List ℕ)
          → IsWay seen.queue parents 0 place ns
          → Explains r t (record { names = ns; reason = reason })
      way_explains in' reason is ns way =
          let tree = search.tree in
          let own = reason_applies r (get_or seen.queue place 0) reason is in
          let deeper = way_deeper r seen.queue parents tree place ns 0 way in
          record {
            chain = subst (λ m. Chain (Depends r) (HasReason r) m ns) (sym first)
                (way_chains r seen.queue parents tree place own ns 0 way);
            shortest = λ names chain.
                let there = subst (λ m. Chain (Depends r) (HasReason r) m names) first chain in
                let some : 0 < length seen.queue = omega (arith, in') in
                omega (arith, no_shorter in' names 0 some there, deeper, tree.first);
            reason = subst (λ m. IsReason r m reason)
                (sym (ap (λ m. end_of m ns) first
                ∙ way_ends r seen.queue parents tree place ns 0 way))
                is;
          }

      pub none_found : 0 < length seen.queue → length seen.queue ≤ at → OutOfDate r t → ⊥
      none_found some end is =
          no_chain end is.0 0 some
          (subst (λ m. Chain (Depends r) (HasReason r) m is.0) first is.1)
