use Rattle.std.proofs.Common.{◌≡◌, ◌∙◌, ℕ, ◌+◌, get_or, List, [], ◌∷◌, ◌++◌, ap, subst, sym, inl, inr, arith, length-append}
use Rattle.std.proofs.lemmas.Bool.{cases_lt}
use Rattle.std.proofs.lemmas.List.{get_or_append_left, get_or_at}
use Rattle.redodb_graph.specs.Pairs.{IsStart}
use Rattle.redodb_graph.specs.Support.Pairs.{AreStarts}
use Rattle.redodb_graph.proofs.once.starts_of.Goals as goal

-- one more start
starts_next : (pairs : List (ℕ × ℕ)) (starts : List ℕ) (n i : ℕ) → AreStarts pairs n starts
    → IsStart pairs n i → AreStarts pairs (n + 1) (starts ++ i ∷ [])
starts_next pairs starts n i are start = record {
  whole = length-append starts (i ∷ []) ∙ ap (λ (m : ℕ). m + 1) are.whole;
  each = λ t below. elim (cases_lt t n) [
    | inl lt ↦
        subst (IsStart pairs t)
        (sym (get_or_append_left starts (i ∷ []) 0 t (omega (arith, lt, are.whole))))
        (are.each t lt)
    | inr le ↦
        let same : n ≡ t = omega arith in
        subst (λ k. IsStart pairs k (get_or (starts ++ i ∷ []) k 0)) same
        (subst (IsStart pairs n) (sym (get_or_at starts i [] 0 n are.whole)) start)
  ];
}

pub loop-first-preserved : goal.loop-first-preserved
loop-first-preserved c =
    rw c.in_ok-push.ensures.items
    (starts_next c.args.pairs.now c.loop-first.starts.items c.loop-first.first c.start_of.result
    c.loop-first.invariant c.start_of.ensures)

pub returns : goal.returns
returns c =
    let starts = c.loop-first.starts.items in
    let all : c.loop-first.first ≡ c.args.count = omega arith in
    rw c.in_ok-push-2.ensures.items
    (starts_next c.args.pairs.now starts c.args.count c.start_of-2.result
    (subst (λ n. AreStarts c.args.pairs.now n starts) all c.loop-first.invariant)
    c.start_of-2.ensures)
