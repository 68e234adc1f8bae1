use Rattle.std.proofs.Common.{◌≡◌, ◌+◌, ℕ, List, ◌<◌, Contains, get_or, length, refl, subst, sym, arith, rules}
use Rattle.redodb_graph.specs.Pairs.{AreThose, IsStart}
use Rattle.redodb_graph.proofs.pairs.Pairs.new.Goals as goal

pub each_once-requires : goal.each_once-requires
each_once-requires c =
    subst (λ (l : List (ℕ × ℕ)). (p : ℕ × ℕ) → Contains l p → p.0 < c.args.count)
    (sym c.deref.ensures.value) c.requires

pub invariant_of-result : goal.invariant_of-result
invariant_of-result c =
    let starts = c.in_ok-starts.starts.items in
    let whole : length starts ≡ c.args.count + 1 = c.in_ok-starts.ensures.whole in
    record {
      ascending = c.in_ok-pairs.ensures.ascending;
      few = search rules;
      below = λ p there.
          let listed = subst (λ (l : List (ℕ × ℕ)). Contains l p) c.deref.ensures.value
          ((c.in_ok-pairs.ensures.those p).0 there) in
          omega (arith, c.requires p listed, whole);
      some = omega (arith, whole);
      small = omega (arith, whole);
      starts = record {
        whole = refl;
        each = λ t below. subst (λ (l : List (ℕ × ℕ)). IsStart l t (get_or starts t 0))
            c.deref-2.ensures.value (c.in_ok-starts.ensures.each t (omega (arith, below, whole)));
      };
    }

pub returns-clause-pairs : goal.returns-clause-pairs
returns-clause-pairs c =
    subst (λ (l : List (ℕ × ℕ)). AreThose l c.in_ok-pairs.pairs.items) c.deref.ensures.value
    c.in_ok-pairs.ensures.those
