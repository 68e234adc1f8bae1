use Rattle.std.proofs.Common.{◌≡◌, ℕ, List, ap, arith, length, rules, subst}
use Rattle.std.specs.List.Sorted.{IsPermutation}
use Rattle.std.proofs.lemmas.List.Sorted.{IsPermutation-refl, IsPermutation-sym, IsPermutation-trans, length_permutation}
use Rattle.redodb_live.proofs.ordering.sort_guessed.Goals as goal
use Rattle.redodb_live.proofs.ordering.sort_guessed.Goals.{then-eq, else-eq}

pub copy_from_slice-requires : goal.copy_from_slice-requires
copy_from_slice-requires c =
    let same : c.args.ascending.now ≡ c.as_slice.result.now = search rules in
    let long : length c.args.ascending.now ≡ length c.as_slice.result.now =
    ap (λ (ns : List ℕ). length ns) same in
    omega (
      arith,
      long,
      c.as_slice.ensures.len,
      length_permutation c.args.guess.now c.args.ascending.now c.requires,
    )

pub returns-clause-same : goal.returns-clause-same
returns-clause-same c =
    let numbers = c.args.numbers.now.items in
    IsPermutation-trans numbers c.if-eq.numbers.items c.sort.new.numbers.items
    (elim c.if-eq.branch [
      | then-eq w ↦
          let same : c.args.ascending.now ≡ numbers = search rules in
          rw (w.numbers-is, w.copy_from_slice.ensures.items)
          (subst (λ (ns : List ℕ). IsPermutation ns c.args.guess.now) same
          (IsPermutation-sym c.args.guess.now c.args.ascending.now c.requires))
      | else-eq w ↦ rw (w.numbers-is) (IsPermutation-refl numbers)
    ])
    c.sort.ensures.same
