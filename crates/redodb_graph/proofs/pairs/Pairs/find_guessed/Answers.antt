use Rattle.std.proofs.Common.{◌≡◌, ◌∙◌, ℕ, List, Some, slice_get, refl, ap, sym, subst}
use Rattle.std.proofs.lemmas.Option.{slice_get-get_or, slice_get_within, get_or_from_slice_get}
use Rattle.redodb_graph.proofs.Tuples.{same_from_eq}
use Rattle.redodb_graph.proofs.pairs.Pairs.find_guessed.Goals as goal

pub returns-in-Some-clause-found : goal.returns-in-Some-clause-found
returns-in-Some-clause-found c =
    let pair : ℕ × ℕ = (c.args.first, c.args.second) in
    let list = c.deref.result.now in
    let at = c.in-Some.ensures.lookup.3 in
    let same : c.in-Some.pair.now ≡ pair = same_from_eq c.in-Some.pair.now pair
    (sym c.eq.ensures ∙ c.if-eq.true) in
    subst (λ (l : List (ℕ × ℕ)). slice_get l c.args.guess ≡ Some pair)
    (c.deref.ensures.value ∙ ap (λ of. of.items) c.self.view_is)
    (slice_get-get_or list c.args.guess c.in-Some.pair.now at.0 ∙ ap Some (sym (at.1 c.in-Some.pair.now) ∙ same))

pub returns-in-Some-clause-there : goal.returns-in-Some-clause-there
returns-in-Some-clause-there c =
    let pair : ℕ × ℕ = (c.args.first, c.args.second) in
    let pairs : List (ℕ × ℕ) = c.args.self.now.items in
    let found : slice_get pairs c.args.guess ≡ Some pair = returns-in-Some-clause-found c in (
      λ _. (
        c.args.guess,
        slice_get_within pairs c.args.guess pair found,
        get_or_from_slice_get pairs c.args.guess pair pair found,
      ),
      λ _. refl,
    )
