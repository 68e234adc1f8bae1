use Rattle.std.proofs.Common.{◌≡◌, ◌∙◌, ◌+◌, ◌<◌, ℕ, Ok, Err, Some, List, slice_get, length, refl, ap, subst, sym, arith}
use Rattle.std.specs.List.{Contains}
use Rattle.std.proofs.lemmas.Option.{slice_get_within, get_or_from_slice_get}
use Rattle.redodb_graph.specs.Pairs.{AreAscending, IsStart}
use Rattle.redodb_graph.proofs.Blocks.{block_searched}
use Rattle.redodb_graph.proofs.pairs.Pairs.find.Goals as goal

pub returns-then-first-len-clause-there : goal.returns-then-first-len-clause-there
returns-then-first-len-clause-there c =
    let pair : ℕ × ℕ = (c.args.first, c.args.second) in
    let same : c.self.inside.pairs.items ≡ c.args.self.now.items =
    ap (λ of. of.items) c.self.view_is in (
      λ e. absurd cc,
      λ there.
          let below : c.args.first + 1 < length c.self.inside.starts.items =
          c.self.invariant.below pair
          (subst (λ (l : List (ℕ × ℕ)). Contains l pair) (sym same) there) in
          absurd (omega (arith, below, c.len.ensures, c.if-first-len.true)),
    )

pub returns-in-Ok-clause-found : goal.returns-in-Ok-clause-found
returns-in-Ok-clause-found c =
    let pair : ℕ × ℕ = (c.args.first, c.args.second) in
    let list = c.deref.result.now in
    let same : list ≡ c.args.self.now.items =
    c.deref.ensures.value ∙ ap (λ of. of.items) c.self.view_is in
    subst (λ (l : List (ℕ × ℕ)). slice_get l (c.start-from.result + c.in-Ok.place) ≡ Some pair) same
    (block_searched list c.start-from.result c.start-to.result
    (subst AreAscending (sym c.deref.ensures.value) c.self.invariant.ascending) pair
    (subst (λ (l : List (ℕ × ℕ)). IsStart l c.args.first c.start-from.result) (sym same)
    c.start-from.ensures.start)
    (subst (λ (l : List (ℕ × ℕ)). IsStart l (c.args.first + 1) c.start-to.result) (sym same)
    c.start-to.ensures.start)
    (Ok c.in-Ok.place) c.in-Ok.ensures.bound c.in-Ok.ensures.position)

pub returns-in-Ok-clause-there : goal.returns-in-Ok-clause-there
returns-in-Ok-clause-there c =
    let pair : ℕ × ℕ = (c.args.first, c.args.second) in
    let pairs = c.args.self.now.items in
    let place : ℕ = c.start-from.result + c.in-Ok.place in
    let found : slice_get pairs place ≡ Some pair = returns-in-Ok-clause-found c in (
      λ _. (
        place,
        slice_get_within pairs place pair found,
        get_or_from_slice_get pairs place pair pair found,
      ),
      λ _. refl,
    )

pub returns-in-Err-clause-there : goal.returns-in-Err-clause-there
returns-in-Err-clause-there c =
    let pair : ℕ × ℕ = (c.args.first, c.args.second) in
    let list = c.deref.result.now in
    let same : list ≡ c.args.self.now.items =
    c.deref.ensures.value ∙ ap (λ of. of.items) c.self.view_is in
    let none : Contains list pair → ⊥ =
    block_searched list c.start-from.result c.start-to.result
    (subst AreAscending (sym c.deref.ensures.value) c.self.invariant.ascending) pair
    (subst (λ (l : List (ℕ × ℕ)). IsStart l c.args.first c.start-from.result) (sym same)
    c.start-from.ensures.start)
    (subst (λ (l : List (ℕ × ℕ)). IsStart l (c.args.first + 1) c.start-to.result) (sym same)
    c.start-to.ensures.start)
    (Err c.in-Err.field-0) c.in-Err.ensures.bound c.in-Err.ensures.position in (
      λ e. absurd cc,
      λ there. absurd (none (subst (λ (l : List (ℕ × ℕ)). Contains l pair) (sym same) there)),
    )
