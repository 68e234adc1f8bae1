use Rattle.std.proofs.Common.{◌<◌, ◌≡◌, ◌∙◌, [], ◌∷◌, get_or, length, reverse, sym, ap, subst, arith}
use Rattle.std.proofs.lemmas.List.{get_or_default, reverse-append}
use Rattle.redodb_model.specs.Renaming.{AllBelow}
use Rattle.redodb_memo.specs.NameSet.{size_of}
use Rattle.redodb_database.specs.Support.Search.{IsWay}
use Rattle.redodb_database.proofs.why.way_to.Goals as goal

pub back-preserved : goal.back-preserved
back-preserved c =
    let queue = c.args.seen.now.queue in
    let parents = c.args.parents.now.items in
    let i = c.back.i in
    let here = c.back.invariant.here in
    let some = c.back-test.true in
    let p = c.index.result.now in
    let in' : i < length parents = omega (arith, here, c.requires.sized) in
    let parent : get_or parents i 0 ≡ p =
    sym (c.index.ensures ∙ get_or_default parents i p 0 in') in
    let items = c.back.way.items in
    let n = c.queued.result in
    let onto : reverse c.push.new.self.items ≡ n ∷ reverse items =
    ap reverse c.in_ok-push.ensures.items ∙ reverse-append items (n ∷ []) in
    let way : IsWay queue parents p c.args.place (n ∷ reverse items) =
    (i, some, here, parent, sym c.queued.ensures.name, c.back.invariant.way) in
    record {
      here = omega (arith, parent, c.requires.earlier i some here, here);
      below = subst (AllBelow (size_of c.args.seen.now)) (sym onto)
          (c.queued.ensures.below, c.back.invariant.below);
      way = subst (IsWay queue parents p c.args.place) (sym onto) way;
    }

pub returns-clause-way : goal.returns-clause-way
returns-clause-way c =
    let queue = c.args.seen.now.queue in
    let parents = c.args.parents.now.items in
    let first : c.back.i ≡ 0 = omega (arith, c.back-test.false) in
    subst (IsWay queue parents 0 c.args.place) (sym c.reverse.ensures.items)
    (subst (λ i. IsWay queue parents i c.args.place (reverse c.back.way.items)) first
    c.back.invariant.way)

pub returns-clause-below : goal.returns-clause-below
returns-clause-below c = subst (AllBelow (size_of c.args.seen.now)) (sym c.reverse.ensures.items)
    c.back.invariant.below
