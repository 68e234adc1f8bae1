use Rattle.std.proofs.Common.{◌≡◌, ◌∙◌, ◌+◌, ℕ, List, [], ◌++◌, ◌↔◌, Contains, get_or, map, Vec, Global, arith, ap, sym, subst}
use Rattle.std.proofs.lemmas.List.{get_or-map, length-set, map-set}
use Rattle.redodb_graph.specs.Support.Pairs.{AreBlocks}
use Rattle.redodb_graph.proofs.Gathered.{ArePut, block_put, blocks_left}
use Rattle.redodb_graph.proofs.once.each_once.Goals as goal

pub loop-first-preserved : goal.loop-first-preserved
loop-first-preserved c = record {
  count = length-set blocks t c.replace-block.new.dest ∙ c.loop-first.invariant.count;
  left = subst (AreBlocks (t + 1) c.args.listed.now)
      (sym (map-set numbers blocks t c.replace-block.new.dest))
      (blocks_left c.args.listed.now (map numbers blocks) t c.replace-block.new.dest.items
      c.loop-first.invariant.left);
  put = subst (ArePut (t + 1) c.args.listed.now) (sym pushed)
      (block_put c.args.listed.now c.loop-first.pairs.items t block c.loop-first.invariant.put
      c.in_order.ensures.rising those);
}
  where
    t : ℕ
    t = c.loop-first.first

    blocks : List (Vec ℕ Global)
    blocks = c.loop-first.blocks.items

    numbers : Vec ℕ Global → List ℕ
    numbers block = block.items

    block : List ℕ
    block = c.in_order.result.items

    pushed : c.push_names.new.keys.items
        ≡ c.loop-first.pairs.items ++ map (λ n. (t, n)) block
    pushed = c.in_ok-push_names.ensures
        ∙ ap (λ (ns : List ℕ). c.loop-first.pairs.items ++ map (λ n. (t, n)) ns)
        c.deref.ensures.value

    taken : c.replace-block.result.items ≡ get_or (map numbers blocks) t []
    taken = ap numbers (c.replace-block.ensures.value ∙ c.index_mut.ensures.value)
        ∙ sym (get_or-map numbers blocks t c.index_mut.result.now []
        (omega (arith, c.loop-first.invariant.count)))

    those : (n : ℕ) → Contains block n ↔ Contains c.args.listed.now (t, n)
    those n =
        let sorted = c.in_order.ensures.same n in
        let left = c.loop-first.invariant.left t n (omega arith) in (
          λ there. left.0 (subst (λ (ns : List ℕ). Contains ns n) taken (sorted.0 there)),
          λ there. sorted.1 (subst (λ (ns : List ℕ). Contains ns n) (sym taken) (left.1 there)),
        )

pub returns-clause-those : goal.returns-clause-those
returns-clause-those c = λ p. (
  λ there. ((c.loop-first.invariant.put.those p).0 there).0,
  λ there. (c.loop-first.invariant.put.those p).1 (there, omega (arith, c.requires p there)),
)
