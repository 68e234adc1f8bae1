use Rattle.std.proofs.Common.{◌≡◌, ◌∙◌, ◌<◌, ◌+◌, ℕ, List, [], ◌∷◌, ◌++◌, Contains, length, get_or, map, set, take, Vec, Global, arith, rules, ap, sym, subst}
use Rattle.std.proofs.lemmas.List.{get_or_default, get_or-map, length-map, length-set, map-set, take_all}
use Rattle.std.proofs.lemmas.List.Elements.{Contains-get_or}
use Rattle.redodb_graph.specs.Support.Pairs.{AreBlocks}
use Rattle.redodb_graph.proofs.Gathered.{block_more}
use Rattle.redodb_graph.proofs.once.blocks_of.Goals as goal

first_below : (pairs : List (ℕ × ℕ)) (k count : ℕ)
    → ((p : ℕ × ℕ) → Contains pairs p → p.0 < count)
    → k < length pairs → (get_or pairs k (0, 0)).0 < count
first_below pairs k count below in' =
    below (get_or pairs k (0, 0)) (Contains-get_or pairs k (0, 0) in')

pub index_mut-requires : goal.index_mut-requires
index_mut-requires c =
    let first = first_below c.args.pairs.now c.loop-pair.pair-index c.args.count c.requires
    (omega arith) in
    search (rules, first, c.loop-pair.invariant.count)

pub loop-pair-preserved : goal.loop-pair-preserved
loop-pair-preserved c = record {
  count = length-set blocks pair.0 c.push.new.self ∙ c.loop-pair.invariant.count;
  blocks = subst (AreBlocks 0 (take (k + 1) pairs)) (sym same)
      (block_more pairs k pair (omega arith)
      (sym (get_or_default pairs k (0, 0) pair (omega arith))) (map numbers blocks)
      (subst (λ n. pair.0 < n) (sym (length-map blocks numbers)) below)
      c.loop-pair.invariant.blocks);
}
  where
    pairs : List (ℕ × ℕ)
    pairs = c.args.pairs.now

    k : ℕ
    k = c.loop-pair.pair-index

    pair : ℕ × ℕ
    pair = get_or pairs k (0, 0)

    blocks : List (Vec ℕ Global)
    blocks = c.loop-pair.blocks.items

    numbers : Vec ℕ Global → List ℕ
    numbers block = block.items

    below : pair.0 < length blocks
    below = subst (λ n. pair.0 < n) (sym c.loop-pair.invariant.count)
        (first_below pairs k c.args.count c.requires (omega arith))

    same : map numbers (set blocks pair.0 c.push.new.self)
        ≡ set (map numbers blocks) pair.0
        (get_or (map numbers blocks) pair.0 [] ++ pair.1 ∷ [])
    same =
        map-set numbers blocks pair.0 c.push.new.self
        ∙ ap (set (map numbers blocks) pair.0)
        (c.in_ok-push.ensures.items ∙ ap (λ (l : List ℕ). l ++ pair.1 ∷ [])
        (ap numbers c.index_mut.ensures.value
        ∙ sym (get_or-map numbers blocks pair.0 c.index_mut.result.now [] below)))

pub returns-clause-blocks : goal.returns-clause-blocks
returns-clause-blocks c =
    let pairs = c.args.pairs.now in
    subst (λ (ps : List (ℕ × ℕ)). AreBlocks 0 ps (map (λ block. block.items) c.loop-pair.blocks.items))
    (take_all c.loop-pair.pair-index pairs (omega arith)) c.loop-pair.invariant.blocks
