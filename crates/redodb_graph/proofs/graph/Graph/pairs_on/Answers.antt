use Rattle.std.proofs.Common.{◌≡◌, ◌↔◌, ℕ, ap, subst}
use Rattle.std.specs.List.{Contains}
use Rattle.redodb_graph.specs.Pairs.{PairsOf}
use Rattle.redodb_graph.proofs.graph.Graph.pairs_on.Goals as goal

pub returns-clause-those : goal.returns-clause-those
returns-clause-those c =
    let same : c.self.inside.on ≡ c.args.self.now.on = ap (λ graph. graph.on) c.self.view_is in
    subst (λ (of : PairsOf). (p : ℕ × ℕ)
    → Contains c.block.result.now p ↔ (Contains of.items p × (p.0 ≡ c.args.name)))
    same c.block.ensures.those
