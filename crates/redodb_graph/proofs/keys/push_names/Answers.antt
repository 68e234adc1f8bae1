use Rattle.std.proofs.Common.{◌∙◌, ℕ, ◌<◌, List, [], ◌∷◌, ◌++◌, length, get_or, map, take, ap, append_assoc, sym, arith}
use Rattle.std.proofs.lemmas.List.{map_more}
use Rattle.redodb_graph.proofs.keys.push_names.Goals as goal

pub loop-name-preserved : goal.loop-name-preserved
loop-name-preserved c =
    let pair : ℕ → ℕ × ℕ = λ n. (c.args.target, n) in
    let names = c.args.names.now in
    let at = c.loop-name.name-index in
    let last : List (ℕ × ℕ) = pair (get_or names at 0) ∷ [] in
    let below : at < length names = omega arith in
    c.in_ok-push.ensures.items ∙ ap (λ (l : List (ℕ × ℕ)). l ++ last) c.loop-name.invariant
    ∙ append_assoc c.args.keys.now.items (map pair (take at names)) last
    ∙ ap (λ (l : List (ℕ × ℕ)). c.args.keys.now.items ++ l) (sym (map_more pair names at 0 below))
