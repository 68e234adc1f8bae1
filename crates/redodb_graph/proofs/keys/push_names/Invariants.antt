use Rattle.std.proofs.Common.{◌≡◌, ◌++◌, map, take}
use Rattle.redodb_graph.proofs.keys.push_names.Given as goal

abbrev pub invariant-loop-name : goal.invariant-loop-name
invariant-loop-name l =
    l.keys.items ≡ l.fn.keys.items ++ map (λ n. (l.target, n)) (take l.name-index l.names)
