use Rattle.std.proofs.Common.{◌≡◌, ◌++◌, take}
use Rattle.std.specs.List.{flat_map}
use Rattle.redodb_text.specs.Texts.{after_space}
use Rattle.redodb_live.specs.Answers.{known_words}
use Rattle.redodb_live.specs.Support.LiveState.{state_in}
use Rattle.redodb_live.proofs.live.Live.put_all.Given as goal

abbrev pub invariant-loop-n : goal.invariant-loop-n
invariant-loop-n l =
    l.line.items ≡ l.fn.line.items
    ++ flat_map after_space (flat_map (known_words (state_in l.self)) (take l.n l.self.names))
