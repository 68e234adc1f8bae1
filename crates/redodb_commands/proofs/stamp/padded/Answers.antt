use Rattle.std.proofs.Common.{ℕ, List, ◌++◌, length, ap}
use Rattle.std.proofs.lemmas.List.{drop-replicate}
use Rattle.redodb_commands.proofs.stamp.padded.Goals as goal

pub returns : goal.returns
returns c =
    rw c.copy_from_slice.ensures.after (ap (λ (zeros : List ℕ). c.args.text.now ++ zeros)
    (drop-replicate (length c.args.text.now) 64 0))
