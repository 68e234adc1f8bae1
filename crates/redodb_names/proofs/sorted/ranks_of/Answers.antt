use Rattle.std.proofs.Common.{◌<◌, ◌∙◌, length, get_or, arith}
use Rattle.std.proofs.lemmas.List.{length-set}
use Rattle.redodb_model.proofs.Listing.{below_at}
use Rattle.redodb_names.proofs.Ranked.{ranked_more}
use Rattle.redodb_names.proofs.sorted.ranks_of.Goals as goal

pub loop-k-preserved : goal.loop-k-preserved
loop-k-preserved c =
    let sorted = c.args.sorted.now in
    let ranks = c.loop-k.ranks.items in
    let k = c.loop-k.k in
    let sized = c.loop-k.invariant.sized in
    let in' : k < length sorted = omega arith in
    let below = below_at (length sorted) (length ranks) sorted k 0 c.requires.below in' sized in
    record {
      sized = length-set ranks (get_or sorted k 0) k ∙ sized;
      each = ranked_more sorted ranks k in' below c.loop-k.invariant.each;
    }
