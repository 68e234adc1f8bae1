use Rattle.std.proofs.Common.{◌≡◌, ◌<◌, ◌∙◌, ℕ, length, get_or, ap, arith}
use Rattle.std.specs.Prelude.{max}
use Rattle.std.specs.Int.{bit_at}
use Rattle.std.proofs.lemmas.List.{length-set, get_or-set_other, get_or_default}
use Rattle.std.proofs.lemmas.Nat.Bits.{bit_at_or}
use Rattle.redodb_merge.proofs.WaitingBits.{woken_small}
use Rattle.redodb_merge.proofs.merging.waiting.Waiting.wake.Goals as goal

pub returns : goal.returns
returns c =
    let buckets = c.args.self.now.buckets.items in
    let k = c.bucket_woken-k.result in
    let w = c.index.result.now in
    let in' : k < length buckets =
    omega (arith, c.bucket_woken-k.ensures, woken_small c.args.place, c.requires) in
    let read : w ≡ get_or buckets k 0 = c.index.ensures ∙ get_or_default buckets k w 0 in' in
    let at : w ≡ get_or buckets _ 0 =
    read ∙ ap (λ (i : ℕ). get_or buckets i 0) c.bucket_woken-k.ensures in
    record {
      bucketed = length-set buckets k 0 ∙ c.requires;
      ready = λ u. bit_at_or c.args.self.now.ready w u
          ∙ ap (λ x. max (bit_at c.args.self.now.ready u) (bit_at x u)) at;
      others = λ i far. get_or-set_other buckets k i 0 0 (λ e. far (e ∙ c.bucket_woken-k.ensures));
    }
