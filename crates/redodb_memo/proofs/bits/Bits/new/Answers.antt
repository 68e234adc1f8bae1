use Rattle.std.proofs.Common.{◌≡◌, ◌+◌, ◌/◌, ◌∙◌, ℕ, List, replicate, sym, rules}
use Rattle.redodb_memo.proofs.Words.{none_set, none_flagged}
use Rattle.redodb_memo.proofs.bits.Bits.new.Goals as goal

pub invariant_of-result : goal.invariant_of-result
invariant_of-result c =
    let words : List ℕ = c.in_ok-words.words.items in
    let zeros : words ≡ replicate ((c.args.count + 63) / 64) 0 = search rules in
    record {
      enough = sym c.in_ok-words.words.ok.0 ∙ c.in_ok-words.ensures.len;
      none_past = λ t past. none_set ((c.args.count + 63) / 64) words zeros t;
      few = c.ranges.count.fits;
    }

pub returns : goal.returns
returns c =
    let words : List ℕ = c.in_ok-words.words.items in
    let zeros : words ≡ replicate ((c.args.count + 63) / 64) 0 = search rules in
    none_flagged ((c.args.count + 63) / 64) words c.args.count zeros
