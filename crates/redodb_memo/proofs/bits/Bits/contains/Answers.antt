use Rattle.std.proofs.Common.{◌/◌, refl, arith}
use Rattle.redodb_memo.proofs.Words.{bit_read, word_within}
use Rattle.redodb_memo.proofs.bits.Bits.contains.Goals as goal

pub index-requires : goal.index-requires
index-requires c =
    let t = c.args.t in
    let in' = word_within t c.self.invariant c.self.view_is c.requires (t / 64) refl in
    omega (arith, in', c.self.inside.words.ok.0)

pub returns : goal.returns
returns c = bit_read c.args.t c.self.invariant c.self.view_is c.requires c.index.ensures
