use Rattle.std.proofs.Common.{◌/◌, ◌∙◌, refl, arith}
use Rattle.redodb_memo.proofs.Words.{bit_put, flag_changed, none_past_still, word_within}
use Rattle.redodb_memo.proofs.bits.Bits.insert.Goals as goal

pub index_mut-requires : goal.index_mut-requires
index_mut-requires c =
    let t = c.args.t in
    let in' = word_within t c.self.invariant c.self.view_is c.requires (t / 64) refl in
    omega (arith, in', c.self.inside.words.ok.0)

pub invariant_of-self : goal.invariant_of-self
invariant_of-self c =
    let t = c.args.t in
    let changed = bit_put t c.self.invariant c.self.view_is c.requires c.index_mut.ensures.value in
    record {
      enough = changed.sized ∙ c.self.invariant.enough;
      none_past = none_past_still t c.self.invariant c.self.view_is c.requires changed;
      few = c.self.invariant.few;
    }

pub returns : goal.returns
returns c =
    let t = c.args.t in
    flag_changed t c.self.invariant c.self.view_is c.requires
    (bit_put t c.self.invariant c.self.view_is c.requires c.index_mut.ensures.value)
