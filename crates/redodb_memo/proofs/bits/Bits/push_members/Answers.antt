use Rattle.std.proofs.Common.{◌≡◌, ◌<◌, ◌+◌, ◌*◌, ◌^◌, sym, subst, arith, rules}
use Rattle.redodb_memo.specs.Support.Bits.{IsListedBelow}
use Rattle.redodb_memo.proofs.WordMembers.{word_left, lowest, lowest_inside, lowest_below, fewer_left, one_more_listed, none_left}
use Rattle.redodb_memo.proofs.Words.{below_count, word_within}
use Rattle.redodb_memo.proofs.bits.Bits.push_members.Goals as goal

pub index-left-requires : goal.index-left-requires
index-left-requires c =
    let k = c.args.k in
    let in' =
    word_within (k * 64) c.self.invariant c.self.view_is c.requires.word k (omega arith) in
    omega (arith, in', c.self.inside.words.ok.0)

pub overflow_cast-next : goal.overflow_cast-next
overflow_cast-next c =
    let below = below_count (c.args.k * 64) c.self.invariant c.self.view_is c.requires.word in
    omega (arith, below, c.self.invariant.few)

pub overflow_mul-next : goal.overflow_mul-next
overflow_mul-next c =
    let below = below_count (c.args.k * 64) c.self.invariant c.self.view_is c.requires.word in
    omega (arith, below, c.self.invariant.few)

pub members-init : goal.members-init
members-init c =
    let k = c.args.k in
    let in' =
    word_within (k * 64) c.self.invariant c.self.view_is c.requires.word k (omega arith) in
    record {
      past = omega arith;
      left = word_left c.self.inside.words.items c.args.self.now c.self.inside.count k
          c.index-left.result.now c.self.invariant.none_past c.self.view_is in' c.index-left.ensures
          c.type_inv.left.fits;
      listed = c.requires.before;
    }

pub overflow_add-next : goal.overflow_add-next
overflow_add-next c =
    let some : 0 < c.members.left = omega (arith, c.members-test.true) in
    let fits : c.members.left < 2 ^ 64 = search rules in
    let below =
    lowest_below c.members.invariant.left some fits c.self.invariant c.self.view_is in
    omega (arith, below, c.self.invariant.few)

pub overflow_add-next-in-members-2 : goal.overflow_add-next-in-members-2
overflow_add-next-in-members-2 c =
    let some : 0 < c.members.left = omega (arith, c.members-test.true) in
    let fits : c.members.left < 2 ^ 64 = search rules in
    let below =
    lowest_below c.members.invariant.left some fits c.self.invariant c.self.view_is in
    omega (arith, below, c.self.invariant.few)

pub members-smaller : goal.members-smaller
members-smaller c =
    let some : 0 < c.members.left = omega (arith, c.members-test.true) in
    let fits : c.members.left < 2 ^ 64 = search rules in
    omega (arith, lowest_inside c.members.invariant.left some fits)

pub members-preserved : goal.members-preserved
members-preserved c =
    let inv = c.members.invariant in
    let some : 0 < c.members.left = omega (arith, c.members-test.true) in
    let fits : c.members.left < 2 ^ 64 = search rules in
    let z = lowest inv.left some fits in
    record {
      past = omega (arith, inv.past);
      left = fewer_left inv.left some fits;
      listed = subst (IsListedBelow c.args.self.now (c.members.next + (z + 1)))
          (sym c.in_ok-push.ensures.items)
          (one_more_listed inv.left some fits c.members.list.items inv.listed);
    }

pub returns : goal.returns
returns c =
    let empty : c.members.left ≡ 0 = omega (arith, c.members-test.false) in
    none_left c.members.invariant.left empty c.members.list.items c.members.invariant.listed
