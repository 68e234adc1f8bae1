use Rattle.std.proofs.Common.{◌≡◌, ◌+◌, ◌*◌, ◌∙◌, length, sym, ap, subst, arith}
use Rattle.redodb_memo.specs.Bits.{IsSet}
use Rattle.redodb_memo.specs.Support.Bits.{IsListedBelow}
use Rattle.redodb_model.proofs.Listing.{listed_all, each_below}
use Rattle.redodb_memo.proofs.Marking.{marked_below}
use Rattle.redodb_memo.proofs.Words.{bits_sized, below_count}
use Rattle.redodb_memo.proofs.bits.Bits.list.Goals as goal

pub loop-k-init : goal.loop-k-init
loop-k-init c = rw c.new-list.ensures.items (
  λ i j d less in'. absurd (omega (arith, in')),
  λ t. (λ has. absurd (omega (arith, has.1)), λ is. absurd (omega (arith, is.0))),
)

pub push_members-requires-clause-word : goal.push_members-requires-clause-word
push_members-requires-clause-word c =
    let words = c.self.inside.words.items in
    let sized = sym (bits_sized words c.self.inside.count) ∙ ap length c.self.view_is in
    omega (
      arith,
      sized,
      c.self.invariant.enough,
      c.self.inside.words.ok.0,
      c.len-k-end.ensures,
      c.loop-k-test.true,
    )

pub loop-k-preserved : goal.loop-k-preserved
loop-k-preserved c =
    let k = c.loop-k.k in
    let next : k * 64 + 64 ≡ (k + 1) * 64 = omega arith in
    subst (λ n. IsListedBelow c.args.self.now n c.push_members.new.list.items) next
    c.in_ok-push_members.ensures

pub returns-clause-listed : goal.returns-clause-listed
returns-clause-listed c =
    let flags = c.args.self.now in
    listed_all (IsSet flags) (c.loop-k.k * 64) c.loop-k.list.items
    (λ t on. omega (
      arith,
      below_count t c.self.invariant c.self.view_is (marked_below flags t on),
      c.self.invariant.enough,
      c.self.inside.words.ok.0,
      c.len-k-end.ensures,
      c.loop-k-test.false,
    )) c.loop-k.invariant

pub returns-clause-below : goal.returns-clause-below
returns-clause-below c =
    let flags = c.args.self.now in
    each_below (length flags) c.loop-k.list.items
    (λ t h. marked_below flags t ((c.loop-k.invariant.1 t).0 h).1)
