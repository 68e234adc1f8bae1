use Rattle.std.proofs.Common.{◌≡◌, ◌≤◌, ◌∙◌, ℕ, Bool, List, false, length, get_or, sym, ap, arith}
use Rattle.redodb_memo.specs.Support.KeptBits.{bits_below}
use Rattle.redodb_memo.proofs.Words.{bits_sized, filled_up, none_past_grown, same_flag}
use Rattle.redodb_memo.proofs.bits.Bits.grown.Goals as goal

-- the count that was is no more than the new one
longer : (words : List ℕ) (count more : ℕ) (flags : List Bool) → bits_below words count ≡ flags
    → length flags ≤ more → count ≤ more
longer words count more flags is few =
    omega (arith, few, sym (bits_sized words count) ∙ ap length is)

pub invariant_of-result : goal.invariant_of-result
invariant_of-result c =
    let words = c.self.inside.words.items in
    let few =
    longer words c.self.inside.count c.args.count c.args.self.now c.self.view_is c.requires in
    let copied = c.in_ok-words.ensures.items_if_clones_equal (λ x y e. e) ∙ c.deref.ensures.value in
    let same = filled_up words c.in_ok-words.words.items c.resize.new.self.items _ _ copied
    (omega (arith, few, c.self.invariant.enough)) c.in_ok-resize.ensures.items in
    record {
      enough = omega (arith, c.in_ok-resize.ensures.len, c.resize.new.self.ok.0);
      none_past = none_past_grown words c.resize.new.self.items c.self.inside.count
          c.self.invariant.none_past same c.args.count few;
      few = c.ranges.count.fits;
    }

pub returns-clause-count : goal.returns-clause-count
returns-clause-count c = bits_sized c.resize.new.self.items c.args.count

pub returns-clause-same : goal.returns-clause-same
returns-clause-same c = λ t.
    let words = c.self.inside.words.items in
    let few =
    longer words c.self.inside.count c.args.count c.args.self.now c.self.view_is c.requires in
    let copied = c.in_ok-words.ensures.items_if_clones_equal (λ x y e. e) ∙ c.deref.ensures.value in
    let same = filled_up words c.in_ok-words.words.items c.resize.new.self.items _ _ copied
    (omega (arith, few, c.self.invariant.enough)) c.in_ok-resize.ensures.items in
    same_flag words c.resize.new.self.items c.self.inside.count c.self.invariant.none_past same
    c.args.count t few
    ∙ ap (λ (flags : List Bool). get_or flags t false) c.self.view_is
