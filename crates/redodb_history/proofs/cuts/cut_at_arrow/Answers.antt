use Rattle.std.proofs.Common.{◌+◌, ◌-◌, ◌∙◌, sym, arith}
use Rattle.redodb_history.proofs.TextCuts.{cut_at_first, no_arrow_left, no_arrow_past, no_arrow_to_sign, sign_within}
use Rattle.redodb_history.proofs.cuts.cut_at_arrow.Goals as goal

pub returns-in-Some-after_arrow : goal.returns-in-Some-after_arrow
returns-in-Some-after_arrow c =
    let rest = c.args.rest.now in
    let sign = sym c.position_of.ensures ∙ c.in-Some.is in
    let within = sign_within rest c.loop-more.seen c.in-Some.more sign in
    let none =
    no_arrow_to_sign rest c.loop-more.seen c.in-Some.more c.loop-more.invariant.none sign in
    let at = c.loop-more.seen + c.in-Some.more in
    cut_at_first rest c.in-Some-after_arrow.reply.now (at - 1) (omega (arith, within)) none
    c.in-Some-after_arrow.ensures.1

pub loop-more-preserved : goal.loop-more-preserved
loop-more-preserved c =
    let rest = c.args.rest.now in
    let sign = sym c.position_of.ensures ∙ c.in-Some.is in
    let within = sign_within rest c.loop-more.seen c.in-Some.more sign in
    let none =
    no_arrow_to_sign rest c.loop-more.seen c.in-Some.more c.loop-more.invariant.none sign in
    let past =
    no_arrow_past rest (c.loop-more.seen + c.in-Some.more) none
    c.in_default-after_arrow.ensures in
    record {
      within = omega (arith, within);
      none = λ k back lt. past k back (omega arith);
    }

pub returns : goal.returns
returns c =
    no_arrow_left c.args.rest.now c.loop-more.seen c.loop-more.invariant.none
    (sym c.position_of.ensures ∙ c.in_default.is)
