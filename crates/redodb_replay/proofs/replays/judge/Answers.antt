use Rattle.std.proofs.Common.{◌≡◌, ◌≢◌, rules, subst}
use Rattle.std.specs.Prelude.{bytes_eq}
use Rattle.std.specs.List.{IsDistinct}
use Rattle.redodb_commands.specs.Meaning.{reply_of, line_at}
use Rattle.redodb_replay.proofs.Judged.{judged_on, judged_right, judged_wrong}
use Rattle.redodb_replay.proofs.replays.judge.Goals as goal

pub returns-in_default-clause-judged : goal.returns-in_default-clause-judged
returns-in_default-clause-judged c lines is counted =
    judged_on c.args.live.now lines (line_at c.args.live.now.names c.args.line.now)
    c.args.verdict.now c.in_default.not-Same is

pub returns-then-is_same-clause-judged : goal.returns-then-is_same-clause-judged
returns-then-is_same-clause-judged c lines is counted =
    let so_far = rw c.in-Same.is at is in
    let reply = c.in_ok-reply.reply in
    let same : reply_of reply ≡ reply_of c.args.line.now.reply =
    c.is_same.ensures.0 (search rules) in
    judged_right c.args.live.now c.call.new.self c.call.ensures.names lines so_far.right.1
    (so_far.left tt) c.args.number counted c.args.line.now reply c.in_ok-reply.ensures.answers same
    c.in_ok-reply.ensures.after

pub returns-else-is_same-clause-judged : goal.returns-else-is_same-clause-judged
returns-else-is_same-clause-judged c lines is counted =
    let so_far = rw c.in-Same.is at is in
    let reply = c.in_ok-reply.reply in
    let differs : reply_of reply ≢ reply_of c.args.line.now.reply =
    λ e. let same = c.is_same.ensures.1 e in cc in
    judged_wrong c.args.live.now c.call.new.self c.call.ensures.names lines so_far.right.1
    (so_far.left tt) c.args.number counted c.args.line.now reply c.in_ok-reply.ensures.answers
    (subst (IsDistinct bytes_eq) c.names.ensures c.are_names.ensures.distinct)
    c.in_ok-reply.ensures.below c.requires.below differs
