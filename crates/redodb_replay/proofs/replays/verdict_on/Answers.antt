use Rattle.std.proofs.Common.{◌≡◌, ◌++◌, length, ap, arith}
use Rattle.std.proofs.lemmas.Result.{err_from_is_err_and}
use Rattle.redodb_history.specs.Histories.{header_of}
use Rattle.redodb_history.proofs.HistorySteps.{all_read, read_up_to, read_before, line_fails}
use Rattle.redodb_replay.proofs.Judged.{one_replayed}
use Rattle.redodb_replay.proofs.replays.verdict_on.Goals as goal

pub returns-in_default-clause-fault : goal.returns-in_default-clause-fault
returns-in_default-clause-fault c =
    let input = header_of c.args.count ++ c.args.rest.now in
    let so_far = c.lines.invariant.so_far in
    let up_to = read_up_to input c.args.count c.lines.number so_far.lines c.lines.live.names
    c.lines.left.now c.requires.few (omega arith) so_far.counted so_far.read in
    (c.lines.number, c.lines.live.names, c.lines.left.now, up_to, c.in_default.ensures)

pub returns-in_err-line-clause-fault : goal.returns-in_err-line-clause-fault
returns-in_err-line-clause-fault c =
    let input = header_of c.args.count ++ c.args.rest.now in
    let so_far = c.lines.invariant.so_far in
    let up_to = read_up_to input c.args.count c.lines.number so_far.lines c.lines.live.names
    c.lines.left.now c.requires.few (omega arith) so_far.counted so_far.read in
    let before = read_before input c.lines.number c.lines.live.names c.lines.left.now
    c.in-Some.text.now c.in-Some.after.now c.in-Some.ensures.0 c.in-Some.ensures.1 up_to in
    let cause = line_fails input c.lines.number c.lines.live.names c.in-Some.text.now
    c.in_err-line.field-0.0 before c.in_err-line.ensures.fault in
    let p = err_from_is_err_and c.from_residual.result c.from_residual.ensures.1 in
    rw (p.1, p.2) cause

pub lines-preserved : goal.lines-preserved
lines-preserved c = record {
  so_far = one_replayed (header_of c.args.count ++ c.args.rest.now) c.args.count c.lines.number
      c.lines.live c.read_line.new.self c.judge.new.live c.lines.left.now c.in-Some.text.now
      c.in-Some.after.now c.in_ok-line.line c.lines.verdict c.judge.new.verdict
      c.lines.invariant.so_far c.in-Some.ensures.0 c.in_ok-line.ensures.read
      c.in_ok-line.ensures.named c.read_line.ensures.kept c.read_line.ensures.state
      c.judge.ensures.names c.in_ok-judge.ensures.judged;
  few = omega (arith, c.in_ok-line.ensures.named.1, ap length c.judge.ensures.names);
  calls = omega (
    arith,
    c.in_ok-judge.ensures.calls,
    c.read_line.ensures.calls,
    c.lines.invariant.calls,
  );
}

pub returns-clause-verdict : goal.returns-clause-verdict
returns-clause-verdict c =
    let so_far = c.lines.invariant.so_far in
    let counted : length so_far.lines ≡ c.args.count = omega (arith, so_far.counted) in (
      so_far.lines,
      all_read (header_of c.args.count ++ c.args.rest.now) c.args.count so_far.lines
          c.lines.live.names c.lines.left.now c.requires.few counted so_far.read,
      so_far.judged.right,
    )
