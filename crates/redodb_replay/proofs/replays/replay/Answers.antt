use Rattle.std.proofs.Common.{Ok, sym, subst}
use Rattle.std.proofs.lemmas.Result.{err_from_is_err_and}
use Rattle.redodb_model.specs.Names.{Text}
use Rattle.redodb_history.specs.HistoryFaults.{IsHistoryFault}
use Rattle.redodb_replay.proofs.Inputs.{HasRight, judged_same, memory_alone}
use Rattle.redodb_replay.proofs.replays.replay.Goals as goal

pub returns-in_err-verdict-clause-fault : goal.returns-in_err-verdict-clause-fault
returns-in_err-verdict-clause-fault c =
    let cause = subst (λ (input : Text). IsHistoryFault input c.in_err-verdict.field-0.0)
    (sym c.in_ok-count.ensures.read.1) c.in_err-verdict.ensures.fault in
    let p = err_from_is_err_and c.from_residual-in_err-verdict.result
    c.from_residual-in_err-verdict.ensures.1 in
    rw (p.1, p.2) cause

pub returns-in_err-verdict-clause-only : goal.returns-in_err-verdict-clause-only
returns-in_err-verdict-clause-only c names lines is =
    memory_alone c.args.input.now c.from_residual-in_err-verdict.result names lines
    (returns-in_err-verdict-clause-fault c) is

pub returns-clause-same : goal.returns-clause-same
returns-clause-same c names lines is =
    let live = c.verdict_on.new.live in
    let right = subst (λ (input : Text). HasRight input live.names c.in_ok-verdict.verdict)
    (sym c.in_ok-count.ensures.read.1) c.in_ok-verdict.ensures.verdict in
    judged_same c.args.input.now (Ok (c.in_ok-verdict.verdict, live)) names lines right is
