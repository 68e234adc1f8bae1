use Rattle.std.proofs.Common.{◌≡◌, ◌∙◌, false, sym, subst, inl}
use Rattle.redodb_model.specs.Names.{Text}
use Rattle.redodb_io.specs.Watched.{has_failed, inner_of}
use Rattle.redodb_history.specs.HistoryTexts.{IsHistory}
use Rattle.redodb_history.specs.HistoryFaults.{IsHistoryFault}
use Rattle.redodb_replay.proofs.Inputs.{whole_known, has_fault, read_known}
use Rattle.redodb_replay.proofs.texts.verdict_on_input.Goals as goal

pub returns-in-Err-replay-clause-only : goal.returns-in-Err-replay-clause-only
returns-in-Err-replay-clause-only g c lines (bytes, names, is, read) =
    let whole : bytes ≡ c.deref.result.now =
    whole_known (g.R.Read.remaining (inner_of c.args.input.now)) c.in-Ok.bytes.items bytes is
    c.in-Ok.ensures.whole ∙ sym c.deref.ensures.value in
    let only = c.in-Err-replay.ensures.only names lines
    (subst (λ (input : Text). IsHistory input names lines) whole read.1) in
    inl (c.history_fault.ensures.memory.1 only)

pub returns-in-Err-replay-clause-cause : goal.returns-in-Err-replay-clause-cause
returns-in-Err-replay-clause-cause g c =
    let fault = c.in-Err-replay.fault in
    let known = g.R.Read.remaining (inner_of c.args.input.now) in
    let is = subst (λ (input : Text). IsHistoryFault input fault) c.deref.ensures.value
    c.in-Err-replay.ensures.fault in
    c.history_fault.ensures.cause known (has_failed c.args.input.now c.read_whole.new.reader) false
    (has_fault known c.in-Ok.bytes.items fault c.in-Ok.ensures.whole c.in-Ok.ensures.few is)

pub returns-clause-verdict : goal.returns-clause-verdict
returns-clause-verdict g c =
    let (lines, read, right) = c.in-Ok-replay.ensures.verdict in
    let known = g.R.Read.remaining (inner_of c.args.input.now) in
    let names = c.in-Ok-replay.judged.1.names in
    let is = subst (λ (input : Text). IsHistory input names lines) c.deref.ensures.value read in (
      names,
      lines,
      read_known known c.in-Ok.bytes.items names lines c.in-Ok.ensures.whole c.in-Ok.ensures.few
          is,
      right,
      c.in_ok-text.ensures,
    )

pub returns-clause-same : goal.returns-clause-same
returns-clause-same g c lines (bytes, names, is, read) =
    let whole : bytes ≡ c.deref.result.now =
    whole_known (g.R.Read.remaining (inner_of c.args.input.now)) c.in-Ok.bytes.items bytes is
    c.in-Ok.ensures.whole ∙ sym c.deref.ensures.value in
    c.in-Ok-replay.ensures.same names lines
    (subst (λ (input : Text). IsHistory input names lines) whole read.1)
