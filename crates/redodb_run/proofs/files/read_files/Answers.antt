use Rattle.std.proofs.Common.{◌∙◌, arith}
use Rattle.std.proofs.lemmas.Grind.{common_steps}
use Rattle.std.proofs.lemmas.Result.{err_from_is_err_and}
use Rattle.std.proofs.Math.Seq.{map-set_same}
use Rattle.redodb_io.specs.Watched.{failures_of, inner_of}
use Rattle.redodb_run.proofs.Causes.{IsRunCause-read, shown_after}
use Rattle.redodb_run.specs.Support.Files.{scripts_at}
use Rattle.redodb_run.proofs.Accepted.{AreScriptsBelow-append, files_more}
use Rattle.redodb_run.proofs.files.read_files.Goals as goal

pub returns-in_err-script-clause-cause : goal.returns-in_err-script-clause-cause
returns-in_err-script-clause-cause g c =
    let at = c.loop-at.at in
    let same = c.loop-at.invariant.later at (omega arith) in
    let cause = IsRunCause-read (λ file. g.R.Read.remaining (inner_of file))
    (λ file. failures_of file)
    c.args.files.now c.loop-at.files at c.index-files-at.result c.read_file.new.file
    c.loop-at.names (scripts_at c.loop-at.names c.loop-at.scripts.items) c.in_err-script.field-0.0
    (omega arith) (omega arith) c.loop-at.invariant.accepted same c.loop-at.invariant.counts
    c.in_err-script.ensures.cause in
    let p = err_from_is_err_and c.from_residual.result c.from_residual.ensures.1 in
    rw (p.1, p.2) cause

pub returns-in_err-script-clause-others : goal.returns-in_err-script-clause-others
returns-in_err-script-clause-others g c =
    let p = err_from_is_err_and c.from_residual.result c.from_residual.ensures.1 in
    rw (p.1, p.2) (λ quiet. map-set_same (λ file. failures_of file) c.loop-at.files c.loop-at.at
    c.read_file.new.file c.index-files-at.result (c.in_err-script.ensures.others quiet)
    ∙ c.loop-at.invariant.counts)

pub returns-in_err-push-clause-others : goal.returns-in_err-push-clause-others
returns-in_err-push-clause-others g c quiet =
    map-set_same (λ file. failures_of file) c.loop-at.files c.loop-at.at c.read_file.new.file
    c.index-files-at.result (c.in_ok-script.ensures.others (λ none. none))
    ∙ c.loop-at.invariant.counts

pub loop-at-preserved : goal.loop-at-preserved
loop-at-preserved g c =
    let at = c.loop-at.at in
    let same = c.loop-at.invariant.later at (omega arith) in
    let old = c.loop-at.names in
    let new = c.read_file.new.names in
    let scripts = c.loop-at.scripts.items in
    let script = c.in_ok-script.script in
    let accepted = files_more (λ file. g.R.Read.remaining (inner_of file)) c.args.files.now
    c.loop-at.files at c.index-files-at.result old new scripts script (omega arith)
    (omega arith) same
    c.in_ok-script.ensures.kept c.loop-at.invariant.below c.loop-at.invariant.accepted
    c.in_ok-script.ensures.accepted in
    let below = AreScriptsBelow-append old new scripts script c.in_ok-script.ensures.kept
    c.loop-at.invariant.below c.in_ok-script.ensures.below in
    record {
      accepted = rw c.in_ok-push.ensures.items accepted;
      below = rw c.in_ok-push.ensures.items below;
      few = c.in_ok-script.ensures.few;
      later = λ k after. shown_after (λ file. g.R.Read.remaining (inner_of file)) c.loop-at.files at
          k c.read_file.new.file (omega arith) ∙ c.loop-at.invariant.later k (omega arith);
      counts = map-set_same (λ file. failures_of file) c.loop-at.files c.loop-at.at
          c.read_file.new.file c.index-files-at.result
          (c.in_ok-script.ensures.others (λ none. none))
          ∙ c.loop-at.invariant.counts;
    }

pub offset_bounds-files-at : goal.offset_bounds-files-at
offset_bounds-files-at g c = grind (arith, common_steps)

pub returns-in_err-script-clause-below : goal.returns-in_err-script-clause-below
returns-in_err-script-clause-below g c = grind (arith, common_steps)

pub returns-in_err-push-clause-some : goal.returns-in_err-push-clause-some
returns-in_err-push-clause-some g c = grind (arith, common_steps)

pub returns-clause-accepted : goal.returns-clause-accepted
returns-clause-accepted g c = grind (arith, common_steps)
