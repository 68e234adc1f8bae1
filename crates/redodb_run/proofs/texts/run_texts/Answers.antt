use Rattle.std.proofs.Common.{◌∙◌, false, sym, subst, inl, inr}
use Rattle.std.proofs.lemmas.Result.{err_from_is_err_and}
use Rattle.redodb_model.specs.Names.{Text}
use Rattle.redodb_io.specs.Watched.{failures_of, has_failed}
use Rattle.redodb_io.proofs.Counts.{same_count}
use Rattle.redodb_run.specs.Runs.{RunsAs}
use Rattle.redodb_run.specs.Files.{bytes_of_files, failures_of_files, failed_files}
use Rattle.redodb_run.proofs.NoFault.{refused_only}
use Rattle.redodb_run.proofs.Devices.{device_read, no_file_failed}
use Rattle.redodb_run.proofs.texts.run_texts.Goals as goal

pub returns-in_err-text-clause-device : goal.returns-in_err-text-clause-device
returns-in_err-text-clause-device g c =
    let p = err_from_is_err_and c.from_residual.result c.from_residual.ensures.1 in
    rw (p.1, p.2) (device_read (bytes_of_files g.R.Read.remaining c.args.files.now)
    (failures_of_files c.args.files.now) (failures_of_files c.text_of_files.new.files)
    (has_failed c.args.out.now c.args.out.now) c.in_err-text.field-0.0
    c.in_err-text.ensures.cause c.in_err-text.ensures.others
    (same_count (failures_of c.args.out.now)))

pub returns-in-Ok-clause-device : goal.returns-in-Ok-clause-device
returns-in-Ok-clause-device g c = (
  λ no. absurd no,
  λ up. elim up [
    | inl any ↦ no_file_failed (failures_of_files c.args.files.now)
        (failures_of_files c.text_of_files.new.files) (c.in_ok-text.ensures.others (λ no. no)) any
    | inr failed ↦ absurd (let wrong = c.in-Ok.ensures.write.1 failed in cc)
  ],
)

pub returns-clause-part_written : goal.returns-clause-part_written
returns-clause-part_written g c same =
    let files = bytes_of_files g.R.Read.remaining c.args.files.now in
    let prefix = c.in-Err-Write.ensures.prefix in (
      prefix.0,
      prefix.1,
      subst (λ (text : Text). RunsAs files text) (sym c.deref.ensures.value ∙ prefix.2)
          c.in_ok-text.ensures.text,
      prefix.3,
    )

pub returns-in_err-text-clause-only : goal.returns-in_err-text-clause-only
returns-in_err-text-clause-only g c known =
    let p = err_from_is_err_and c.from_residual.result c.from_residual.ensures.1 in
    rw (p.1, p.2) (refused_only (bytes_of_files g.R.Read.remaining c.args.files.now)
    (failed_files c.args.files.now c.text_of_files.new.files) false c.in_err-text.field-0.0 known
    c.in_err-text.ensures.cause)
