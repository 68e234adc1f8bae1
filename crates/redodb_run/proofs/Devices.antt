-- Counts and faults: a device's fault is the result exactly if a count has changed.
use Rattle.std.proofs.Common.{◌≡◌, ℕ, Bool, false, Option, List, get_or, ap, ◌⊎◌, inl, inr}
use Rattle.std.specs.Prelude.{IsTrue, ◌↔◌}
use Rattle.std.proofs.lemmas.Bool.{both_ways}
use Rattle.redodb_model.specs.Names.{Text}
use Rattle.redodb_text.specs.declared.fault.Fault.{Fault}
use Rattle.redodb_text.specs.declared.fault.Fault.TheVariants.{Read, Write}
use Rattle.redodb_run.specs.Files.{failed_at}
use Rattle.redodb_text.specs.Faults.{IsDeviceFault}
use Rattle.redodb_io.proofs.Counts.{none_failed}
use Rattle.redodb_run.specs.Faults.{IsRunCause}

-- counts that stay the same show no failure
pub no_file_failed : (before after : List ℕ) → after ≡ before
    → (file : ℕ) × IsTrue (failed_at before after file) → ⊥
no_file_failed before after same (file, failed) =
    none_failed (get_or before file 0) (get_or after file 0)
    (ap (λ (counts : List ℕ). get_or counts file 0) same) failed

-- if no write was tried, a device's fault is the result exactly if a file's count has changed
pub device_read : (known : List (Option Text)) (before after : List ℕ) (out : Bool)
    (fault : Fault)
    → IsRunCause known (failed_at before after) false fault
    → (¬ (IsDeviceFault fault) → after ≡ before)
    → out ≡ false
    → IsDeviceFault fault ↔ (((file : ℕ) × IsTrue (failed_at before after file)) ⊎ IsTrue out)
device_read known before after out fault cause quiet out_down = by fault cause quiet
  where
    none : after ≡ before → ((file : ℕ) × IsTrue (failed_at before after file)) ⊎ IsTrue out → ⊥
    none same (inl failed) = no_file_failed before after same failed
    none same (inr out_failed) = both_ways out out_down out_failed

    by : (fault : Fault) → IsRunCause known (failed_at before after) false fault
        → (¬ (IsDeviceFault fault) → after ≡ before)
        → IsDeviceFault fault ↔ (((file : ℕ) × IsTrue (failed_at before after file))
        ⊎ IsTrue out)
    by (Read file) cause quiet = (λ yes. inl (file, cause.2), λ any. tt)
    by Write cause quiet = absurd cc
    by fault cause quiet = (λ no. absurd no, none (quiet (λ no. no)))
