use Rattle.std.proofs.Common.{◌≡◌, ◌≤◌, ℕ, None, [], length, take, get_or}
use Rattle.redodb_run.specs.Files.{AreAccepted, bytes_of_files, failures_of_files}
use Rattle.redodb_run.specs.Support.Files.{AreScriptsBelow, scripts_at}
use Rattle.redodb_run.proofs.files.read_files.Given as goal

abbrev pub invariant-loop-at : goal.invariant-loop-at
invariant-loop-at g l =
    let all = bytes_of_files g.R.Read.remaining l.initial.files in
    let here = bytes_of_files g.R.Read.remaining l.files in
    record {
      accepted : AreAccepted [] (take l.at all) (scripts_at l.names l.scripts.items) l.names;
      below : AreScriptsBelow l.names l.scripts.items;
      few : length l.names ≤ 65536;
      later : (k : ℕ) → l.at ≤ k → get_or here k None ≡ get_or all k None;
      counts : failures_of_files l.files ≡ failures_of_files l.initial.files;
    }
