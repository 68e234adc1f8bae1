-- Which device failed last.
use Rattle.std.specs.Prelude.{Bool, true, false, List, ◌∷◌}
use Rattle.redodb_log.specs.Operations.{Operation, Revert, LogFailed, OutputFailed}

-- the newest operation is a failure of the log
abbrev pub log_failed : List Operation → Bool
log_failed (LogFailed ∷ earlier) = true
log_failed (Revert ∷ earlier) = true
log_failed done = false

-- the newest operation is a failure of the output
abbrev pub output_failed : List Operation → Bool
output_failed (OutputFailed ∷ earlier) = true
output_failed done = false
