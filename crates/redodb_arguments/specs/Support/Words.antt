-- The files that a job reads.
use Rattle.std.specs.Prelude.{List, [], ◌∷◌, String}
use Rattle.std.specs.declared.alloc.Global.{Global}
use Rattle.redodb_arguments.specs.declared.task.Job.{Job}
use Rattle.redodb_arguments.specs.declared.task.Job.TheVariants.{Input, Run, Replay}

-- the files that a job reads
abbrev pub files_of : Job → List (String Global)
files_of Input = []
files_of (Run files) = files.items
files_of (Replay file) = file ∷ []
