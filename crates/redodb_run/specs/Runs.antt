-- What a run of some session files is.
use Rattle.std.specs.Prelude.{◌≡◌, ℕ, ◌<◌, false, List, [], ◌++◌, length, map, Option, None, Some, slice_index_or}
use Rattle.std.specs.List.{AllByRecursion}
use Rattle.std.specs.Io.KnownBytes.{Appends}
use Rattle.redodb_model.specs.Names.{Text, texts}
use Rattle.redodb_model.specs.Command.{Item}
use Rattle.redodb_model.specs.State.{empty, is_building, target_state}
use Rattle.redodb_model.specs.History.{Line, part_of, left_by, Legal}
use Rattle.redodb_model.specs.Scripts.{Does}
use Rattle.redodb_run.specs.Files.{AreSessions}
use Rattle.redodb_run.specs.RunTexts.{run_text_of, sessions_below}

-- one history in which each session does all that its script says, each reply the database's at its
-- point: the commands of its lines once and in order, of guarded ones those that the replies let
-- through, and then its closing commands
pub record IsRun (scripts : List (List (Item Text))) (lines : List (Line Text)) : Type 0 where
  pub legal : Legal texts lines
  pub sessions : AllByRecursion (λ line. line.session < length scripts) lines
  pub parts : (s : ℕ) → s < length scripts
      → Does texts (slice_index_or scripts s []) (part_of s lines)

-- when the lines are done, no target is held, and none is building
abbrev pub LeavesNothingHeld : List (Line Text) → Type 0
LeavesNothingHeld lines =
    let state = left_by texts empty lines in
    (t : Text) → (state.locks.holder t ≡ None)
    × (is_building (target_state state.records t) ≡ false)

-- the text of such a run
abbrev pub IsRunText : List (List (Item Text)) → Text → Type 0
IsRunText scripts text =
    (lines : List (Line Text)) × IsRun scripts lines
    × (text ≡ run_text_of scripts (sessions_below (length scripts)) lines)

-- the files are accepted, and this is a run text of their commands
abbrev pub RunsAs : List (Option Text) → Text → Type 0
RunsAs files text =
    (scripts : List (List (Item Text))) × AreSessions files scripts × IsRunText scripts text

-- the files are accepted, and the run text of their commands was written
abbrev pub WritesRun : List (Option Text) → Option Text → Option Text → Type 0
WritesRun files before after = (text : Text) × RunsAs files text × Appends before after text

-- the files are accepted, and a prefix of the run text of their commands was written
abbrev pub WritesPart : List (Option Text) → Option Text → Option Text → Type 0
WritesPart files before after =
    (sent : Text) × (rest : Text) × RunsAs files (sent ++ rest) × Appends before after sent

-- the bytes of the files are known, and they are accepted
abbrev pub AreKnownSessions : List (Option Text) → Type 0
AreKnownSessions files =
    (texts : List Text) × (files ≡ map Some texts)
    × ((scripts : List (List (Item Text))) × AreSessions files scripts)
