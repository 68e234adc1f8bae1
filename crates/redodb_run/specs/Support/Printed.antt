-- What is printed of a session, line by line.
use Rattle.std.specs.Prelude.{◌≡◌, ℕ, ◌+◌, ◌<◌, ◌≤◌, true, List, [], ◌++◌, length, map, drop, slice_index_or}
use Rattle.std.specs.List.{flat_map}
use Rattle.redodb_model.specs.Names.{Text}
use Rattle.redodb_model.specs.Command.{Item}
use Rattle.redodb_model.specs.History.{Line, part_of}
use Rattle.redodb_history.specs.Histories.{ended}
use Rattle.redodb_run.specs.RunTexts.{skipped_text_of, session_lines_of}
use Rattle.redodb_run.specs.declared.part.Part.{Part}

-- the lines of a script that were not done
abbrev pub skipped_lines_of : List (Item Text) → List Text
skipped_lines_of script = map skipped_text_of script

-- no line is printed
pub record IsBlank (part : Part) : Type 0 where
  pub next : part.next ≡ 0
  pub through : part.through ≡ true
  pub closing : part.closing ≡ 0
  pub body : part.body.items ≡ []

-- what is not printed of the session with this script, if these lines of it follow
abbrev pub left_of : List (Item Text) → Part → List (Line Text) → List Text
left_of script part lines = session_lines_of part.through (drop part.next script) lines

-- the first of all these lines are printed; the others are left, if these lines of the session
-- follow
pub record IsPrinted (script : List (Item Text)) (all : List Text) (part : Part)
    (later : List (Line Text)) : Type 0 where
  pub printed : List Text
  pub parted : all ≡ printed ++ left_of script part later
  pub shown : part.body.items ≡ flat_map ended printed
  pub counted : part.next + part.closing ≡ length printed
  pub within : part.next ≤ length script

-- the lines of each session are printed up to those that follow
pub record ArePrinted (scripts : List (List (Item Text))) (lines later : List (Line Text))
    (parts : List Part) : Type 0 where
  pub count : length parts ≡ length scripts
  pub each : (s : ℕ) (part : Part) → s < length parts → part ≡ slice_index_or parts s part
      → IsPrinted (slice_index_or scripts s [])
      (session_lines_of true (slice_index_or scripts s []) (part_of s lines)) part
      (part_of s later)
  pub few : (s : ℕ) (part : Part) → s < length parts → part ≡ slice_index_or parts s part
      → part.closing + length later ≤ length lines
