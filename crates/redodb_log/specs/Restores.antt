-- What is restored from a log, and why a log is refused.
use Rattle.std.specs.Prelude.{◌≡◌, ◌≢◌, ◌⊎◌, ℕ, ◌+◌, ◌*◌, ◌^◌, ◌≤◌, ◌==◌, List, [], ◌∷◌, ◌++◌, None, filter, length, Contains, ⊤}
use Rattle.redodb_model.specs.Names.{Text, texts}
use Rattle.redodb_model.specs.State.{empty}
use Rattle.redodb_model.specs.History.{Line, left_by}
use Rattle.redodb_history.specs.Histories.{line_text_of}
use Rattle.redodb_live.specs.Support.LiveState.{LiveState, state_in, calls_in}
use Rattle.redodb_live.specs.Lines.{lines_text_of, names_after}
use Rattle.redodb_log.specs.Logs.{Past, past_lines, head_of, log_header, dump_header, AreLogged, IsLogOf, IsPast, IsTornHeader}
use Rattle.redodb_log.specs.declared.restoring.Restored.{Restored}
use Rattle.redodb_log.specs.declared.restoring.RestoreFault.{RestoreFault}
use Rattle.redodb_log.specs.declared.restoring.RestoreFault.TheVariants.{Memory, Worn, State, Differs}

-- the database is in the state after the lines, from the empty state; it counts no more calls
pub record IsLeftBy (lines : List (Line Text)) (live : LiveState) : Type 0 where
  pub names : live.names ≡ names_after lines
  pub state : state_in live ≡ left_by texts empty lines
  pub calls : calls_in live ≤ length lines

-- how many lines come before those of sessions
abbrev pub head_lines : Past → ℕ
head_lines past = length (filter (λ byte. byte == 10) (head_of past))

module _ (past : Past) where
  -- the lines were done again; they and what comes before them have this many bytes
  pub record IsRestoredTo (lines : List (Line Text)) (restored : Restored) : Type 0 where
    pub left : IsLeftBy (past_lines past ++ lines) restored.live
    pub lines_are : restored.lines ≡ length lines
    pub head_is : restored.head ≡ length (head_of past)
    pub bytes_are : restored.bytes ≡ length (head_of past ++ lines_text_of lines)

  -- the lines of a log were done again; or it had not even a header
  abbrev pub IsRestored : Text → Restored → Type 0
  IsRestored bytes restored =
      ((lines : List (Line Text)) × (torn : Text) × IsLogOf past bytes lines torn
      × IsRestoredTo lines restored)
      ⊎ (IsTornHeader bytes × (past ≡ None) × IsLeftBy [] restored.live × (restored.lines ≡ 0)
      × (restored.bytes ≡ 0))

  -- another line follows the lines, which could not be logged there
  pub record DiffersBehind (bytes : Text) (lines : List (Line Text)) : Type 0 where
    pub is_past : IsPast past
    pub logged : AreLogged (past_lines past ++ lines)
    pub left : Text
    pub parts : bytes ≡ head_of past ++ lines_text_of lines ++ left
    pub has_line : Contains left 10
    pub differs : (line : Line Text) (rest : Text) → left ≡ line_text_of line ++ rest
        → ¬ (AreLogged (past_lines past ++ (lines ++ line ∷ [])))

-- neither a header nor a prefix of one
abbrev pub HasBadHeader : Text → Type 0
HasBadHeader bytes =
    ¬ (IsTornHeader bytes) × ((rest : Text) → bytes ≢ log_header ++ rest)
    × ((rest : Text) → bytes ≢ dump_header ++ rest)

module _ (past : Past) (bytes : Text) where
  -- after these lines, or in place of the header, something comes that can't be there
  abbrev pub IsDamagedAfter : List (Line Text) → Type 0
  IsDamagedAfter lines =
      (HasBadHeader bytes × (past ≡ None) × (lines ≡ [])) ⊎ DiffersBehind past bytes lines

  -- a line of the file, counted from 1, is not the database's answer: this many lines and bytes of a
  -- log come before it
  abbrev pub DiffersAt : ℕ → ℕ → ℕ → Type 0
  DiffersAt number count size =
      (HasBadHeader bytes × (past ≡ None) × (number ≡ 1) × (count ≡ 0) × (size ≡ 0))
      ⊎ ((lines : List (Line Text)) × DiffersBehind past bytes lines
      × (number ≡ head_lines past + length lines + 1) × (count ≡ length lines)
      × (size ≡ length (head_of past ++ lines_text_of lines)))

  -- there are more lines than the database answers: after some of them one more, and two for each of
  -- 65 names more than are known, can't be counted
  abbrev pub HasTooMany : Type 0
  HasTooMany =
      (lines : List (Line Text)) × (rest : Text) × AreLogged (past_lines past ++ lines)
      × (bytes ≡ head_of past ++ lines_text_of lines ++ rest) × (past ≡ None → Contains rest 10)
      × (2 ^ 32 ≤ length (past_lines past ++ lines) + 1
      + 2 * (length (names_after (past_lines past ++ lines)) + 65))

  -- the cause of a fault; `Memory` says nothing of the log. A dump that lines left is loaded, so `State` is no fault of a
  -- log that has a past
  abbrev pub IsRestoreCause : RestoreFault → Type 0
  IsRestoreCause Memory = ⊤
  IsRestoreCause Worn = HasTooMany
  IsRestoreCause (State number) = ⊥
  IsRestoreCause (Differs number count size) = DiffersAt number count size

-- a fault that says nothing about the log
abbrev pub IsOfRoom : RestoreFault → Type 0
IsOfRoom Memory = ⊤
IsOfRoom Worn = ⊤
IsOfRoom (State number) = ⊥
IsOfRoom (Differs number count size) = ⊥

-- where a fault says that bytes come before a line, there are so many
abbrev pub IsWithin : ℕ → RestoreFault → Type 0
IsWithin size (Differs number count bytes) = bytes ≤ size
IsWithin size fault = ⊤
