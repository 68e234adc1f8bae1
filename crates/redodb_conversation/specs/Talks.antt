-- What a conversation restores, answers and logs, and what its log and its output hold at each moment.
use Rattle.std.specs.Prelude.{◌≡◌, ◌⊎◌, ℕ, ◌+◌, Bool, false, cond, List, [], ◌∷◌, ◌++◌, Option, Some, None, length, codes, decimal}
use Rattle.std.specs.List.{AllByRecursion}
use Rattle.std.specs.Io.KnownBytes.{Consumes}
use Rattle.redodb_model.specs.Names.{Text, texts}
use Rattle.redodb_model.specs.State.{State, empty}
use Rattle.redodb_model.specs.History.{Line, Legal, left_by}
use Rattle.redodb_history.specs.Histories.{ended}
use Rattle.redodb_live.specs.Lines.{lines_text_of}
use Rattle.redodb_log.specs.Logs.{Past, past_lines, head_of, HasPast, IsPast}
use Rattle.redodb_log.specs.Restores.{IsDamagedAfter}
use Rattle.redodb_log.specs.Operations.{Operation, Read, Cut, Sync, Copy, LogFailed, HasNoFailure, StopsAtFailure, held_after, is_copy, written_by, IsPrefix, IsAlways}
use Rattle.redodb_keeping.specs.Rounds.{Round, AreRounds, lines_in, received_in, output_in}
use Rattle.redodb_keeping.specs.Openings.{AreRestored, AreEnded}
use Rattle.redodb_conversation.specs.Logs.{HasNoEnd, logged_of}
use Rattle.redodb_conversation.specs.declared.keeping.Keeping.{Keeping}

-- the past of the log and its lines, and the ends of the sessions that held something after them
pub record Former : Type 0 where
  pub past : Past
  pub lines : List (Line Text)
  pub ends : List Round

-- the history that was found
abbrev pub found_in : Former → List (Line Text)
found_in former = past_lines former.past ++ former.lines

-- the history before the first line that is read
abbrev pub history_of : Former → List (Line Text)
history_of former = found_in former ++ lines_in former.ends

-- each was one line: there is no LF in it
abbrev pub AreLines : List Round → Type 0
AreLines rounds = AllByRecursion (λ round. HasNoEnd round.received) rounds

-- the output before the first answer: which version it is, and how many lines the log had
abbrev pub greeting_of : Text → Former → Text
greeting_of version former =
    ended (codes "redodb-live " ++ version ++ codes " restored " ++ decimal (length former.lines))

-- the output after the answers of these rounds
abbrev pub output_of : Text → Former → List Round → Text
output_of version former rounds = greeting_of version former ++ output_in rounds

-- the log that was found, as far as it has these lines
abbrev pub found_log : Former → Text
found_log former = head_of former.past ++ lines_text_of former.lines

-- the log before the first answer: the ends come to what was found, or a dump took the place of both
abbrev pub IsFirstLog : Former → Text → Type 0
IsFirstLog former first =
    (first ≡ found_log former ++ lines_text_of (lines_in former.ends))
    ⊎ (IsPast (Some (history_of former)) × (first ≡ head_of (Some (history_of former))))

-- the history after these rounds
abbrev pub lines_after : Former → List Round → List (Line Text)
lines_after former rounds = history_of former ++ lines_in rounds

-- the state after these rounds
abbrev pub state_after : Former → List Round → State Text
state_after former rounds = left_by texts empty (lines_after former rounds)

-- a log begins with this after these rounds: with the first log, if there are none, or with a dump of what is known then
abbrev pub IsBase : Former → Text → List Round → Text → Type 0
IsBase former first rounds base =
    ((rounds ≡ []) × (base ≡ first))
    ⊎ (IsPast (Some (lines_after former rounds))
    × (base ≡ head_of (Some (lines_after former rounds))))

-- the log after these rounds, if this one was the first: what it begins with after the first of them, and the lines of
-- those since
pub record IsLogAfter (former : Former) (first : Text) (rounds : List Round) (log : Text)
    : Type 0 where
  pub before : List Round
  pub since : List Round
  pub parts : rounds ≡ before ++ since
  pub base : Text
  pub is_base : IsBase former first before base
  pub log_is : log ≡ base ++ logged_of (state_after former before) (lines_in since)

-- nothing was written to the output; no line of the log was lost, and it holds the bytes that it had, or a beginning of
-- these lines and of the ends after them
pub record IsBegun (bytes : Text) (former : Former) (done : List Operation) : Type 0 where
  pub written : written_by done ≡ []
  pub lines : ((former.past ≡ None) × (former.lines ≡ []))
      ⊎ IsPrefix (found_log former) (held_after done).all
  pub nothing_else : ((held_after done).all ≡ bytes) ⊎ IsPrefix (held_after done).all
      (found_log former ++ lines_text_of (lines_in former.ends))

-- the log before the answer: what was written answers the first of the rounds, and all that these logged is in the log,
-- and on the disk if that is asked; the log has nothing else than what the rounds logged
pub record IsLoggedFirst (sync : Bool) (version first : Text) (former : Former)
    (rounds : List Round) (done : List Operation) : Type 0 where
  pub answered : List Round
  pub others : List Round
  pub parts : rounds ≡ answered ++ others
  pub written : IsPrefix (written_by done) (output_of version former answered)
  pub log : Text
  pub is_log : IsLogAfter former first answered log
  pub logged : IsPrefix log (cond sync (held_after done).synced (held_after done).all)
  pub nothing_else : IsPrefix (held_after done).all
      (log ++ logged_of (state_after former answered) (lines_in others))

-- the log is not copied
abbrev pub HasNoCopy : List Operation → Type 0
HasNoCopy done = AllByRecursion (λ operation. is_copy operation ≡ false) done

-- the log was copied, once, and then cut, and the cut was synced before anything else was done, or the sync failed
pub record IsSalvaged (done : List Operation) : Type 0 where
  pub size : ℕ
  pub synced : Operation
  pub rest : List Operation
  pub are : done ≡ rest ++ synced ∷ Cut size ∷ Copy ∷ []
  pub sync : (synced ≡ Sync) ⊎ (synced ≡ LogFailed)
  pub once : HasNoCopy rest

-- the first operation is the log's read; then a damaged log is salvaged, and no other is copied
pub record BeginsBy (bytes : Text) (former : Former) (done : List Operation) : Type 0 where
  pub later : List Operation
  pub begins : (done ≡ later ++ Read bytes ∷ [])
  pub salvaged : (IsDamagedAfter former.past bytes former.lines × IsSalvaged later)
      ⊎ (¬ (IsDamagedAfter former.past bytes former.lines) × HasNoCopy later)

-- from these operations on, of which the newest comes first: the log's lines were restored, the sessions that they left
-- were ended, and the rounds are those of the lines that were read; then come bytes that were not answered
pub record IsTalk (keeping : Keeping) (version : Text) (former : Former) (rounds : List Round)
    (rest : Text) (input input_after : Option Text) (done : List Operation) : Type 0 where
  pub bytes : Text
  pub begins : BeginsBy bytes former done
  pub stops : StopsAtFailure done
  pub restored : AreRestored keeping.salvage former.past bytes former.lines
  pub ended : AreEnded (found_in former) former.ends
  pub legal : Legal texts (lines_after former rounds)
  pub are_rounds : AreRounds (history_of former) rounds
  pub are_lines : AreLines rounds
  pub received : Consumes input input_after (received_in rounds ++ rest)
  pub first : Text
  pub is_first : IsFirstLog former first
  pub always : IsAlways (λ now. IsBegun bytes former now
      ⊎ IsLoggedFirst keeping.sync version first former rounds now) done

-- each line that was read was answered, and all that it logged is in the log
pub record IsConversation (keeping : Keeping) (version : Text) (former : Former)
    (rounds : List Round) (rest : Text) (input input_after : Option Text) (done : List Operation)
    : Type 0 where
  pub talk : IsTalk keeping version former rounds rest input input_after done
  pub fine : HasNoFailure done
  pub unended : HasNoEnd rest
  pub log : IsLogAfter former talk.first rounds (held_after done).all
  pub output : written_by done ≡ output_of version former rounds

-- the log that was read has this past
pub record HasFound (past : Past) (done : List Operation) : Type 0 where
  pub later : List Operation
  pub bytes : Text
  pub begins : done ≡ later ++ Read bytes ∷ []
  pub has_past : HasPast past bytes
