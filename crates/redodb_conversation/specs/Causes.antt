-- Why a conversation ends before its input does, and what was done by then.
use Rattle.std.specs.Prelude.{◌≡◌, ◌⊎◌, ℕ, true, false, List, [], ◌∷◌, Option, IsTrue}
use Rattle.std.specs.List.{AllByRecursion}
use Rattle.redodb_model.specs.Names.{Text}
use Rattle.redodb_log.specs.Operations.{Operation, Read, StopsAtFailure, changes_nothing}
use Rattle.redodb_log.specs.Logs.{Past, HasPast}
use Rattle.redodb_log.specs.Restores.{DiffersAt, HasTooMany}
use Rattle.redodb_keeping.specs.Rounds.{Round}
use Rattle.redodb_keeping.specs.Failures.{log_failed, output_failed}
use Rattle.redodb_conversation.specs.Talks.{Former, HasFound, IsTalk, IsConversation}
use Rattle.redodb_conversation.specs.declared.keeping.Keeping.{Keeping}
use Rattle.redodb_keeping.specs.declared.fault.ServeFault.{ServeFault}
use Rattle.redodb_keeping.specs.declared.fault.ServeFault.TheVariants as faults

-- neither the log nor the output was changed
abbrev pub IsUnchanged : List Operation → Type 0
IsUnchanged done = AllByRecursion (λ operation. changes_nothing operation ≡ true) done

module _ (keeping : Keeping) (version : Text) (input input_after : Option Text)
    (done : List Operation)
  where
    -- nothing was received, and neither the log nor the output was changed
    abbrev pub HasNotBegun : Type 0
    HasNotBegun = (input_after ≡ input) × IsUnchanged done × StopsAtFailure done

    -- the log was read, and then nothing was done: this is so of its bytes and of each past that they have
    abbrev pub HasOnlyRead : (Past → Text → Type 0) → Type 0
    HasOnlyRead is_so =
        (input_after ≡ input) × ((bytes : Text) × (done ≡ Read bytes ∷ [])
        × ((past : Past) → HasPast past bytes → is_so past bytes))

    -- whatever past was found, a conversation was led so far, and of what was read the last lines may not be answered
    abbrev pub TalkedSoFar : Type 0
    TalkedSoFar =
        (past : Past) → HasFound past done
        → (former : Former) × (rounds : List Round) × (rest : Text) × (former.past ≡ past)
        × IsTalk keeping version former rounds rest input input_after done

    -- whatever past was found, each line that was read was answered
    abbrev pub AnsweredAll : Type 0
    AnsweredAll =
        (past : Past) → HasFound past done
        → (former : Former) × (rounds : List Round) × (rest : Text) × (former.past ≡ past)
        × IsConversation keeping version former rounds rest input input_after done

    -- the cause of a fault
    abbrev pub IsServeCause : ServeFault → Type 0
    IsServeCause faults.Memory = HasNotBegun
    IsServeCause faults.Worn = HasOnlyRead (λ past bytes. HasTooMany past bytes)
    IsServeCause (faults.State line) = HasOnlyRead (λ past bytes. ⊥)
    IsServeCause (faults.Differs line) =
        HasOnlyRead (λ past bytes. (keeping.salvage ≡ false)
        × ((count : ℕ) × (size : ℕ) × DiffersAt past bytes line count size))
    IsServeCause (faults.Log fault) =
        IsTrue (log_failed done) × (HasNotBegun ⊎ TalkedSoFar)
    IsServeCause faults.Read = AnsweredAll
    IsServeCause faults.TooLong = AnsweredAll
    IsServeCause faults.Write = IsTrue (output_failed done) × TalkedSoFar
