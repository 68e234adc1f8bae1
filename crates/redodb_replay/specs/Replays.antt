-- What a replay reads and writes, and why it is refused.
use Rattle.std.specs.Prelude.{◌≡◌, ◌<◌, ◌≤◌, Bool, List, ◌++◌, length, Option, Some, IfSome, IsTrue, ⊤}
use Rattle.std.specs.Io.KnownBytes.{Appends}
use Rattle.redodb_model.specs.Names.{Text}
use Rattle.redodb_model.specs.History.{Line}
use Rattle.redodb_replay.specs.Verdicts.{IsVerdict, verdict_at, verdict_text_of}
use Rattle.redodb_history.specs.HistoryTexts.{IsHistory}
use Rattle.redodb_history.specs.HistoryFaults.{IsHistoryFault}
use Rattle.redodb_history.specs.declared.verdict.Verdict as declared
use Rattle.redodb_history.specs.declared.fault.HistoryFault.{HistoryFault}
use Rattle.redodb_history.specs.declared.fault.HistoryFault.TheVariants as histories
use Rattle.redodb_text.specs.declared.fault.Fault.{Fault}
use Rattle.redodb_text.specs.declared.fault.Fault.TheVariants as faults

-- the input is a history of these lines and names, and not too long
abbrev pub IsReadAs : Text → List Text → List (Line Text) → Type 0
IsReadAs input names lines = (length input ≤ 1073741824) × IsHistory input names lines

-- the input's bytes are known, and they are a history of these lines
abbrev pub IsKnownAs : Option Text → List (Line Text) → Type 0
IsKnownAs known lines =
    (input : Text) × (names : List Text) × (known ≡ Some input) × IsReadAs input names lines

-- the input, if it is known, is a history; the verdict is the right one on its lines, and this is
-- its text
abbrev pub HasVerdict : Option Text → declared.Verdict → Text → Type 0
HasVerdict known verdict text =
    (names : List Text) × (lines : List (Line Text))
    × IfSome known (λ input. IsReadAs input names lines)
    × IsVerdict lines (verdict_at names verdict)
    × (text ≡ verdict_text_of (verdict_at names verdict))

-- the same, and its text was written
abbrev pub WritesVerdict : Option Text → Option Text → Option Text → declared.Verdict → Type 0
WritesVerdict known before after verdict =
    (text : Text) × HasVerdict known verdict text × Appends before after text

-- the same, and a prefix of the verdict's text was written
abbrev pub WritesReplayPart : Option Text → Option Text → Option Text → Type 0
WritesReplayPart known before after =
    (verdict : declared.Verdict) × (sent : Text) × (rest : Text)
    × HasVerdict known verdict (sent ++ rest) × Appends before after sent

-- the input, if it is known, is not too long, and has this fault of a history
abbrev pub HasFault : Option Text → HistoryFault → Type 0
HasFault known fault =
    IfSome known (λ input. (length input ≤ 1073741824) × IsHistoryFault input fault)

-- the cause of a replay's fault: `known` are the input's bytes, if they are known, `failed` says
-- whether a read failed, and `out_failed` whether a write failed; the input is file 0
abbrev pub IsReplayCause : Option Text → Bool → Bool → Fault → Type 0
IsReplayCause known failed out_failed faults.Memory = ⊤
IsReplayCause known failed out_failed (faults.Read file) = (file ≡ 0) × IsTrue failed
IsReplayCause known failed out_failed (faults.TooLong file) =
    (file ≡ 0) × IfSome known (λ input. 1073741824 < length input)
IsReplayCause known failed out_failed (faults.Line file line fault) =
    (file ≡ 0) × HasFault known (histories.BadLine line fault)
IsReplayCause known failed out_failed faults.BadHeader = HasFault known histories.BadHeader
IsReplayCause known failed out_failed faults.Cut = HasFault known histories.Cut
IsReplayCause known failed out_failed (faults.BadSession line) =
    HasFault known (histories.BadSession line)
IsReplayCause known failed out_failed (faults.BadReply line) =
    HasFault known (histories.BadReply line)
IsReplayCause known failed out_failed faults.Write = IsTrue out_failed
IsReplayCause known failed out_failed fault = ⊥
