-- What is read from known bytes, and why it is refused.
use Rattle.std.proofs.Common.{◌≡◌, ◌↔◌, ◌≤◌, List, Option, None, Some, Result, Ok, Err, length, refl, sym, subst}
use Rattle.std.specs.Prelude.{IfSome, IfOk, IfErr}
use Rattle.redodb_model.specs.Names.{Text, texts}
use Rattle.redodb_model.specs.History.{Line, Legal}
use Rattle.redodb_history.specs.HistoryTexts.{IsHistory}
use Rattle.redodb_history.specs.HistoryFaults.{IsHistoryFault}
use Rattle.redodb_history.specs.declared.fault.HistoryFault.{HistoryFault}
use Rattle.redodb_history.specs.declared.fault.HistoryFault.TheVariants.{Memory}
use Rattle.redodb_history.proofs.NoFault.{no_fault}
use Rattle.redodb_history.proofs.OneHistory.{one_history}
use Rattle.redodb_io.specs.declared.whole.WriteFault.{WriteFault}
use Rattle.redodb_io.specs.declared.whole.WriteFault.TheVariants.{Write}
use Rattle.redodb_live.specs.Support.LiveState.{LiveState}
use Rattle.redodb_replay.specs.Replays.{IsReadAs, HasFault}
use Rattle.redodb_replay.specs.Verdicts.{IsSame, IsVerdict, verdict_at}
use Rattle.redodb_history.specs.declared.verdict.Verdict.{Verdict}
use Rattle.redodb_replay.proofs.OneVerdict.{same_if_legal}

-- the bytes are a history of these names, and the verdict is the right one on its lines
abbrev pub HasRight : Text → List Text → Verdict → Type 0
HasRight input names verdict =
    (lines : List (Line Text)) × IsHistory input names lines
    × IsVerdict lines (verdict_at names verdict)

-- a history's verdict is the same exactly if its lines are legal
pub judged_same : (input : Text) (result : Result (Verdict × LiveState) HistoryFault)
    (names : List Text) (lines : List (Line Text))
    → IfOk result (λ judged. HasRight input judged.1.names judged.0)
    → IsHistory input names lines
    → IfOk result (λ judged. IsSame judged.0 ↔ Legal texts lines)
judged_same input (Err e) names lines right is = tt
judged_same input (Ok judged) names lines (all, read, right) is =
    let same : all ≡ lines = (one_history input judged.1.names names all lines read is).1 in
    subst (λ (found : List (Line Text)). IsSame judged.0 ↔ Legal texts found) same
    (same_if_legal judged.1.names all judged.0 right)

-- a history's fault is `Memory`
pub memory_alone : {H : Type 0} (input : Text) (result : Result H HistoryFault)
    (names : List Text) (lines : List (Line Text)) → IfErr result (IsHistoryFault input)
    → IsHistory input names lines → IfErr result (λ fault. fault ≡ Memory)
memory_alone input (Ok judged) names lines fault is = tt
memory_alone input (Err e) names lines fault is = no_fault input names lines e is fault

-- known bytes are what was read
pub whole_known : (known : Option Text) (whole bytes : Text) → known ≡ Some bytes
    → IfSome known (λ all. whole ≡ all) → bytes ≡ whole
whole_known known whole bytes is same =
    sym (subst (λ (k : Option Text). IfSome k (λ all. whole ≡ all)) is same)

-- the fault of what was read is the input's
pub has_fault : (known : Option Text) (whole : Text) (fault : HistoryFault)
    → IfSome known (λ bytes. whole ≡ bytes) → length whole ≤ 1073741824
    → IsHistoryFault whole fault → HasFault known fault
has_fault None whole fault same few is = tt
has_fault (Some bytes) whole fault same few is =
    subst (λ input. (length input ≤ 1073741824) × IsHistoryFault input fault) same (few, is)

-- what was read as a history is the input
pub read_known : (known : Option Text) (whole : Text) (names : List Text) (lines : List (Line Text))
    → IfSome known (λ bytes. whole ≡ bytes) → length whole ≤ 1073741824
    → IsHistory whole names lines → IfSome known (λ input. IsReadAs input names lines)
read_known None whole names lines same few is = tt
read_known (Some bytes) whole names lines same few is =
    subst (λ (input : Text). IsReadAs input names lines) same (few, is)

-- a writer has one fault
pub one_fault : (fault : WriteFault) → fault ≡ Write
one_fault Write = refl
