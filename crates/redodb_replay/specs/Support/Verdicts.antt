-- Verdicts within the numbers of names, and on the lines that were read so far.
use Rattle.std.specs.Prelude.{◌≡◌, ℕ, List, length, ⊤}
use Rattle.redodb_model.specs.Names.{Text, texts}
use Rattle.redodb_model.specs.State.{empty}
use Rattle.redodb_model.specs.History.{Line, left_by}
use Rattle.redodb_model.specs.Renaming.{IsReplyBelow}
use Rattle.redodb_commands.specs.Meaning.{reply_of}
use Rattle.redodb_live.specs.Support.LiveState.{LiveState, state_in}
use Rattle.redodb_replay.specs.Verdicts.{IsSame, IsVerdict, verdict_at}
use Rattle.redodb_history.specs.declared.verdict.Verdict as declared
use Rattle.redodb_history.specs.declared.verdict.Verdict.TheVariants as coded

-- the verdict's numbers are below n
abbrev pub IsVerdictBelow : ℕ → declared.Verdict → Type 0
IsVerdictBelow n (coded.Same count) = ⊤
IsVerdictBelow n (coded.Differs line reply) = IsReplyBelow n (reply_of reply)

-- the right verdict on the lines, over the names that are known; if they are legal, the state is
-- what they leave
pub record IsJudged (live : LiveState) (lines : List (Line Text)) (verdict : declared.Verdict)
    : Type 0 where
  pub right : IsVerdict lines (verdict_at live.names verdict)
  pub below : IsVerdictBelow (length live.names) verdict
  pub left : IsSame verdict → state_in live ≡ left_by texts empty lines
