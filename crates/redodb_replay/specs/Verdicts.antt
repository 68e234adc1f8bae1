-- Whether a history's replies are those of the database.
use Rattle.std.specs.Prelude.{◌≡◌, ◌≢◌, ℕ, ◌+◌, List, ◌∷◌, ◌++◌, length, codes, decimal, ⊤}
use Rattle.redodb_model.specs.Names.{Text, texts}
use Rattle.redodb_model.specs.State.{empty}
use Rattle.redodb_model.specs.Reply.{Reply}
use Rattle.redodb_model.specs.Step.{Answers}
use Rattle.redodb_model.specs.History.{Line, left_by, Legal}
use Rattle.redodb_commands.specs.Meaning.{reply_at}
use Rattle.redodb_text.specs.Texts.{reply_text_of}
use Rattle.redodb_history.specs.Histories.{ended}
use Rattle.redodb_history.specs.declared.verdict.Verdict as declared
use Rattle.redodb_history.specs.declared.verdict.Verdict.TheVariants as coded

-- they are, in this many lines; or the first wrong reply is on this line, counted from 1, and this
-- is the right one
pub data Verdict : Type 0 where
  Same : ℕ → Verdict
  Differs : ℕ → Reply Text → Verdict

-- the line of this number is the first whose reply is wrong, and this is its right reply
pub record IsFirstWrong (lines : List (Line Text)) (number : ℕ) (reply : Reply Text) : Type 0 where
  pub before : List (Line Text)
  pub wrong : Line Text
  pub rest : List (Line Text)
  pub split : lines ≡ before ++ wrong ∷ rest
  pub counted : number ≡ length before + 1
  pub legal : Legal texts before
  pub answers : Answers texts (left_by texts empty before) wrong.session wrong.command reply
  pub differs : reply ≢ wrong.reply

-- the right verdict on the lines
abbrev pub IsVerdict : List (Line Text) → Verdict → Type 0
IsVerdict lines (Same count) = (count ≡ length lines) × Legal texts lines
IsVerdict lines (Differs number reply) = IsFirstWrong lines number reply

abbrev pub verdict_text_of : Verdict → Text
verdict_text_of (Same count) = ended (codes "same " ++ decimal count)
verdict_text_of (Differs number reply) =
    ended (codes "differs " ++ decimal number ++ codes " " ++ reply_text_of reply)

-- a verdict of the code, under the names that its numbers stand for
abbrev pub verdict_at : List Text → declared.Verdict → Verdict
verdict_at names (coded.Same count) = Same count
verdict_at names (coded.Differs line reply) = Differs line (reply_at names reply)

abbrev pub IsSame : declared.Verdict → Type 0
IsSame (coded.Same count) = ⊤
IsSame (coded.Differs line reply) = ⊥
