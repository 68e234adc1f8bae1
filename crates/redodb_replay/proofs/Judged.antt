-- The verdict on the lines that were read so far.
use Rattle.std.proofs.Common.{◌≡◌, ◌≢◌, ℕ, ◌+◌, List, [], ◌∷◌, ◌++◌, refl, ap, ◌∙◌, sym, subst, length, arith, append_assoc, length-append}
use Rattle.std.specs.Prelude.{bytes_eq}
use Rattle.std.specs.List.{IsDistinct}
use Rattle.redodb_names.specs.Support.Names.{Extends}
use Rattle.redodb_model.specs.Names.{Text, texts, text_at}
use Rattle.redodb_model.specs.State.{State, empty}
use Rattle.redodb_model.specs.Step.{Answers, after}
use Rattle.redodb_model.specs.History.{left_by, Legal}
use Rattle.redodb_model.specs.History as histories
use Rattle.redodb_model.specs.Renaming.{IsReplyBelow, IsLineBelow, named_reply}
use Rattle.redodb_model.proofs.Naming.{numbering_is_renaming}
use Rattle.redodb_model.proofs.OneMore.{left_by-append, legal_more}
use Rattle.redodb_model.proofs.RepliesByName.{same_reply}
use Rattle.redodb_commands.specs.Meaning.{reply_of, line_of, line_at, reply_at}
use Rattle.redodb_commands.specs.Support.Meaning.{command_at}
use Rattle.redodb_commands.specs.declared.reply.Line.{Line}
use Rattle.redodb_commands.specs.declared.reply.Reply.{Reply}
use Rattle.redodb_history.specs.HistoryTexts.{IsHistoryLine}
use Rattle.redodb_history.specs.Support.HistoryTexts.{AddsLineNames}
use Rattle.redodb_history.proofs.HistorySteps.{IsReadSoFar, one_read}
use Rattle.redodb_history.proofs.MoreNames.{IsReplyBelow-Extends, reply_at-Extends}
use Rattle.redodb_live.specs.Support.LiveState.{LiveState, state_in}
use Rattle.redodb_replay.specs.Verdicts.{IsFirstWrong}
use Rattle.redodb_replay.specs.Support.Verdicts.{IsJudged}
use Rattle.redodb_history.specs.declared.verdict.Verdict.{Verdict}
use Rattle.redodb_history.specs.declared.verdict.Verdict.TheVariants.{Same, Differs}

-- after legal lines the database gives this reply to the command of this line
module _ (live next : LiveState) (names : next.names ≡ live.names)
    (lines : List (histories.Line Text)) (legal : Legal texts lines)
    (left : state_in live ≡ left_by texts empty lines) (number : ℕ)
    (counted : number ≡ length lines + 1) (line : Line) (reply : Reply)
    (answers : Answers texts (state_in live) line.session (command_at live.names line.command)
    (reply_at live.names reply))
  where
    there : Answers texts (left_by texts empty lines) line.session
        (command_at live.names line.command) (reply_at live.names reply)
    there =
        subst (λ (st : State Text). Answers texts st line.session
        (command_at live.names line.command) (reply_at live.names reply)) left answers

    -- the line has it
    pub judged_right : reply_of reply ≡ reply_of line.reply
        → state_in next
        ≡ after texts (state_in live) line.session (command_at live.names line.command)
        → IsJudged next (lines ++ line_at live.names line ∷ []) (Same number)
    judged_right same steps =
        let said = line_at live.names line in
        let replies : reply_at live.names reply ≡ said.reply =
        ap (named_reply (text_at live.names)) same in
        record {
          right = (
            omega (arith, length-append lines (said ∷ [])),
            legal_more texts empty lines said legal
                (subst (Answers texts (left_by texts empty lines) said.session said.command) replies
                there),
          );
          below = tt;
          left = λ is. steps
              ∙ ap (λ (st : State Text). after texts st said.session said.command) left
              ∙ sym (left_by-append texts empty lines (said ∷ []));
        }

    -- the line has another one
    pub judged_wrong : IsDistinct bytes_eq live.names
        → IsReplyBelow (length live.names) (reply_of reply)
        → IsLineBelow (length live.names) (line_of line)
        → reply_of reply ≢ reply_of line.reply
        → IsJudged next (lines ++ line_at live.names line ∷ []) (Differs number reply)
    judged_wrong distinct below line_below differs =
        let said = line_at live.names line in
        let same = same_reply (numbering_is_renaming live.names distinct) (reply_of reply)
        (reply_of line.reply) below line_below.1 in
        let wrong : IsFirstWrong (lines ++ said ∷ []) number (reply_at live.names reply) =
        record {
          before = lines;
          wrong = said;
          rest = [];
          split = refl;
          counted = counted;
          legal = legal;
          answers = there;
          differs = λ e. differs (same.1 e);
        } in
        record {
          right = subst (λ (ns : List Text). IsFirstWrong (lines ++ said ∷ []) number
              (reply_at ns reply)) (sym names) wrong;
          below = subst (λ (ns : List Text). IsReplyBelow (length ns) (reply_of reply)) (sym names)
              below;
          left = λ is. absurd is;
        }

-- the first wrong line stays that with one line more
pub judged_on : (live : LiveState) (lines : List (histories.Line Text))
    (line : histories.Line Text) (verdict : Verdict)
    → ((count : ℕ) → verdict ≢ Same count) → IsJudged live lines verdict
    → IsJudged live (lines ++ line ∷ []) verdict
judged_on live lines line (Same count) other judged = absurd (other count refl)
judged_on live lines line (Differs number reply) other judged =
    let first = judged.right in
    record {
      right = record {
        before = first.before;
        wrong = first.wrong;
        rest = first.rest ++ line ∷ [];
        split = ap (λ (all : List (histories.Line Text)). all ++ line ∷ []) first.split
            ∙ append_assoc first.before (first.wrong ∷ first.rest) (line ∷ []);
        counted = first.counted;
        legal = first.legal;
        answers = first.answers;
        differs = first.differs;
      };
      below = judged.below;
      left = λ is. absurd is;
    }

-- the verdict is right too if more names are known
pub judged-Extends : (old new : LiveState) (lines : List (histories.Line Text)) (verdict : Verdict)
    → Extends old.names new.names → state_in new ≡ state_in old → IsJudged old lines verdict
    → IsJudged new lines verdict
judged-Extends old new lines (Same count) grows same judged =
    record { right = judged.right; below = tt; left = λ is. same ∙ judged.left is }
judged-Extends old new lines (Differs number reply) grows same judged = record {
  right = subst (IsFirstWrong lines number)
      (sym (reply_at-Extends old.names new.names grows reply judged.below)) judged.right;
  below = IsReplyBelow-Extends old.names new.names grows (reply_of reply) judged.below;
  left = λ is. absurd is;
}

-- the lines before this number are read and judged, and this is what is left of the input
pub record IsReplayedSoFar (input : Text) (count number : ℕ) (live : LiveState) (left : Text)
    (verdict : Verdict) : Type 0 where
  pub lines : List (histories.Line Text)
  pub read : IsReadSoFar input count lines live.names left
  pub judged : IsJudged live lines verdict
  pub counted : number ≡ length lines + 1

-- one line more
pub one_replayed : (input : Text) (count number : ℕ) (live mid next : LiveState)
    (left text rest : Text) (line : Line) (verdict later : Verdict)
    → IsReplayedSoFar input count number live left verdict → left ≡ text ++ 10 ∷ rest
    → IsHistoryLine text (line_at mid.names line)
    → AddsLineNames live.names (line_at mid.names line) mid.names
    → Extends live.names mid.names → state_in mid ≡ state_in live → next.names ≡ mid.names
    → ((lines : List (histories.Line Text)) → IsJudged mid lines verdict
    → number ≡ length lines + 1
    → IsJudged next (lines ++ line_at mid.names line ∷ []) later)
    → IsReplayedSoFar input count (number + 1) next rest later
one_replayed input count number live mid next left text rest line verdict later so_far cut is adds
    grows same names judges =
    let said = line_at mid.names line in
    let lines = so_far.lines in
    record {
      lines = lines ++ said ∷ [];
      read = subst (λ (ns : List Text). IsReadSoFar input count (lines ++ said ∷ []) ns rest)
          (sym names)
          (one_read input count lines live.names left text rest said mid.names so_far.read cut is
          adds);
      judged = judges lines
          (judged-Extends live mid lines verdict grows same so_far.judged) so_far.counted;
      counted = omega (arith, so_far.counted, length-append lines (said ∷ []));
    }
