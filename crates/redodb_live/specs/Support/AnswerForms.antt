-- What is required of an answer so that its line determines it.
use Rattle.std.specs.Prelude.{◌≡◌, ℕ, ◌<◌, ◌≤◌, true, List, length, IfSome, ⊤}
use Rattle.redodb_names.specs.Names.{is_name, AreAllNames}
use Rattle.redodb_model.specs.Names.{Text}
use Rattle.redodb_model.specs.State.{State, TargetState, Building}
use Rattle.redodb_model.specs.Why as whys
use Rattle.redodb_model.specs.Why.{Reason}
use Rattle.redodb_commands.specs.Stamp.{is_stamp}
use Rattle.redodb_text.specs.declared.inquiries.Inquiry.{Inquiry}
use Rattle.redodb_live.specs.Answers.{Answer, AnswersInquiry, Cause, Rows, Uses, Standing}

abbrev pub HasReasonForm : Reason Text → Type 0
HasReasonForm (whys.Appeared n) = is_name n ≡ true
HasReasonForm (whys.Changed n) = is_name n ≡ true
HasReasonForm reason = ⊤

abbrev pub HasWhyForm : whys.Why Text → Type 0
HasWhyForm why = AreAllNames why.names × HasReasonForm why.reason

-- names, and not too many to be counted
abbrev pub AreCountedNames : List Text → Type 0
AreCountedNames names = AreAllNames names × (length names ≤ 4294967295)

abbrev pub HasStateForm : TargetState → Type 0
HasStateForm (Building session) = session < 65536
HasStateForm state = ⊤

abbrev pub HasAnswerForm : Answer → Type 0
HasAnswerForm (Cause found) = IfSome found HasWhyForm
HasAnswerForm (Rows deps) = AreCountedNames deps.change × AreCountedNames deps.created
HasAnswerForm (Uses users) = AreCountedNames users.change × AreCountedNames users.created
HasAnswerForm (Standing state holder file) = HasStateForm state
    × IfSome holder (λ session. session < 65536) × IfSome file (λ stamp. is_stamp stamp ≡ true)

-- the line is a true answer to the session's question, and determines the answer
pub record AnswersInForm (st : State Text) (session : ℕ) (inquiry : Inquiry) (name line : Text)
    : Type 0
  where
    pub is : AnswersInquiry st session inquiry name line
    pub form : HasAnswerForm is.answer
