-- The fault of a line that may be a question, by its beginning and its length.
use Rattle.std.proofs.Common.{◌≡◌, ◌<◌, ◌≤◌, true, cond, List, length, Option, Some, None, refl, sym, ap, ◌∙◌, inl, inr, arith, ℕ}
use Rattle.std.specs.Prelude.{is_some}
use Rattle.std.proofs.lemmas.Bool.{cases_lt, lt-ltb}
use Rattle.redodb_model.specs.Names.{Text}
use Rattle.redodb_text.specs.declared.fault.LineFault.TheVariants.{LineTooLong}
use Rattle.redodb_text.specs.declared.inquiries.Inquiry.{Inquiry}
use Rattle.redodb_text.specs.Questions.{first_yes, is_too_long, text_questions, words_of, line_fault}
use Rattle.redodb_text.specs.Inquiries.{inquiry_in, inquiry_fault, asked_fault}

-- of a command, it is the command's
pub asked_of_command : (most : ℕ) (names : List Text) (text : Text)
    → inquiry_in (words_of text) ≡ None
    → asked_fault most names text ≡ line_fault most names text
asked_of_command most names text none =
    ap (λ o. cond (is_some o) (inquiry_fault text) (line_fault most names text)) none

command_too_long : (most : ℕ) (names : List Text) (text : Text) → is_too_long text ≡ true
    → line_fault most names text ≡ Some LineTooLong
unfolding line_fault
command_too_long most names text e =
    ap (λ b. cond b (Some LineTooLong) (first_yes (text_questions most names text))) e

inquiry_too_long : (text : Text) → is_too_long text ≡ true → inquiry_fault text ≡ Some LineTooLong
unfolding inquiry_fault
inquiry_too_long text e = rw e refl

both_too_long : (most : ℕ) (names : List Text) (text : Text) (o : Option Inquiry)
    → is_too_long text ≡ true
    → cond (is_some o) (inquiry_fault text) (line_fault most names text) ≡ Some LineTooLong
both_too_long most names text None e = command_too_long _ names text e
both_too_long most names text (Some inquiry) e = inquiry_too_long text e

-- a text that is too long has that fault, whatever its words
pub asked_when_long : (most : ℕ) (names : List Text) (text : Text) → 8192 < length text
    → asked_fault most names text ≡ Some LineTooLong
asked_when_long most names text long =
    both_too_long _ names text (inquiry_in (words_of text)) (lt-ltb 8192 (length text) long)

-- a question without a fault is short
pub fits_is_short : (text : Text) → inquiry_fault text ≡ None → length text ≤ 8192
fits_is_short text fits = elim (cases_lt 8192 (length text)) [
  | inl long ↦
      absurd (let e = sym fits ∙ inquiry_too_long text (lt-ltb 8192 (length text) long) in cc)
  | inr short ↦ omega arith
]
