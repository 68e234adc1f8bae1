-- Reading a question.
use Rattle.std.specs.Prelude.{◌≡◌, Some, None, Result, Ok, Err, IsSome}
use Rattle.std.specs.Borrow.{Bor}
use Rattle.redodb_model.specs.Names.{Text}
use Rattle.redodb_text.specs.declared.fault.LineFault.{LineFault}
use Rattle.redodb_text.specs.declared.inquiries.Inquiry.{Inquiry}
use Rattle.redodb_text.specs.Questions.{words_of}
use Rattle.redodb_text.specs.Inquiries.{inquiry_text_of, inquiry_in, inquiry_fault}

-- the line is this question about this name, and has no fault; or it is a question, and has this
-- fault
abbrev pub ReadsInquiry : Text → Result (Inquiry × Bor Text) LineFault → Type 0
ReadsInquiry line (Ok asked) =
    (line ≡ inquiry_text_of asked.0 asked.1.now) × (inquiry_fault line ≡ None)
ReadsInquiry line (Err fault) =
    IsSome (inquiry_in (words_of line)) × (inquiry_fault line ≡ Some fault)
