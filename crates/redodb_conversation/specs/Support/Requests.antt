-- What the text of a session asks.
use Rattle.std.specs.Prelude.{◌≡◌, ◌≢◌, Some, None, IsSome}
use Rattle.redodb_model.specs.Names.{Text}
use Rattle.redodb_text.specs.Inquiries.{inquiry_text_of, inquiry_in, inquiry_fault}
use Rattle.redodb_text.specs.Questions.{words_of}
use Rattle.redodb_text.specs.declared.fault.LineFault.{LineFault}
use Rattle.redodb_keeping.specs.Rounds.{end_word, names_word}
use Rattle.redodb_conversation.specs.declared.request.Request.{Request}
use Rattle.redodb_conversation.specs.declared.request.Request.TheVariants as requests

-- it is this, and a question has no fault; all else has to be a command
abbrev pub Requests : Text → Request → Type 0
Requests text requests.End = text ≡ end_word
Requests text requests.Names = text ≡ names_word
Requests text (requests.Inquiry inquiry name) =
    (text ≡ inquiry_text_of inquiry name.now) × (inquiry_fault text ≡ None)
Requests text requests.Command =
    (text ≢ end_word) × (text ≢ names_word) × (inquiry_in (words_of text) ≡ None)

-- it is a question, and has this fault
abbrev pub RequestsBadly : Text → LineFault → Type 0
RequestsBadly text fault =
    (text ≢ end_word) × (text ≢ names_word) × IsSome (inquiry_in (words_of text))
    × (inquiry_fault text ≡ Some fault)
