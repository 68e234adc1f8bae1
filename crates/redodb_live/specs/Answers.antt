-- The answers to questions about a name, and to that about all names.
use Rattle.std.specs.Prelude.{◌≡◌, ℕ, ◌+◌, Bool, true, false, List, [], ◌∷◌, ◌++◌, Option, Some, None, length, codes, decimal}
use Rattle.std.specs.List.{flat_map}
use Rattle.redodb_model.specs.Names.{Text, texts}
use Rattle.redodb_model.specs.State.{Cell, State, TargetState, Idle, Building, Built, Failed, target_state}
use Rattle.redodb_model.specs.Deps as model
use Rattle.redodb_model.specs.Deps.{AreDeps}
use Rattle.redodb_model.specs.Users.{Users, AreUsers}
use Rattle.redodb_model.specs.Why as whys
use Rattle.redodb_model.specs.Why.{Reason, TellsWhy, end_of}
use Rattle.redodb_text.specs.Texts.{digest_word, spaced, stamp_word}
use Rattle.redodb_text.specs.Inquiries.{inquiry_word}
use Rattle.redodb_history.specs.Histories.{ended}
use Rattle.redodb_text.specs.declared.inquiries.Inquiry.{Inquiry}
use Rattle.redodb_text.specs.declared.inquiries.Inquiry.TheVariants as inquiries

-- the word of a reason
abbrev pub reason_word : {N : Type 0} → Reason N → Text
reason_word whys.Building = codes "building"
reason_word whys.Failed = codes "failed"
reason_word whys.Edited = codes "edited"
reason_word whys.Always = codes "always"
reason_word (whys.Appeared n) = codes "appeared"
reason_word (whys.Changed n) = codes "changed"

-- the name in the answer with the reason of t: the one that appeared or changed, else t
abbrev pub reason_name : {N : Type 0} → N → Reason N → N
reason_name t (whys.Appeared n) = n
reason_name t (whys.Changed n) = n
reason_name t reason = t

-- the reason with its name, and the chain
abbrev pub why_words : Text → Option (whys.Why Text) → List Text
why_words t None = codes "clean" ∷ []
why_words t (Some why) =
    reason_word why.reason ∷ reason_name (end_of t why.names) why.reason ∷ t ∷ why.names

-- how many names there are, and the names
abbrev pub counted : List Text → List Text
counted names = decimal (length names) ∷ names

abbrev pub flag_word : Bool → Text
flag_word true = codes "1"
flag_word false = codes "0"

abbrev pub deps_words : model.Deps Text → List Text
deps_words deps =
    codes "change" ∷ counted deps.change
    ++ codes "created" ∷ counted deps.created
    ++ codes "always" ∷ flag_word deps.always ∷ []

abbrev pub users_words : Users Text → List Text
users_words users =
    codes "change" ∷ counted users.change ++ codes "created" ∷ counted users.created

-- the word of a state, without a session
abbrev pub stage_word : TargetState → Text
stage_word Idle = codes "idle"
stage_word (Building session) = codes "building"
stage_word Built = codes "built"
stage_word Failed = codes "failed"

-- sessions are printed plus one
abbrev pub stage_words : TargetState → List Text
stage_words (Building session) = codes "building" ∷ decimal (session + 1) ∷ []
stage_words state = stage_word state ∷ []

-- "-" means no holder
abbrev pub holder_word : Option ℕ → Text
holder_word None = codes "-"
holder_word (Some session) = decimal (session + 1)

abbrev pub state_words : TargetState → Option ℕ → Option Text → List Text
state_words state holder file =
    stage_words state ++ codes "lock" ∷ holder_word holder ∷ codes "file" ∷ stamp_word file ∷ []

-- the answer about a name: why it is out of date, if it is; its rows; the targets with rows on it; its state, the
-- holder of its lock, and the stamp of its file
pub data Answer : Type 0 where
  Cause : Option (whys.Why Text) → Answer
  Rows : model.Deps Text → Answer
  Uses : Users Text → Answer
  Standing : TargetState → Option ℕ → Option Text → Answer

-- the question that the answer answers
abbrev pub inquiry_of : Answer → Inquiry
inquiry_of (Cause found) = inquiries.Why
inquiry_of (Rows deps) = inquiries.Deps
inquiry_of (Uses users) = inquiries.Users
inquiry_of (Standing state holder file) = inquiries.State

abbrev pub answer_words : Text → Answer → List Text
answer_words name (Cause found) = why_words name found
answer_words name (Rows deps) = deps_words deps
answer_words name (Uses users) = users_words users
answer_words name (Standing state holder file) = state_words state holder file

-- the answer is true of the name
abbrev pub IsAnswer : State Text → Text → Answer → Type 0
IsAnswer st name (Cause found) = TellsWhy st.records name found
IsAnswer st name (Rows deps) = AreDeps texts st.records name deps
IsAnswer st name (Uses users) = AreUsers texts st.records name users
IsAnswer st name (Standing state holder file) = (state ≡ target_state st.records name)
    × (holder ≡ st.locks.holder name) × (file ≡ (st.records.cell name).file)

-- the line of the answer about the name for a session
abbrev pub answer_line : ℕ → Text → Answer → Text
answer_line session name answer = ended (spaced (decimal (session + 1))
    (inquiry_word (inquiry_of answer) ∷ name ∷ codes "=>" ∷ answer_words name answer))

-- the line is a true answer to the session's question
pub record AnswersInquiry (st : State Text) (session : ℕ) (inquiry : Inquiry)
    (name line : Text) : Type 0
  where
    pub answer : Answer
    pub asked : inquiry_of answer ≡ inquiry
    pub is : IsAnswer st name answer
    pub line_is : line ≡ answer_line session name answer

abbrev pub cell_words : Text → Cell → List Text
cell_words name cell =
    name ∷ stamp_word cell.file ∷ stage_word cell.state ∷ decimal cell.builds
    ∷ stamp_word cell.done ∷ digest_word cell.digest ∷ []

-- a name, and what is known of it but rows and locks
abbrev pub known_words : State Text → Text → List Text
known_words st name = cell_words name (st.records.cell name)

-- the line for a session of how many names there are, and what is known of each
abbrev pub names_line : ℕ → List Text → State Text → Text
names_line session names st = ended (spaced (decimal (session + 1))
    (codes "names" ∷ codes "=>" ∷ decimal (length names) ∷ flat_map (known_words st) names))
