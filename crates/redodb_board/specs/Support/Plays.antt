-- What each step shows its seat.
use Rattle.std.specs.Prelude.{◌≡◌, ◌≢◌, ℕ, ◌<◌, ◌+◌, ◌/◌, ◌%◌, ◌==◌, true, cond, List, [], ◌∷◌, ◌++◌, length, Some}
use Rattle.atomic_table.specs.Table.{Me, Step}
use Rattle.redodb_model.specs.Command.{Command}
use Rattle.redodb_model.specs.Reply.{Reply, Okay}
use Rattle.redodb_model.specs.Reply as replies
use Rattle.redodb_model.specs.Step.{Replies}
use Rattle.redodb_model.specs.Renaming.{IsReplyBelow}
use Rattle.redodb_model.specs.Placed.{Place, Row, Granted, Busy, Released, is_row}
use Rattle.redodb_model.specs.Journals.{Numbered}
use Rattle.redodb_journal.specs.Plans.{IsPlan}
use Rattle.redodb_board.specs.Rows.{rows_of, naming_of}
use Rattle.redodb_board.specs.Core.{Line, word, replay, IsLegal, start, row_words}
use Rattle.redodb_board.specs.Views.{ViewOf, view}
use Rattle.redodb_board.specs.Rule.{Fits, Told, longer}
use Rattle.redodb_board.specs.Plays.{next, own}

abbrev pub Sat : Type 0
Sat = Me (Unit {0}) ViewOf

abbrev pub PlayOf : Type 1
PlayOf = Step (Unit {0}) → Sat → ℕ → Sat → Type 0

-- the session's line of this command
abbrev pub made : ℕ → Numbered ℕ → Reply ℕ → Place ℕ → Line
made s n reply place = record {
  session = s;
  number = n.number;
  command = n.command;
  reply = reply;
  place = place;
}

-- the reply and the place of a `fetch_or` that found the word w
abbrev pub lock_said : ℕ → Reply ℕ
lock_said w = cond (w % 2 == 0) (replies.Granted (w / 2 + 1)) (replies.Busy (w / 2 + 1))

abbrev pub lock_place : ℕ → ℕ → Place ℕ
lock_place t w = cond (w % 2 == 0) (Granted t (w / 2 + 1)) (Busy t (w / 2 + 1))

abbrev pub lock_line : ℕ → Numbered ℕ → ℕ → ℕ → Line
lock_line s n t w = made s n (lock_said w) (lock_place t w)

-- the line of a `fetch_add` that found the word w
abbrev pub free_line : ℕ → Numbered ℕ → ℕ → ℕ → Line
free_line s n t w = made s n Okay (Released t (w / 2 + 1))

-- the line at the row after those that were seen
abbrev pub row_line : ViewOf → ℕ → Numbered ℕ → Reply ℕ → Line
row_line v s n reply = made s n reply (Row (length v.seen))

-- a legal history ends with this line. After a row it has no rows but those that were seen
pub record Ends (v : ViewOf) (l : Line) : Type 0 where
  pub before : List Line
  pub plan : IsPlan v.plan
  pub legal : IsLegal v.plan start (before ++ l ∷ [])
  pub fits : Fits v.plan (before ++ l ∷ []) v
  pub only : is_row l.place ≡ true → row_words v.plan (before ++ l ∷ []) ≡ v.seen

-- one line more of the session s, and the rows that were seen
pub record Goes (v : ViewOf) (s : ℕ) (j : List Line) (l : Line) (seen : List ℕ) (w : ViewOf) :
    Type 0 where
  pub now : w ≡ view v.plan ((s, j ++ l ∷ []) ∷ []) seen v.also
  pub ends : Ends w l

-- the session s is the seat's only one, with these lines
abbrev pub Lone : ViewOf → ℕ → List Line → Type 0
Lone v s j = v.parts ≡ (s, j) ∷ []

-- both row kinds step on the first row that was not seen, and on no other
abbrev pub AtFirstUnseen : Step (Unit {0}) → ViewOf → Type 0
AtFirstUnseen st v = st.word ≡ length v.seen + 1

-- the row's word is seen
pub record Lost (v : ViewOf) (found : ℕ) (w : ViewOf) : Type 0 where
  pub now : w ≡ view v.plan v.parts (v.seen ++ found ∷ []) w.also
  pub told : Told w

-- the reply is the database's after the rows that were seen
abbrev pub SaysRow : ViewOf → ℕ → List Line → Command ℕ → Reply ℕ → Type 0
SaysRow v s j x reply =
    Replies (naming_of v.plan) (replay v.plan v.seen) s (own j x) x reply
    × IsReplyBelow (length v.plan.names) reply

-- what a won exchange shows the session s
abbrev pub Won : ViewOf → ViewOf → Type 0
Won v w =
    (s : ℕ) (j : List Line) (n : Numbered ℕ) (reply : Reply ℕ) → Lone v s j
    → next v.plan s j ≡ Some n → SaysRow v s j n.command reply
    → Goes v s j (row_line v s n reply)
    (v.seen ++ word v.plan s n.number n.command (own j n.command) ∷ []) w

-- the row is won or lost
abbrev pub tried : PlayOf
tried st m r n =
    AtFirstUnseen st m.0 × (r ≡ 0 → Won m.0 n.0) × (r ≢ 0 → Lost m.0 r n.0) × (n.1 ≡ m.1)

-- a load before the exchange shows the word of a filled row, which is not seen by that
pub record Peeked (v : ViewOf) (found : ℕ) (w : ViewOf) : Type 0 where
  pub now : w ≡ view v.plan v.parts v.seen (v.seen ++ found ∷ [])
  pub told : Told w

abbrev pub peeked : PlayOf
peeked st m r n =
    AtFirstUnseen st m.0 × (r ≡ 0 → n.0 ≡ m.0) × (r ≢ 0 → Peeked m.0 r n.0) × (n.1 ≡ m.1)

-- the row, which a load showed filled, is lost
abbrev pub lost : PlayOf
lost st m r n = AtFirstUnseen st m.0 × (r ≢ 0) × Lost m.0 r n.0 × (n.1 ≡ m.1)

-- what a step on a claim word that found r shows
abbrev pub Claims : (ℕ → Numbered ℕ → ℕ → ℕ → Line) → ℕ → ViewOf → ℕ → ViewOf → Type 0
Claims line word v r w =
    (s t : ℕ) (j : List Line) (n : Numbered ℕ) → Lone v s j → next v.plan s j ≡ Some n
    → word ≡ rows_of v.plan + 1 + t → Goes v s j (line s n t r) v.seen w

abbrev pub claimed : PlayOf
claimed st m r n = Claims lock_line st.word m.0 r n.0 × (r < 4294967296) × (n.1 ≡ m.1)

abbrev pub freed : PlayOf
freed st m r n = Claims free_line st.word m.0 r n.0 × (r < 4294967296) × (n.1 ≡ m.1)

-- the longer of the seen words, which begins with both
pub record Looked (v w : ViewOf) : Type 0 where
  pub now : w ≡ view v.plan v.parts (longer v.seen v.also) []
  pub log : List Line
  pub plan : IsPlan v.plan
  pub legal : IsLegal v.plan start log
  pub before : Fits v.plan log v
  pub fits : Fits v.plan log w

abbrev pub looked : PlayOf
looked st m r n = Looked m.0 n.0 × (n.1 ≡ m.1)
