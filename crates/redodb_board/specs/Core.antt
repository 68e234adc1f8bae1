-- The database as the board runs it: one line after the other, each at its place.
use Rattle.std.specs.Prelude.{◌≡◌, ℕ, ◌+◌, ◌-◌, ◌*◌, ◌<◌, ◌==◌, Bool, false, not, ◌&&◌, List, [], ◌∷◌, ◌++◌, length, Option, Some, None, cond}
use Rattle.redodb_model.specs.State.{State, Records, Locks, empty, target_state}
use Rattle.redodb_model.specs.Command.{Command, Lock, Unlock, target_of}
use Rattle.redodb_model.specs.Step.{Answers, after, holds_target, is_built_by}
use Rattle.redodb_model.specs.Renaming.{IsReplyBelow}
use Rattle.redodb_model.specs.Placed.{Place, Row, Granted, Busy, Released, PlacedLine}
use Rattle.redodb_model.specs.Journals.{next_of, numbered}
use Rattle.redodb_history_laws.specs.RowWord.{word_for}
use Rattle.redodb_history_laws.specs.Replayed.{no_records, replayed}
use Rattle.redodb_journal.specs.Plans.{PlanOf, script_of}
use Rattle.redodb_board.specs.Rows.{naming_of}

abbrev pub Line : Type 0
Line = PlacedLine ℕ

-- the row word of the session s for its command with this number, whose target it holds or not
abbrev pub word : PlanOf → ℕ → ℕ → Command ℕ → Bool → ℕ
word p = word_for (script_of p)

-- the records after the commands that the words name
abbrev pub replay : PlanOf → List ℕ → Records ℕ
replay p ws = replayed (naming_of p) (script_of p) no_records ws

-- the state of the database, the row words so far, and the lines of each session
pub record Core : Type 0 where
  pub state : State ℕ
  pub rows : List ℕ
  pub own : ℕ → List Line

abbrev pub start : Core
start = record { state = empty; rows = []; own = λ _. [] }

abbrev pub set_at : {A : Type 0} → (ℕ → A) → ℕ → A → ℕ → A
set_at f s x u = cond (u == s) x (f u)

-- the claim word of a target: twice its releases, and one more while it is held
abbrev pub claim_word : Option ℕ → ℕ → ℕ
claim_word None grants = 2 * grants
claim_word (Some holder) grants = 2 * grants - 1

abbrev pub claim_of : Locks ℕ → ℕ → ℕ
claim_of locks t = claim_word (locks.holder t) (locks.grants t)

-- the word that a command steps on
pub data Way : Type 0 where
  row : Way
  claim : ℕ → Way
  free : ℕ → Way

-- an unlock is accepted from a session that holds its target and doesn't build it
abbrev pub way : Command ℕ → Bool → Bool → Way
way (Lock t) holds builds = claim t
way (Unlock t) holds builds = cond (holds && not builds) (free t) row
way command holds builds = row

abbrev pub builds_name : Records ℕ → ℕ → Option ℕ → Bool
builds_name r s None = false
builds_name r s (Some t) = is_built_by s (target_state r t)

-- whether the session builds the command's target
abbrev pub builds_target : Records ℕ → ℕ → Command ℕ → Bool
builds_target r s x = builds_name r s (target_of x)

abbrev pub rows_then : Way → List ℕ → ℕ → List ℕ
rows_then row rows w = rows ++ w ∷ []
rows_then (claim t) rows w = rows
rows_then (free t) rows w = rows

abbrev pub claim_place : Option ℕ → ℕ → ℕ → Place ℕ
claim_place None grants t = Granted t (grants + 1)
claim_place (Some holder) grants t = Busy t grants

abbrev pub place_at : Core → Way → Place ℕ
place_at c row = Row (length c.rows)
place_at c (claim t) = claim_place (c.state.locks.holder t) (c.state.locks.grants t) t
place_at c (free t) = Released t (c.state.locks.grants t)

abbrev pub holds_at : Core → ℕ → Command ℕ → Bool
holds_at c s x = holds_target c.state.locks s x

abbrev pub way_at : Core → ℕ → Command ℕ → Way
way_at c s x = way x (holds_at c s x) (builds_target c.state.records s x)

-- the core after one line more
abbrev pub done : PlanOf → Core → Line → Core
done p c l = record {
  state = after (naming_of p) c.state l.session l.command;
  rows =
      rows_then (way_at c l.session l.command) c.rows
      (word p l.session l.number l.command (holds_at c l.session l.command));
  own = set_at c.own l.session (c.own l.session ++ l ∷ []);
}

-- the line is what its session does next, with the database's reply and the place that it gets
-- there
pub record IsNext (p : PlanOf) (c : Core) (l : Line) : Type 0 where
  pub session : l.session < length p.scripts
  pub next : next_of (naming_of p) (script_of p l.session) (c.own l.session) ≡ Some (numbered l)
  pub place : l.place ≡ place_at c (way_at c l.session l.command)
  pub answer : Answers (naming_of p) c.state l.session l.command l.reply
  pub below : IsReplyBelow (length p.names) l.reply

abbrev pub IsLegal : PlanOf → Core → List Line → Type 0
IsLegal p c [] = Unit {0}
IsLegal p c (l ∷ ls) = IsNext p c l × IsLegal p (done p c l) ls

abbrev pub after_all : PlanOf → Core → List Line → Core
after_all p c [] = c
after_all p c (l ∷ ls) = after_all p (done p c l) ls

abbrev pub row_words : PlanOf → List Line → List ℕ
row_words p log = (after_all p start log).rows

abbrev pub Begins : List ℕ → List ℕ → Type 0
Begins all seen = (rest : List ℕ) × (all ≡ seen ++ rest)
