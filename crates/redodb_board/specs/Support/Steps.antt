-- What the code's values say of a step.
use Rattle.std.specs.Prelude.{◌≡◌, ◌≤◌, ℕ, false, List, Option, Some, None, ◌∷◌, [], ◌++◌, length, vec_capacity}
use Rattle.redodb_commands.specs.Meaning.{reply_of}
use Rattle.redodb_model.specs.Names.{Text}
use Rattle.redodb_model.specs.Command.{Command, Failed, Unlock, asked_lock}
use Rattle.redodb_model.specs.Reply.{Reply}
use Rattle.redodb_model.specs.Step.{Replies}
use Rattle.redodb_model.specs.Renaming.{IsBelow, IsReplyBelow}
use Rattle.redodb_commands.specs.declared.reply.Reply as commands
use Rattle.redodb_graph.specs.declared.step.Step.{Step}
use Rattle.redodb_graph.specs.Steps.{Means}
use Rattle.redodb_replica.specs.Replicas.{records_of, count_of}
use Rattle.redodb_replica.specs.Replies.{naming_in, lists_names}
use Rattle.redodb_journal.specs.Journals.{place_of}
use Rattle.redodb_journal.specs.Holds.{Notes}
use Rattle.redodb_journal.specs.declared.entry.Entry.{Entry}
use Rattle.redodb_board.specs.Core as core
use Rattle.redodb_board.specs.Support.Own.{holds_its_target}
use Rattle.redodb_board.specs.Support.Plays.{lock_said, lock_place}
use Rattle.redodb_board.specs.declared.worker.Worker.{Worker}
use Rattle.redodb_board.specs.declared.worker.ways.Way.{Way}
use Rattle.redodb_board.specs.declared.worker.ways.Way.TheVariants.{Row, Claim, Free}

abbrev pub way_of : Way → core.Way
way_of Row = core.row
way_of (Claim t) = core.claim t
way_of (Free t) = core.free t

-- the entry of a `fetch_or` on the claim word of t that found w
pub record TellsLock (number t w : ℕ) (entry : Entry) : Type 0 where
  pub number_is : entry.number ≡ number
  pub closing : entry.closing ≡ None
  pub said : reply_of entry.reply ≡ lock_said w
  pub at : place_of entry.place ≡ lock_place t w

-- a closing command
abbrev pub LetsGo : Command ℕ → Type 0
LetsGo (Failed t) = Unit {0}
LetsGo (Unlock t) = Unit {0}
LetsGo command = ⊥

-- the step stands for the command, which is no lock, by the worker's replica and what it holds
pub record IsStepOf (w : Worker) (step : Step) (x : Command ℕ) : Type 0 where
  pub means : Means w.replica.graph.tables step x
  pub numbers : IsBelow (count_of w.replica) x
  pub no_lock : asked_lock x ≡ None
  pub names : length w.own ≡ count_of w.replica

-- the reply is that of the worker's replica, by what the session holds
pub record IsSaidBy (w : Worker) (x : Command ℕ) (reply : Reply ℕ) : Type 0 where
  pub replies : Replies (naming_in w.replica.graph) (records_of w.replica) w.session
      (holds_its_target w.own x) x reply
  pub below : IsReplyBelow (count_of w.replica) reply

-- the reply is there, or takes no allocation
abbrev pub IsReadyBy : Worker → Command ℕ → Option commands.Reply → Type 0
IsReadyBy w x None = lists_names x ≡ false
IsReadyBy w x (Some reply) = IsSaidBy w x (reply_of reply)

-- the entry is in the journal, and what the session holds and builds is noted
pub record Enters (old : Worker) (x : Command ℕ) (entry : Entry) (new : Worker) : Type 0 where
  pub items : new.entries.items ≡ old.entries.items ++ entry ∷ []
  pub capacity : vec_capacity old.entries ≤ vec_capacity new.entries
  pub notes : (names : List Text) → Notes names old.own x (reply_of entry.reply) new.own
  pub seat : new.seat ≡ old.seat
  pub session : new.session ≡ old.session
  pub replica : new.replica ≡ old.replica
  pub pending : new.pending ≡ old.pending
  pub tries : new.tries ≡ old.tries
