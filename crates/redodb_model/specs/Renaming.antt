-- The same under other names. A renaming gives each number below `count` a name of its own: `name
-- k`, and `number t` is the number whose name is t, if there is one.
use Rattle.std.specs.Prelude.{ℕ, ◌<◌, List, map, ⊤}
use Rattle.std.specs.List.{AllByRecursion}
use Rattle.redodb_model.specs.Command.{Command, Item, File, Gone, Lock, Unlock, Start, IfChange, IfCreate, Always, Stamp, Done, Failed, Ood, Targets, Sources, names_in}
use Rattle.redodb_model.specs.Reply.{Refusal, NotLocked, Building, NotBuilding, Itself, Exists, Reply, Okay, Granted, Busy, Stale, Stamped, Refused}
use Rattle.redodb_model.specs.Reply as replies
use Rattle.redodb_model.specs.History.{Line}

module _ {N M : Type 0} (name : N → M) where
  abbrev pub named_command : Command N → Command M
  named_command (File n stamp) = File (name n) stamp
  named_command (Gone n) = Gone (name n)
  named_command (Lock t) = Lock (name t)
  named_command (Unlock t) = Unlock (name t)
  named_command (Start t) = Start (name t)
  named_command (IfChange t ns) = IfChange (name t) (map name ns)
  named_command (IfCreate t ns) = IfCreate (name t) (map name ns)
  named_command (Always t) = Always (name t)
  named_command (Stamp t content) = Stamp (name t) content
  named_command (Done t stamp) = Done (name t) stamp
  named_command (Failed t) = Failed (name t)
  named_command Ood = Ood
  named_command Targets = Targets
  named_command Sources = Sources

  abbrev pub named_item : Item N → Item M
  named_item item = record { guarded = item.guarded; command = named_command item.command }

  abbrev pub named_refusal : Refusal N → Refusal M
  named_refusal NotLocked = NotLocked
  named_refusal Building = Building
  named_refusal NotBuilding = NotBuilding
  named_refusal Itself = Itself
  named_refusal (Exists n) = Exists (name n)

  abbrev pub named_reply : Reply N → Reply M
  named_reply Okay = Okay
  named_reply (Granted g) = Granted g
  named_reply (Busy g) = Busy g
  named_reply (Stale ns) = Stale (map name ns)
  named_reply (Stamped digest) = Stamped digest
  named_reply (replies.Ood ns) = replies.Ood (map name ns)
  named_reply (replies.Targets ns) = replies.Targets (map name ns)
  named_reply (replies.Sources ns) = replies.Sources (map name ns)
  named_reply (Refused refusal) = Refused (named_refusal refusal)

  abbrev pub named_line : Line N → Line M
  named_line line = record {
    session = line.session;
    command = named_command line.command;
    reply = named_reply line.reply;
  }

abbrev pub AllBelow : ℕ → List ℕ → Type 0
AllBelow n ks = AllByRecursion (λ k. k < n) ks

-- the command's numbers are below n
abbrev pub IsBelow : ℕ → Command ℕ → Type 0
IsBelow n command = AllBelow n (names_in command)

-- the reply's numbers are below n
abbrev pub IsReplyBelow : ℕ → Reply ℕ → Type 0
IsReplyBelow n Okay = ⊤
IsReplyBelow n (Granted g) = ⊤
IsReplyBelow n (Busy g) = ⊤
IsReplyBelow n (Stale ns) = AllBelow n ns
IsReplyBelow n (Stamped digest) = ⊤
IsReplyBelow n (replies.Ood ns) = AllBelow n ns
IsReplyBelow n (replies.Targets ns) = AllBelow n ns
IsReplyBelow n (replies.Sources ns) = AllBelow n ns
IsReplyBelow n (Refused NotLocked) = ⊤
IsReplyBelow n (Refused Building) = ⊤
IsReplyBelow n (Refused NotBuilding) = ⊤
IsReplyBelow n (Refused Itself) = ⊤
IsReplyBelow n (Refused (Exists m)) = m < n

-- the line's numbers are below n
abbrev pub IsLineBelow : ℕ → Line ℕ → Type 0
IsLineBelow n line = IsBelow n line.command × IsReplyBelow n line.reply
