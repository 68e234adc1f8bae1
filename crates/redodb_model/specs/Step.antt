-- The table of the commands: which refusal applies, what an accepted command changes, and its
-- reply.
use Rattle.std.specs.Prelude.{◌≡◌, ℕ, ◌+◌, Bool, true, false, not, ◌||◌, if◌then◌else◌, List, [], ◌∷◌, Option, Some, None, MatchOption, Contains, find, ◌==◌}
use Rattle.std.specs.List.{list_any}
use Rattle.sha1.specs.Sha1.{sha1}
use Rattle.redodb_model.specs.Names.{Naming, put, IsListed}
use Rattle.redodb_model.specs.State.{Records, State, Locks, Cell, TargetState, Idle, Building, Built, has_file, target_state, is_building, mark_of, no_rows}
use Rattle.redodb_model.specs.State as states
use Rattle.redodb_model.specs.Command.{Command, File, Gone, Lock, Unlock, Start, IfChange, IfCreate, Always, Stamp, Done, Failed, Ood, Targets, Sources, target_of, asked_lock}
use Rattle.redodb_model.specs.Reply.{Refusal, NotLocked, NotBuilding, Itself, Exists, Reply, Okay, Granted, Busy, Stale, Stamped, Refused}
use Rattle.redodb_model.specs.Reply as replies
use Rattle.redodb_model.specs.OutOfDate.{IsTarget, HasFile, OutOfDate, IsStale, IsSource}

abbrev pub is_built_by : ℕ → TargetState → Bool
is_built_by s Idle = false
is_built_by s (Building builder) = builder == s
is_built_by s Built = false
is_built_by s states.Failed = false

abbrev pub is_held_by : ℕ → Option ℕ → Bool
is_held_by s None = false
is_held_by s (Some holder) = holder == s

abbrev pub holds_name : {N : Type 0} → Locks N → ℕ → Option N → Bool
holds_name locks s None = false
holds_name locks s (Some t) = is_held_by s (locks.holder t)

-- whether the session holds the command's target
abbrev pub holds_target : {N : Type 0} → Locks N → ℕ → Command N → Bool
holds_target locks s command = holds_name locks s (target_of command)

-- this refusal if the test is true, else the one that follows, if any
abbrev pub refusal_or : {N : Type 0} → Bool → Refusal N → Option (Refusal N) → Option (Refusal N)
refusal_or test refusal rest = if test then Some refusal else rest

abbrev pub refusal_of_existing : {N : Type 0} → Option N → Option (Refusal N)
refusal_of_existing None = None
refusal_of_existing (Some n) = Some (Exists n)

-- the old value if the command is refused, else the new one
abbrev pub unless_refused : {N X : Type 0} → Option (Refusal N) → X → X → X
unless_refused None old new = new
unless_refused (Some refusal) old new = old

abbrev pub stale_reply : {N : Type 0} → List N → Reply N
stale_reply [] = Okay
stale_reply (n ∷ ns) = Stale (n ∷ ns)

-- the reply to a lock, by its holder and its grants so far
abbrev pub lock_reply : {N : Type 0} → Option ℕ → ℕ → Reply N
lock_reply None grants = Granted (grants + 1)
lock_reply (Some holder) grants = Busy grants

module _ {N : Type 0} (naming : Naming N) where
  abbrev pub is_among : List N → N → Bool
  is_among names n = list_any (λ m. naming.same m n) names

  -- the first refusal that applies; `holds`: whether the session holds the lock of the command's
  -- target
  abbrev pub verdict_of : Records N → ℕ → Bool → Command N → Option (Refusal N)
  verdict_of r s holds (File n stamp) = None
  verdict_of r s holds (Gone n) = None
  verdict_of r s holds (Lock t) = None
  verdict_of r s holds (Unlock t) =
      refusal_or (not holds) NotLocked
      (refusal_or (is_building (target_state r t)) replies.Building None)
  verdict_of r s holds (Start t) =
      refusal_or (not holds) NotLocked
      (refusal_or (is_building (target_state r t)) replies.Building None)
  verdict_of r s holds (IfChange t ns) =
      refusal_or (not (is_built_by s (target_state r t))) NotBuilding
      (refusal_or (is_among ns t) Itself None)
  verdict_of r s holds (IfCreate t ns) =
      refusal_or (not (is_built_by s (target_state r t))) NotBuilding
      (refusal_or (is_among ns t) Itself (refusal_of_existing (find (has_file r) ns)))
  verdict_of r s holds (Always t) =
      refusal_or (not (is_built_by s (target_state r t))) NotBuilding None
  verdict_of r s holds (Stamp t content) =
      refusal_or (not (is_built_by s (target_state r t))) NotBuilding None
  verdict_of r s holds (Done t stamp) =
      refusal_or (not (is_built_by s (target_state r t))) NotBuilding None
  verdict_of r s holds (Failed t) =
      refusal_or (not (is_built_by s (target_state r t))) NotBuilding None
  verdict_of r s holds Ood = None
  verdict_of r s holds Targets = None
  verdict_of r s holds Sources = None

  abbrev pub with_cell : Records N → N → Cell → Records N
  with_cell r n c = record r { cell = put naming n c r.cell }

  -- the records after an accepted command
  abbrev pub effect_of : Records N → ℕ → Command N → Records N
  effect_of r s (File n stamp) = with_cell r n (record (r.cell n) { file = Some stamp })
  effect_of r s (Gone n) = with_cell r n (record (r.cell n) { file = None })
  effect_of r s (Lock t) = r
  effect_of r s (Unlock t) = r
  effect_of r s (Start t) = record {
    cell = put naming t (record (r.cell t) { state = Building s; digest = None }) r.cell;
    rows = record {
      change = put naming t (no_rows.change t) r.rows.change;
      created = put naming t (no_rows.created t) r.rows.created;
      always = put naming t false r.rows.always;
    };
  }
  effect_of r s (IfChange t ns) = record r {
    rows = record r.rows {
      change = put naming t
          (λ n. if is_among ns n then Some (mark_of r n) else r.rows.change t n) r.rows.change;
    };
  }
  effect_of r s (IfCreate t ns) = record r {
    rows = record r.rows
        { created = put naming t (λ n. is_among ns n || r.rows.created t n) r.rows.created };
  }
  effect_of r s (Always t) =
      record r { rows = record r.rows { always = put naming t true r.rows.always } }
  effect_of r s (Stamp t content) =
      with_cell r t (record (r.cell t) { digest = Some (sha1 content) })
  effect_of r s (Done t stamp) =
      with_cell r t (record (r.cell t) {
        state = Built;
        builds = (r.cell t).builds + 1;
        file = stamp;
        done = stamp;
      })
  effect_of r s (Failed t) = with_cell r t (record (r.cell t) { state = states.Failed })
  effect_of r s Ood = r
  effect_of r s Targets = r
  effect_of r s Sources = r

  -- the reply to an accepted command, but for a lock
  abbrev pub Tells : Records N → Command N → Reply N → Type 0
  Tells r (File n stamp) reply = reply ≡ Okay
  Tells r (Gone n) reply = reply ≡ Okay
  Tells r (Lock t) reply = ⊥
  Tells r (Unlock t) reply = reply ≡ Okay
  Tells r (Start t) reply = reply ≡ Okay
  Tells r (IfChange t ns) reply =
      (stale : List N) × IsListed naming (λ n. Contains ns n × IsStale r n) stale
      × (reply ≡ stale_reply stale)
  Tells r (IfCreate t ns) reply = reply ≡ Okay
  Tells r (Always t) reply = reply ≡ Okay
  Tells r (Stamp t content) reply = reply ≡ Stamped (sha1 content)
  Tells r (Done t stamp) reply = reply ≡ Okay
  Tells r (Failed t) reply = reply ≡ Okay
  Tells r Ood reply =
      (names : List N) × IsListed naming (λ t. HasFile r t × OutOfDate r t) names
      × (reply ≡ replies.Ood names)
  Tells r Targets reply =
      (names : List N) × IsListed naming (λ t. HasFile r t × IsTarget r t) names
      × (reply ≡ replies.Targets names)
  Tells r Sources reply =
      (names : List N) × IsListed naming (IsSource r) names × (reply ≡ replies.Sources names)

  -- the reply to any command but a lock
  abbrev pub Replies : Records N → ℕ → Bool → Command N → Reply N → Type 0
  Replies r s holds command reply =
      MatchOption (verdict_of r s holds command) (Tells r command reply)
      (λ refusal. reply ≡ Refused refusal)

  -- the records after a command
  abbrev pub records_after : Records N → ℕ → Bool → Command N → Records N
  records_after r s holds command = unless_refused (verdict_of r s holds command) r
      (effect_of r s command)

  -- a lock is granted if nobody holds it
  abbrev pub locks_granted : Option ℕ → Locks N → ℕ → N → Locks N
  locks_granted None locks s t = record {
    holder = put naming t (Some s) locks.holder;
    grants = put naming t (locks.grants t + 1) locks.grants;
  }
  locks_granted (Some holder) locks s t = locks

  abbrev pub locks_freed : Locks N → N → Locks N
  locks_freed locks t = record locks { holder = put naming t None locks.holder }

  -- the locks after a command, by its verdict
  abbrev pub locks_after : Locks N → ℕ → Option (Refusal N) → Command N → Locks N
  locks_after locks s verdict (Lock t) = locks_granted (locks.holder t) locks s t
  locks_after locks s verdict (Unlock t) = unless_refused verdict locks (locks_freed locks t)
  locks_after locks s verdict command = locks

  -- the reply of the database to a session's command
  abbrev pub Answers : State N → ℕ → Command N → Reply N → Type 0
  Answers st s command reply =
      MatchOption (asked_lock command)
      (Replies st.records s (holds_target st.locks s command) command reply)
      (λ t. reply ≡ lock_reply (st.locks.holder t) (st.locks.grants t))

  -- the state after a session's command
  abbrev pub after : State N → ℕ → Command N → State N
  after st s command =
      let holds = holds_target st.locks s command in
      record {
        records = records_after st.records s holds command;
        locks = locks_after st.locks s (verdict_of st.records s holds command) command;
      }
