-- What the merge tests, and how it goes on.
use Rattle.std.specs.Prelude.{◌≡◌, ℕ, suc, zero, ◌+◌, ◌*◌, ◌<◌, ◌≤◌, ◌==◌, ◌&&◌, ⊤, Bool, false, cond, List, [], ◌∷◌, ◌++◌, None, length, count_by, map, slice_index, slice_index_or}
use Rattle.std.specs.Option.{unwrap_or}
use Rattle.std.specs.HashMap.{get, HashMap}
use Rattle.redodb_model.specs.Command as commands
use Rattle.redodb_model.specs.Placed.{Fits}
use Rattle.redodb_model.specs.Placed as placed
use Rattle.redodb_history_laws.specs.Named.{IsPlaceBelow}
use Rattle.redodb_commands.specs.Meaning.{reply_of, line_of}
use Rattle.redodb_commands.specs.declared.reply.Line.{Line}
use Rattle.redodb_commands.specs.declared.reply.Reply.TheVariants.{Okay}
use Rattle.redodb_journal.specs.Journals.{place_of, command_told, line_told, entries_of}
use Rattle.redodb_journal.specs.declared.entry.Place.{Place}
use Rattle.redodb_journal.specs.declared.entry.Place.TheVariants.{Row, Granted, Busy, Released}
use Rattle.redodb_journal.specs.declared.entry.Entry.{Entry}
use Rattle.redodb_journal.specs.declared.entry.Journal.{Journal}
use Rattle.redodb_merge.specs.declared.merging.turning.Turns.{Turns}

-- an entry in place of none
abbrev pub none : Entry
none = record { number = 0; closing = None; reply = Okay; place = Row 0 }

-- the entry's place fits its command and its reply
abbrev pub FitsScript : List (commands.Item ℕ) → Entry → Type 0
FitsScript script entry =
    Fits (place_of entry.place) (command_told script entry) (reply_of entry.reply)

-- the k-th entry, if there is one, fits
abbrev pub FitsAt : List (commands.Item ℕ) → List Entry → ℕ → Type 0
FitsAt script entries k = k < length entries → FitsScript script (slice_index_or entries k none)

-- there is a k-th entry that does not fit
abbrev pub MisfitsAt : List (commands.Item ℕ) → List Entry → ℕ → Type 0
MisfitsAt script entries k =
    (k < length entries) × (FitsScript script (slice_index_or entries k none) → ⊥)

-- each entry of the journals fits the script of its session
abbrev pub AllFit : List (List (commands.Item ℕ)) → List Journal → Type 0
AllFit scripts js = (s k : ℕ) → FitsAt (slice_index_or scripts s []) (entries_of js s) k

-- one of them does not fit it
abbrev pub OneMisfits : List (List (commands.Item ℕ)) → List Journal → Type 0
OneMisfits scripts js = (s k : ℕ) × MisfitsAt (slice_index_or scripts s []) (entries_of js s) k

-- the place's target, if it has one, is below n
abbrev pub IsWithin : ℕ → Place → Type 0
IsWithin n place = IsPlaceBelow n (place_of place)

-- the targets of the entries' places are below n
abbrev pub AreWithin : ℕ → List Entry → Type 0
AreWithin n entries =
    (k : ℕ) → k < length entries → IsWithin n (slice_index_or entries k none).place

-- the place may come after this many rows, with these claim words
abbrev pub Comes : Turns → Place → Type 0
Comes turns (Row r) = turns.rows ≡ r
Comes turns (Granted t g) = slice_index turns.claims.items t + 2 ≡ 2 * g
Comes turns (Busy t g) = slice_index turns.claims.items t + 1 ≡ 2 * g
Comes turns (Released t g) = slice_index turns.claims.items t + 1 ≡ 2 * g

-- how many rows, and the claim word of a target, after a place
abbrev pub rows_after : Place → ℕ → ℕ
rows_after (Row r) rows = rows + 1
rows_after place rows = rows

abbrev pub claim_after : Place → ℕ → ℕ → ℕ
claim_after (Row r) u claim = claim
claim_after (Granted t g) u claim = claim + cond (t == u) 1 0
claim_after (Busy t g) u claim = claim
claim_after (Released t g) u claim = claim + cond (t == u) 1 0

-- how the place changes them
pub record Turned (old new : Turns) (place : Place) : Type 0 where
  pub rows : new.rows ≡ rows_after place old.rows
  pub claims : (u : ℕ)
      → slice_index new.claims.items u ≡ claim_after place u (slice_index old.claims.items u)
  pub same : length new.claims.items ≡ length old.claims.items

abbrev pub same_pair : ℕ × ℕ → ℕ × ℕ → Bool
same_pair x y = (x.0 == y.0) && (x.1 == y.1)

-- the count for a target and a grant
abbrev pub tally : {S : Type 0} → HashMap (ℕ × ℕ) ℕ S → ℕ → ℕ → ℕ
tally counts t g = unwrap_or (get same_pair counts (t, g)) 0

abbrev pub is_busy : ℕ → ℕ → Place → Bool
is_busy t g (Busy u h) = (u == t) && (h == g)
is_busy t g place = false

-- 1 for a busy reply of the grant
abbrev pub busy_one : ℕ → ℕ → Place → ℕ
busy_one t g place = cond (is_busy t g place) 1 0

-- the busy replies of the grant among the entries
abbrev pub busy_in : ℕ → ℕ → List Entry → ℕ
busy_in t g entries = count_by (λ e. is_busy t g e.place) entries

-- the busy replies of the grant in the first n journals
abbrev pub busy_below : ℕ → ℕ → (ℕ → List Entry) → ℕ → ℕ
busy_below t g j zero = 0
busy_below t g j (suc n) = busy_below t g j n + busy_in t g (j n)

-- a release has no busy reply of its own grant left
abbrev pub IsFree : {S : Type 0} → HashMap (ℕ × ℕ) ℕ S → Place → Type 0
IsFree counts (Released t g) = tally counts t g ≡ 0
IsFree counts place = ⊤

-- the journal has an entry at k, and it may come
pub record MayCome {S : Type 0} (turns : Turns) (counts : HashMap (ℕ × ℕ) ℕ S)
    (entries : List Entry) (k : ℕ) : Type 0 where
  pub more : k < length entries
  pub comes : Comes turns (slice_index_or entries k none).place
  pub free : IsFree counts (slice_index_or entries k none).place

-- the next entry of the session may come
abbrev pub SessionMayCome : {S : Type 0} → Turns → HashMap (ℕ × ℕ) ℕ S → List Journal → List ℕ → ℕ
    → Type 0
SessionMayCome turns counts js next s = MayCome turns counts (entries_of js s) (slice_index next s)

-- no journal has an entry that may come next
abbrev pub NoneMayCome : {S : Type 0} → Turns → HashMap (ℕ × ℕ) ℕ S → List Journal → List ℕ
    → Type 0
NoneMayCome turns counts js next =
    (u : ℕ) → u < length js → SessionMayCome turns counts js next u → ⊥

-- it is the least session whose next entry may come
pub record IsLeast {S : Type 0} (turns : Turns) (counts : HashMap (ℕ × ℕ) ℕ S)
    (js : List Journal) (next : List ℕ) (s : ℕ) : Type 0 where
  pub below : s < length js
  pub may : SessionMayCome turns counts js next s
  pub least : (u : ℕ) → u < s → SessionMayCome turns counts js next u → ⊥

-- the k-th entry can be taken: its place comes next
pub record MayTake {S : Type 0} (turns : Turns) (counts : HashMap (ℕ × ℕ) ℕ S)
    (entries : List Entry) (k : ℕ) : Type 0 where
  pub more : k < length entries
  pub within : IsWithin (length turns.claims.items) (slice_index_or entries k none).place
  pub comes : Comes turns (slice_index_or entries k none).place
  pub busy : (t g : ℕ) → busy_one t g (slice_index_or entries k none).place ≤ tally counts t g

-- the place was subtracted from the counts
abbrev pub Uncounted : {S : Type 0} → HashMap (ℕ × ℕ) ℕ S → HashMap (ℕ × ℕ) ℕ S → Place → Type 0
Uncounted old new place = (t g : ℕ) → tally new t g + busy_one t g place ≡ tally old t g

-- the line of the entry was added
abbrev pub AddsLine : List Line → List Line → ℕ → List (commands.Item ℕ) → Entry → Type 0
AddsLine old new s script entry =
    map line_of new ≡ map line_of old ++ placed.line_of (line_told s script entry) ∷ []
