-- Which sessions are known to wait.
use Rattle.std.specs.Prelude.{◌≡◌, ◌≢◌, ℕ, ◌+◌, ◌%◌, ◌<◌, List, length, max, slice_index, slice_index_or}
use Rattle.std.specs.Int.{bit_at}
use Rattle.std.specs.HashMap.{HashMap}
use Rattle.redodb_journal.specs.Journals.{entries_of}
use Rattle.redodb_journal.specs.declared.entry.Place.{Place}
use Rattle.redodb_journal.specs.declared.entry.Place.TheVariants.{Row, Granted, Busy, Released}
use Rattle.redodb_journal.specs.declared.entry.Entry.{Entry}
use Rattle.redodb_journal.specs.declared.entry.Journal.{Journal}
use Rattle.redodb_merge.specs.declared.merging.turning.Turns.{Turns}
use Rattle.redodb_merge.specs.declared.merging.waiting.Waiting.{Waiting}
use Rattle.redodb_merge.specs.Support.Merging.{none, MayCome}

-- the bucket of a row, and of a place
abbrev pub row_bucket : ℕ → ℕ
row_bucket row = row % 256

abbrev pub bucket_of : Place → ℕ
bucket_of (Row r) = row_bucket r
bucket_of (Granted t g) = 256 + t % 256
bucket_of (Busy t g) = 256 + t % 256
bucket_of (Released t g) = 256 + t % 256

-- the bucket whose sessions a place wakes
abbrev pub bucket_woken : Place → ℕ
bucket_woken (Row r) = row_bucket (r + 1)
bucket_woken place = bucket_of place

-- each place has a bucket
abbrev pub HasBuckets : Waiting → Type 0
HasBuckets waiting = length waiting.buckets.items ≡ 512

-- none of the first n sessions is ready
abbrev pub NoneIsReady : ℕ → ℕ → Type 0
NoneIsReady ready n = (u : ℕ) → u < n → bit_at ready u ≡ 0

-- it is the first of them that is ready
pub record IsFirstReady (ready n s : ℕ) : Type 0 where
  pub below : s < n
  pub is : bit_at ready s ≡ 1
  pub first : (u : ℕ) → u < s → bit_at ready u ≡ 0

-- the session's bit in the bucket of this place
abbrev pub waits_at : Waiting → Place → ℕ → ℕ
waits_at waiting place s = bit_at (slice_index waiting.buckets.items (bucket_of place)) s

-- the session waits for its entry at k, if there is one; others wait as before
pub record Waits (old new : Waiting) (s : ℕ) (entries : List Entry) (k : ℕ) : Type 0 where
  pub bucketed : HasBuckets new
  pub here : bit_at new.ready s ≡ 0
  pub noted : k < length entries → waits_at new (slice_index_or entries k none).place s ≡ 1
  pub ready : (u : ℕ) → u < 64 → u ≢ s → bit_at new.ready u ≡ bit_at old.ready u
  pub others : (u : ℕ) (place : Place) → u ≢ s → waits_at new place u ≡ waits_at old place u
  pub less : bit_at old.ready s ≡ 1 → new.ready < old.ready

-- the sessions of one bucket are ready, and those of the others wait as before
pub record Wakes (old new : Waiting) (place : Place) : Type 0 where
  pub bucketed : HasBuckets new
  pub ready : (u : ℕ) → bit_at new.ready u
      ≡ max (bit_at old.ready u) (bit_at (slice_index old.buckets.items (bucket_woken place)) u)
  pub others : (i : ℕ) → i ≢ bucket_woken place
      → slice_index new.buckets.items i ≡ slice_index old.buckets.items i

-- the next entry of the session, if it has one, may not come, and its place has the session's bit
pub record IsWaiting {S : Type 0} (waiting : Waiting) (turns : Turns)
    (counts : HashMap (ℕ × ℕ) ℕ S) (entries : List Entry) (k u : ℕ) : Type 0 where
  pub cannot : MayCome turns counts entries k → ⊥
  pub noted : k < length entries → waits_at waiting (slice_index_or entries k none).place u ≡ 1

-- each session that is not ready waits
pub record AreWaiting {S : Type 0} (waiting : Waiting) (turns : Turns)
    (counts : HashMap (ℕ × ℕ) ℕ S) (js : List Journal) (next : List ℕ) : Type 0 where
  pub bucketed : HasBuckets waiting
  pub each : (u : ℕ) → u < length js → bit_at waiting.ready u ≡ 0
      → IsWaiting waiting turns counts (entries_of js u) (slice_index next u) u
