-- The state of the database.
use Rattle.std.specs.Prelude.{ℕ, Bool, true, false, List, Option, Some, None, is_some}
use Rattle.redodb_model.specs.Names.{Text}

-- the state of a name: idle until its first start
pub data TargetState : Type 0 where
  Idle : TargetState
  Building : ℕ → TargetState
  Built : TargetState
  Failed : TargetState

-- what a change row records of a name
pub data Mark : Type 0 where
  Digest : List ℕ → Mark
  Builds : ℕ → Mark
  Pending : Mark
  File : Text → Mark
  Absent : Mark

-- what is known of one name: the stamp of its file, its state, how often it was built, the stamp
-- that its last done gave, and the digest of its present build
pub record Cell : Type 0 where
  pub file : Option Text
  pub state : TargetState
  pub builds : ℕ
  pub done : Option Text
  pub digest : Option (List ℕ)

-- the rows of each target: its change rows on names, each with a mark, its created rows on names,
-- its always row
pub record Rows (N : Type 0) : Type 0 where
  pub change : N → N → Option Mark
  pub created : N → N → Bool
  pub always : N → Bool

pub record Records (N : Type 0) : Type 0 where
  pub cell : N → Cell
  pub rows : Rows N

-- which session holds a name's lock, and how often the lock was granted
pub record Locks (N : Type 0) : Type 0 where
  pub holder : N → Option ℕ
  pub grants : N → ℕ

pub record State (N : Type 0) : Type 0 where
  pub records : Records N
  pub locks : Locks N

-- a name that no command reported
abbrev pub idle : Cell
idle = record { file = None; state = Idle; builds = 0; done = None; digest = None }

abbrev pub no_rows : {N : Type 0} → Rows N
no_rows = record { change = λ t n. None; created = λ t n. false; always = λ t. false }

abbrev pub empty : {N : Type 0} → State N
empty = record {
  records = record { cell = λ n. idle; rows = no_rows };
  locks = record { holder = λ n. None; grants = λ n. 0 };
}

abbrev pub has_file : {N : Type 0} → Records N → N → Bool
has_file r n = is_some (r.cell n).file

abbrev pub target_state : {N : Type 0} → Records N → N → TargetState
target_state r n = (r.cell n).state

abbrev pub is_building : TargetState → Bool
is_building Idle = false
is_building (Building s) = true
is_building Built = false
is_building Failed = false

abbrev pub file_mark : Option Text → Mark
file_mark None = Absent
file_mark (Some stamp) = File stamp

abbrev pub build_mark : Option (List ℕ) → ℕ → Mark
build_mark None builds = Builds builds
build_mark (Some digest) builds = Digest digest

abbrev pub mark_in : TargetState → Cell → Mark
mark_in Idle c = file_mark c.file
mark_in (Building s) c = Pending
mark_in Built c = build_mark c.digest c.builds
mark_in Failed c = Pending

-- the mark that a name has now
abbrev pub mark_of : {N : Type 0} → Records N → N → Mark
mark_of r n = mark_in (target_state r n) (r.cell n)
