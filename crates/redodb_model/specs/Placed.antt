-- Histories with places: the atomic step at which each line was answered.
use Rattle.std.specs.Prelude.{◌≡◌, ℕ, ◌+◌, Bool, true, false, List, [], ◌∷◌, ◌++◌, filter, count_by, ◌==◌}
use Rattle.redodb_model.specs.Names.{Naming}
use Rattle.redodb_model.specs.Command.{Command, Lock, Unlock}
use Rattle.redodb_model.specs.Reply.{Reply, Okay}
use Rattle.redodb_model.specs.Reply as replies
use Rattle.redodb_model.specs.History.{Line}

-- the place of a line: a row; or, among the claims on a target, its g-th grant, a reply that this
-- grant is in force, or its release
pub data Place (N : Type 0) : Type 0 where
  Row : ℕ → Place N
  Granted : N → ℕ → Place N
  Busy : N → ℕ → Place N
  Released : N → ℕ → Place N

-- a line of a history with its place, and with the number of its command in the session's script,
-- counted from 0
pub record PlacedLine (N : Type 0) : Type 0 where
  pub session : ℕ
  pub number : ℕ
  pub command : Command N
  pub reply : Reply N
  pub place : Place N

abbrev pub line_of : {N : Type 0} → PlacedLine N → Line N
line_of line = record { session = line.session; command = line.command; reply = line.reply }

-- a lock that is granted or busy, and an unlock that is accepted
abbrev pub is_claim : {N : Type 0} → Command N → Reply N → Bool
is_claim (Lock t) (replies.Granted g) = true
is_claim (Lock t) (replies.Busy g) = true
is_claim (Unlock t) Okay = true
is_claim command reply = false

-- a place fits its command and reply: all but the claims have a row
abbrev pub Fits : {N : Type 0} → Place N → Command N → Reply N → Type 0
Fits (Row r) command reply = is_claim command reply ≡ false
Fits (Granted t g) command reply = (command ≡ Lock t) × (reply ≡ replies.Granted g)
Fits (Busy t g) command reply = (command ≡ Lock t) × (reply ≡ replies.Busy g)
Fits (Released t g) command reply = (command ≡ Unlock t) × (reply ≡ Okay)

-- the lines of one session, in their order
abbrev pub part_of : {N : Type 0} → ℕ → List (PlacedLine N) → List (PlacedLine N)
part_of s lines = filter (λ line. line.session == s) lines

abbrev pub is_row : {N : Type 0} → Place N → Bool
is_row (Row r) = true
is_row (Granted t g) = false
is_row (Busy t g) = false
is_row (Released t g) = false

-- how many of the lines have a row
abbrev pub rows_in : {N : Type 0} → List (PlacedLine N) → ℕ
rows_in lines = count_by (λ line. is_row line.place) lines

module _ {N : Type 0} (naming : Naming N) where
  abbrev pub is_grant : N → Place N → Bool
  is_grant t (Row r) = false
  is_grant t (Granted u g) = naming.same u t
  is_grant t (Busy u g) = false
  is_grant t (Released u g) = false

  abbrev pub is_release : N → Place N → Bool
  is_release t (Row r) = false
  is_release t (Granted u g) = false
  is_release t (Busy u g) = false
  is_release t (Released u g) = naming.same u t

  -- how often a target was granted and released among the lines
  abbrev pub grants_in : List (PlacedLine N) → N → ℕ
  grants_in lines t = count_by (λ line. is_grant t line.place) lines

  abbrev pub releases_in : List (PlacedLine N) → N → ℕ
  releases_in lines t = count_by (λ line. is_release t line.place) lines

  -- what may come after the lines: rows are counted up from 0; of each target the first grant comes
  -- first, then every reply that it is in force, then its release, then the second grant
  abbrev pub Follows : List (PlacedLine N) → Place N → Type 0
  Follows lines (Row r) = rows_in lines ≡ r
  Follows lines (Granted t g) = (grants_in lines t + 1 ≡ g) × (releases_in lines t + 1 ≡ g)
  Follows lines (Busy t g) = (grants_in lines t ≡ g) × (releases_in lines t + 1 ≡ g)
  Follows lines (Released t g) = (grants_in lines t ≡ g) × (releases_in lines t + 1 ≡ g)

  -- each line has a place that fits it, and that may come after the lines before it
  abbrev pub IsPlacedAfter : List (PlacedLine N) → List (PlacedLine N) → Type 0
  IsPlacedAfter before [] = Unit {0}
  IsPlacedAfter before (line ∷ lines) =
      Fits line.place line.command line.reply × Follows before line.place
      × IsPlacedAfter (before ++ line ∷ []) lines

  abbrev pub IsPlaced : List (PlacedLine N) → Type 0
  IsPlaced lines = IsPlacedAfter [] lines
