-- Journals, which record what one session did, and the histories that journals can be joined to.
use Rattle.std.specs.Prelude.{◌≡◌, ℕ, ◌+◌, ◌-◌, ◌<◌, Bool, true, cond, not, ◌||◌, ◌⊎◌, List, [], ◌∷◌, ◌++◌, drop, Option, Some, None, length, map, option_map}
use Rattle.std.specs.Option.{option_or}
use Rattle.redodb_model.specs.Names.{Naming}
use Rattle.redodb_model.specs.Command.{Command, Item}
use Rattle.redodb_model.specs.Reply.{lets_through}
use Rattle.redodb_model.specs.Placed.{PlacedLine, line_of, part_of, IsPlaced}
use Rattle.redodb_model.specs.Closing.{closing_of}

-- a command, and its number in the session's script
pub record Numbered (N : Type 0) : Type 0 where
  pub number : ℕ
  pub command : Command N

-- of the lines of a script, counted on from here, the first that is unguarded or let through
abbrev pub first_from : {N : Type 0} → Bool → ℕ → List (Item N) → Option (Numbered N)
first_from through here [] = None
first_from through here (item ∷ items) =
    let found = Some (record { number = here; command = item.command }) in
    cond (through || not item.guarded) found (first_from through (here + 1) items)

-- the line of its script that a session does next, by its lines so far: the first after the last
-- of them that is unguarded, or that the reply there lets through
abbrev pub next_line_of : {N : Type 0} → List (Item N) → List (PlacedLine N) → Option (Numbered N)
next_line_of script [] = first_from true 0 script
next_line_of script (line ∷ []) =
    let here = line.number + 1 in first_from (lets_through line.reply) here (drop here script)
next_line_of script (line ∷ lines) = next_line_of script lines

-- the number of a closing command after the lines: the numbers count on from those of the script
abbrev pub closing_number : {N : Type 0} → List (Item N) → List (PlacedLine N) → ℕ
closing_number script [] = length script
closing_number script (line ∷ []) = length script + (line.number + 1 - length script)
closing_number script (line ∷ lines) = closing_number script lines

-- a closing command after the lines
abbrev pub closing_after : {N : Type 0} → List (Item N) → List (PlacedLine N) → Command N
    → Numbered N
closing_after script own command =
    record { number = closing_number script own; command = command }

-- what a session does next: the next line of its script, or else a closing command
abbrev pub next_of : {N : Type 0} → Naming N → List (Item N) → List (PlacedLine N)
    → Option (Numbered N)
next_of naming script own =
    option_or (next_line_of script own)
    (option_map (closing_after script own) (closing_of naming (map line_of own)))

abbrev pub numbered : {N : Type 0} → PlacedLine N → Numbered N
numbered line = record { number = line.number; command = line.command }

module _ {N : Type 0} (naming : Naming N) (s : ℕ) (script : List (Item N)) where
  -- each line is the session's, with the command that it does next after the lines before it
  abbrev pub IsJournalAfter : List (PlacedLine N) → List (PlacedLine N) → Type 0
  IsJournalAfter before [] = Unit {0}
  IsJournalAfter before (line ∷ lines) =
      (line.session ≡ s) × (next_of naming script before ≡ Some (numbered line))
      × IsJournalAfter (before ++ line ∷ []) lines

  -- what the session did so far
  abbrev pub IsJournal : List (PlacedLine N) → Type 0
  IsJournal lines = IsJournalAfter [] lines

  -- all that it does
  abbrev pub IsWholeJournal : List (PlacedLine N) → Type 0
  IsWholeJournal lines = IsJournal lines × (next_of naming script lines ≡ None)

-- the sessions of the first list come no later in dictionary order
abbrev pub NoLater : {N : Type 0} → List (PlacedLine N) → List (PlacedLine N) → Type 0
NoLater [] others = Unit {0}
NoLater (line ∷ lines) [] = ⊥
NoLater (line ∷ lines) (other ∷ others) =
    (line.session < other.session) ⊎ ((line.session ≡ other.session) × NoLater lines others)

module _ {N : Type 0} (naming : Naming N) (journals : ℕ → List (PlacedLine N)) where
  -- a placed history whose part of each session is that session's journal
  abbrev pub IsJointOrder : List (PlacedLine N) → Type 0
  IsJointOrder lines = ((s : ℕ) → part_of s lines ≡ journals s) × IsPlaced naming lines

  -- the joint order whose list of sessions comes first in dictionary order
  pub record IsFirstJointOrder (lines : List (PlacedLine N)) : Type 0 where
    pub joint : IsJointOrder lines
    pub first : (others : List (PlacedLine N)) → IsJointOrder others → NoLater lines others
