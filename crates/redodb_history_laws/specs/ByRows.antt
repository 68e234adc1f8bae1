-- Which placed histories are legal, by the rows and by what each session did itself.
use Rattle.std.specs.Prelude.{◌≡◌, ℕ, true, false, List, [], ◌∷◌, ◌++◌, Some, map}
use Rattle.redodb_model.specs.Names.{Naming}
use Rattle.redodb_model.specs.State.{Records, empty, target_state}
use Rattle.redodb_model.specs.Command.{Command, target_of}
use Rattle.redodb_model.specs.Reply.{Reply}
use Rattle.redodb_model.specs.Step.{Replies, records_after, is_built_by}
use Rattle.redodb_model.specs.History.{left_by}
use Rattle.redodb_model.specs.Placed.{Place, Row, Granted, Busy, Released, PlacedLine, line_of, part_of}
use Rattle.redodb_model.specs.Support.Placed.{holds_by}

module _ {N : Type 0} (naming : Naming N) where
  -- the line is valid: a row has the database's reply, by what the session's own lines say that it
  -- holds, and a session that releases a target holds it and doesn't build it
  abbrev pub Stands : Place N → Records N → List (PlacedLine N) → ℕ → Command N → Reply N → Type 0
  Stands (Row r) records own s command reply =
      Replies naming records s (holds_by naming own (target_of command)) command reply
  Stands (Granted t g) records own s command reply = Unit {0}
  Stands (Busy t g) records own s command reply = Unit {0}
  Stands (Released t g) records own s command reply =
      (holds_by naming own (Some t) ≡ true) × (is_built_by s (target_state records t) ≡ false)

  -- only rows change the records
  abbrev pub records_by : Place N → Records N → List (PlacedLine N) → ℕ → Command N → Records N
  records_by (Row r) records own s command =
      records_after naming records s (holds_by naming own (target_of command)) command
  records_by (Granted t g) records own s command = records
  records_by (Busy t g) records own s command = records
  records_by (Released t g) records own s command = records

  abbrev pub StandAfter : Records N → List (PlacedLine N) → List (PlacedLine N) → Type 0
  StandAfter records before [] = Unit {0}
  StandAfter records before (line ∷ lines) =
      let own = part_of line.session before in
      let next = records_by line.place records own line.session line.command in
      Stands line.place records own line.session line.command line.reply
      × StandAfter next (before ++ line ∷ []) lines

  -- each line is valid after the lines before it, from the empty state
  abbrev pub AllStand : List (PlacedLine N) → Type 0
  AllStand lines = StandAfter (empty {N = N}).records [] lines

  -- the records that the lines leave
  abbrev pub records_left : List (PlacedLine N) → Records N
  records_left lines = (left_by naming empty (map line_of lines)).records
