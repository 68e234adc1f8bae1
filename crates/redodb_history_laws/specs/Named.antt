-- Placed lines and journals under other names.
use Rattle.std.specs.Prelude.{ℕ, ◌<◌, ⊤, List, map}
use Rattle.std.specs.List.{AllByRecursion}
use Rattle.redodb_model.specs.Renaming.{named_command, named_reply, IsBelow, IsReplyBelow}
use Rattle.redodb_model.specs.Placed.{Place, Row, Granted, Busy, Released, PlacedLine}

module _ {N M : Type 0} (name : N → M) where
  abbrev pub named_place : Place N → Place M
  named_place (Row r) = Row r
  named_place (Granted t g) = Granted (name t) g
  named_place (Busy t g) = Busy (name t) g
  named_place (Released t g) = Released (name t) g

  abbrev pub named_placed_line : PlacedLine N → PlacedLine M
  named_placed_line line = record {
    session = line.session;
    number = line.number;
    command = named_command name line.command;
    reply = named_reply name line.reply;
    place = named_place line.place;
  }

  abbrev pub named_journals : (ℕ → List (PlacedLine N)) → ℕ → List (PlacedLine M)
  named_journals journals s = map named_placed_line (journals s)

abbrev pub IsPlaceBelow : ℕ → Place ℕ → Type 0
IsPlaceBelow n (Row r) = ⊤
IsPlaceBelow n (Granted t g) = t < n
IsPlaceBelow n (Busy t g) = t < n
IsPlaceBelow n (Released t g) = t < n

-- the numbers that the line's command and place have for names are below n
pub record IsPlacedBelow (n : ℕ) (line : PlacedLine ℕ) : Type 0 where
  pub command : IsBelow n line.command
  pub place : IsPlaceBelow n line.place

-- those of its reply too
pub record IsToldBelow (n : ℕ) (line : PlacedLine ℕ) : Type 0 where
  pub placed : IsPlacedBelow n line
  pub reply : IsReplyBelow n line.reply

-- and so those of each line of the journals
abbrev pub AreToldBelow : ℕ → (ℕ → List (PlacedLine ℕ)) → Type 0
AreToldBelow n journals = (s : ℕ) → AllByRecursion (IsToldBelow n) (journals s)
