-- What a session holds and builds by its lines, whatever the order of the names.
use Rattle.std.proofs.Common.{◌≡◌, ℕ, Bool, false, List, [], ◌∷◌, map, refl, ap, ◌∙◌}
use Rattle.std.specs.declared.cmp.Ordering.{Ordering}
use Rattle.redodb_model.specs.Names.{numbers}
use Rattle.redodb_model.specs.Command.{Command, Lock, Unlock, Start, Done, Failed}
use Rattle.redodb_model.specs.Reply.{Reply}
use Rattle.redodb_model.specs.History as histories
use Rattle.redodb_model.specs.Placed.{line_of}
use Rattle.redodb_model.specs.Closing.{holds, builds, holds_then, builds_then, builds_accepted, holds_after, builds_after}
use Rattle.redodb_board.specs.Core.{Line}
use Rattle.redodb_board.specs.Plays.{by_number}

module _ (order other : ℕ → ℕ → Ordering) where
  held_then : (x : Command ℕ) (reply : Reply ℕ) (t : ℕ) (held : Bool)
      → holds_then (numbers order) x reply t held ≡ holds_then (numbers other) x reply t held
  held_then (Lock u) reply t held = refl
  held_then (Unlock u) reply t held = refl
  held_then x reply t held = refl

  built_accepted : (x : Command ℕ) (t : ℕ) (building : Bool)
      → builds_accepted (numbers order) x t building ≡ builds_accepted (numbers other) x t building
  built_accepted (Start u) t building = refl
  built_accepted (Done u stamp) t building = refl
  built_accepted (Failed u) t building = refl
  built_accepted x t building = refl

  built_then : (x : Command ℕ) (reply : Reply ℕ) (t : ℕ) (building : Bool)
      → builds_then (numbers order) x reply t building
      ≡ builds_then (numbers other) x reply t building
  built_then x reply t building =
      ap (λ b. Rattle.std.specs.Prelude.cond
      (Rattle.redodb_model.specs.Closing.is_okay reply) b building)
      (built_accepted x t building)

  held_after : (t : ℕ) (held : Bool) (lines : List (histories.Line ℕ))
      → holds_after (numbers order) t held lines ≡ holds_after (numbers other) t held lines
  held_after t held [] = refl
  held_after t held (line ∷ lines) =
      held_after t (holds_then (numbers order) line.command line.reply t held) lines
      ∙ ap (λ b. holds_after (numbers other) t b lines)
      (held_then line.command line.reply t held)

  built_after : (t : ℕ) (building : Bool) (lines : List (histories.Line ℕ))
      → builds_after (numbers order) t building lines
      ≡ builds_after (numbers other) t building lines
  built_after t building [] = refl
  built_after t building (line ∷ lines) =
      built_after t (builds_then (numbers order) line.command line.reply t building) lines
      ∙ ap (λ b. builds_after (numbers other) t b lines)
      (built_then line.command line.reply t building)

pub holds_alike : (order : ℕ → ℕ → Ordering) (own : List Line) (t : ℕ)
    → holds by_number (map line_of own) t ≡ holds (numbers order) (map line_of own) t
holds_alike order own t = held_after by_number.order order t false (map line_of own)

pub builds_alike : (order : ℕ → ℕ → Ordering) (own : List Line) (t : ℕ)
    → builds by_number (map line_of own) t ≡ builds (numbers order) (map line_of own) t
builds_alike order own t = built_after by_number.order order t false (map line_of own)
