-- A worker's table agrees with its session's own lines on a command.
use Rattle.std.proofs.Common.{◌≡◌, ℕ, ◌<◌, List, length, map, Option, Some, None, refl, sym, ◌∙◌}
use Rattle.redodb_model.specs.Names.{Text, by_text}
use Rattle.redodb_model.specs.Command.{Command, Lock, Unlock, Start, IfChange, IfCreate, Always, Stamp, Done, Failed, target_of}
use Rattle.redodb_model.specs.Renaming.{IsBelow}
use Rattle.redodb_model.specs.Placed.{line_of}
use Rattle.redodb_journal.specs.Holds.{Says}
use Rattle.redodb_journal.specs.declared.holds.Hold.{Hold}
use Rattle.redodb_board.specs.Core.{Line, way}
use Rattle.redodb_board.specs.Plays.{held_name, built_name, own, own_build, own_way}
use Rattle.redodb_board.specs.Support.Own.{table_holds, table_builds, holds_its_target, way_by}
use Rattle.redodb_board.proofs.Held.{holds_alike, builds_alike}

-- the command's target
at_target : (count : ℕ) (x : Command ℕ) → IsBelow count x → (P : Option ℕ → Type 0) → P None
    → ((t : ℕ) → t < count → P (Some t)) → P (target_of x)
at_target count (Lock t) b P none some = some t b.0
at_target count (Unlock t) b P none some = some t b.0
at_target count (Start t) b P none some = some t b.0
at_target count (IfChange t ns) b P none some = some t b.0
at_target count (IfCreate t ns) b P none some = some t b.0
at_target count (Always t) b P none some = some t b.0
at_target count (Stamp t content) b P none some = some t b.0
at_target count (Done t stamp) b P none some = some t b.0
at_target count (Failed t) b P none some = some t b.0
at_target count x b P none some = none

module _ (names : List Text) (o : List Hold) (ls : List Line) (x : Command ℕ)
    (says : Says names o (map line_of ls)) (below : IsBelow (length names) x) where
  pub has_is : holds_its_target o x ≡ own ls x
  has_is =
      at_target (length names) x below (λ t. table_holds o t ≡ held_name t ls) refl
      (λ t less. says.held t less ∙ sym (holds_alike (by_text names).order ls t))

  pub way_is : way_by o x ≡ own_way ls x
  way_is =
      let builds : table_builds o (target_of x) ≡ own_build ls x =
      at_target (length names) x below (λ t. table_builds o t ≡ built_name t ls) refl
      (λ t less. says.building t less ∙ sym (builds_alike (by_text names).order ls t)) in
      λ i. way x (has_is i) (builds i)
