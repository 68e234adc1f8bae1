-- Which lines can extend a legal placed history.
use Rattle.std.proofs.Common.{◌≡◌, ℕ, ◌+◌, ◌-◌, ◌/◌, ◌%◌, List, [], map, subst, arith}
use Rattle.std.proofs.lemmas.List.{map_push}
use Rattle.redodb_model.specs.Names.{Naming}
use Rattle.redodb_model.specs.Support.Names.{IsNaming}
use Rattle.redodb_model.specs.State.{empty}
use Rattle.redodb_model.specs.History.{left_by, Legal}
use Rattle.redodb_model.specs.Placed.{Granted, Busy, PlacedLine, line_of, Fits, Follows, part_of, grants_in, releases_in, IsPlaced}
use Rattle.redodb_history_laws.specs.Words.{claim_word_of}
use Rattle.redodb_model.proofs.OneMore.{legal_prefix}
use Rattle.redodb_history_laws.specs.ByRows.{Stands, records_left}
use Rattle.redodb_history_laws.specs.Events.{GoesOnBy}
use Rattle.redodb_history_laws.proofs.Answered.{from_answers}
use Rattle.redodb_history_laws.proofs.Counts.{paired_by}
use Rattle.redodb_history_laws.proofs.EndMore.{tied_by, word_is}
use Rattle.redodb_history_laws.proofs.Orders.{placed_less}

module _ {N : Type 0} {naming : Naming N} (law : IsNaming naming) where
  pub prefix_placed : (lines : List (PlacedLine N)) (line : PlacedLine N)
      → GoesOnBy naming lines line → IsPlaced naming lines
  prefix_placed lines line h = (placed_less naming [] lines line h.0).0

  pub only_so : (lines : List (PlacedLine N)) (line : PlacedLine N) → GoesOnBy naming lines line
      → Fits line.place line.command line.reply × Follows naming lines line.place
      × Stands naming line.place (records_left naming lines) (part_of line.session lines)
      line.session line.command line.reply
  only_so lines line h =
      let placed = placed_less naming [] lines line h.0 in
      let legal =
      legal_prefix naming empty (map line_of lines) (line_of line)
      (subst (Legal naming) (map_push line_of lines line) h.1) in
      let tied = tied_by law lines placed.0 legal.0 in
      let stands =
      from_answers naming (left_by naming empty (map line_of lines)) lines line.session
      line.command line.reply line.place tied placed.1 legal.1 in
      (placed.1, placed.2, stands.0)

  -- a grant comes if the claim word is even
  pub word_at_grant : (lines : List (PlacedLine N)) (t : N) (g : ℕ) → IsPlaced naming lines
      → Follows naming lines (Granted t g)
      → (claim_word_of naming lines t % 2 ≡ 0) × (g ≡ claim_word_of naming lines t / 2 + 1)
  word_at_grant lines t g placed follows =
      let a = word_is naming lines t (paired_by law lines placed) in
      let b : grants_in naming lines t + 1 ≡ g = follows.0 in
      let c : releases_in naming lines t + 1 ≡ g = follows.1 in
      (omega arith, omega arith)

  -- a busy reply and a release come if it is odd
  pub word_at_busy : (lines : List (PlacedLine N)) (t : N) (g : ℕ) → IsPlaced naming lines
      → Follows naming lines (Busy t g)
      → (claim_word_of naming lines t % 2 ≡ 1) × (g ≡ (claim_word_of naming lines t - 1) / 2 + 1)
  word_at_busy lines t g placed follows =
      let a = word_is naming lines t (paired_by law lines placed) in
      let b : grants_in naming lines t ≡ g = follows.0 in
      let c : releases_in naming lines t + 1 ≡ g = follows.1 in
      (omega arith, omega arith)
