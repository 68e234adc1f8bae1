-- What the seat of one session knows of its lines: a legal history has them.
use Rattle.std.proofs.Common.{◌≡◌, ℕ, ◌<◌, ◌≤◌, List, [], ◌∷◌, length, Some, refl, sym, ap, ◌∙◌, subst, inl, arith, length-append}
use Rattle.std.specs.List.{AllByRecursion}
use Rattle.redodb_model.specs.Placed.{part_of}
use Rattle.redodb_model.specs.Journals.{Numbered}
use Rattle.redodb_board.specs.Core.{Line, row}
use Rattle.redodb_board.specs.Views.{Part, ViewOf}
use Rattle.redodb_board.specs.Rule.{HasPart, Told}
use Rattle.redodb_board.specs.Plays.{next, own, own_build, own_way}
use Rattle.redodb_board.specs.Support.Plays.{Lone}
use Rattle.redodb_board.specs.Rows.{rows_of}
use Rattle.redodb_board.proofs.Below.{AskBelow}
use Rattle.redodb_board.proofs.OwnLines.{IsOwn, own_told, own_numbers, room_small}
use Rattle.redodb_board.proofs.Parts.{own-part}
use Rattle.redodb_board.proofs.Sound.{sound}
use Rattle.redodb_board.proofs.Told.{way-row}
use Rattle.redodb_board.proofs.Totals.{one_left}

module _ (v : ViewOf) (s : ℕ) (j : List Line) (told : Told v) (lone : Lone v s j) where
  part_is : part_of s told.log ≡ j
  part_is =
      told.fits.own s j (subst (λ (ps : List Part). HasPart ps s j) (sym lone) (inl (refl, refl)))

  -- they are the session's
  pub own_lines : IsOwn v.plan s j
  own_lines =
      subst (IsOwn v.plan s) part_is (own_told v.plan told.plan told.log told.legal s)

  -- they are over the plan's names
  pub lines_below : AskBelow (length v.plan.names) j
  lines_below =
      subst (AskBelow (length v.plan.names)) (own-part v.plan told.log s ∙ part_is)
      ((sound v.plan told.log told.plan told.legal).below s)

  number_less : (n : ℕ) (lines : List Line) → n ≤ 12288
      → AllByRecursion (λ line. line.number < n) lines
      → AllByRecursion (λ line. line.number < 4294967295) lines
  number_less n [] few all = tt
  number_less n (line ∷ lines) few all =
      let here = all.0 in (omega arith, number_less n lines few all.1)

  -- their numbers are small
  pub numbers_small : AllByRecursion (λ line. line.number < 4294967295) j
  numbers_small =
      number_less _ j (room_small v.plan s told.plan) (own_numbers v.plan s j own_lines)

  -- a row is left for what comes next, if that needs one
  pub rows_left : (n : Numbered ℕ) → s < length v.plan.scripts → next v.plan s j ≡ Some n
      → own_way j n.command ≡ row → length v.seen < rows_of v.plan
  rows_left n here is-next in-row =
      let asked = way-row n.command (own j n.command) (own_build j n.command) in-row in
      let left =
      one_left v.plan told.log told.plan told.legal s n here
      (ap (next v.plan s) part_is ∙ is-next) asked
      (ap (λ ls. own_way ls n.command) part_is ∙ in-row) in
      omega (arith, ap length told.fits.seen.1, length-append v.seen told.fits.seen.0)
