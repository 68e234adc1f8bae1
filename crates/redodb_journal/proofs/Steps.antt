-- The last entry, and a script's command at a number.
use Rattle.std.proofs.Common.{◌≡◌, ℕ, zero, suc, List, [], ◌∷◌, get_or, slice_get, All, Some, subst}
use Rattle.std.specs.List.{AllByRecursion}
use Rattle.std.proofs.lemmas.Option.{slice_get_within, get_or_from_slice_get}
use Rattle.redodb_model.specs.Command as commands
use Rattle.redodb_model.specs.Command.{Ood, commands_in}
use Rattle.redodb_model.specs.Renaming.{IsBelow}
use Rattle.redodb_journal.specs.declared.entry.Entry.{Entry}

-- what is true of each entry is true of the last
pub of_last : (P : Entry → Type 0) (entries : List Entry) (k : ℕ) (entry : Entry)
    → All P entries → slice_get entries k ≡ Some entry → P entry
of_last P entries k entry all e =
    subst P (get_or_from_slice_get entries k entry entry e)
    (all k entry (slice_get_within entries k entry e))

pub at_below : (n : ℕ) (script : List (commands.Item ℕ)) (number : ℕ)
    → AllByRecursion (λ item. IsBelow n item.command) script
    → IsBelow n (get_or (commands_in script) number Ood)
at_below n [] number below = tt
at_below n (item ∷ script) zero below = below.0
at_below n (item ∷ script) (suc number) below = at_below n script number below.1
