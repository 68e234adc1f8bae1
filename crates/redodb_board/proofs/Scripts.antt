-- The commands of the lines of a script.
use Rattle.std.proofs.Common.{◌≡◌, ℕ, zero, suc, ◌<◌, List, [], ◌∷◌, length, map, get_or, sym, ap, ◌∙◌, subst, arith}
use Rattle.std.specs.List.{AllByRecursion}
use Rattle.std.proofs.lemmas.List.{length-map, get_or-map}
use Rattle.redodb_model.specs.Command.{Item, Ood, commands_in}
use Rattle.redodb_model.specs.Renaming.{IsBelow}
use Rattle.redodb_commands.specs.Meaning.{command_of}
use Rattle.redodb_commands.specs.Support.Meaning.{item_of}
use Rattle.redodb_commands.specs.declared.script.Item as coded
use Rattle.redodb_journal.specs.Plans.{PlanOf, IsPlan, script_of}
use Rattle.redodb_board.specs.Rows.{command}

-- each command of a plan is of the plan's names
pub command_below : (p : PlanOf) (s number : ℕ) → IsPlan p
    → IsBelow (length p.names) (command p s number)
command_below p s number plan = at (script_of p s) number (plan.below s)
  where
    at : (xs : List (Item ℕ)) (number : ℕ)
        → AllByRecursion (λ x. IsBelow (length p.names) x.command) xs
        → IsBelow (length p.names) (get_or (commands_in xs) number Ood)
    at [] number all = tt
    at (x ∷ xs) zero all = all.0
    at (x ∷ xs) (suc number) all = at xs number all.1

-- the command of a line of the code's script
pub command_in : (items : List coded.Item) (script : List (Item ℕ)) (number : ℕ)
    (item : coded.Item)
    → map item_of items ≡ script → number < length items → item ≡ get_or items number item
    → command_of item.command ≡ get_or (commands_in script) number Ood
command_in items script number item same within is =
    let long : number < length (map item_of items) =
    let a = length-map items item_of in omega arith in
    let command : Item ℕ → _ = λ x. x.command in
    subst
    (λ (xs : List (Item ℕ)). command_of item.command ≡ get_or (commands_in xs) number Ood)
    same
    (ap (λ (x : coded.Item). command_of x.command) is
    ∙ ap command (sym (get_or-map item_of items number item (item_of item) within))
    ∙ sym (get_or-map command (map item_of items) number (item_of item) Ood long))
