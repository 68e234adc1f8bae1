-- A line makes at most 65 names known.
use Rattle.std.proofs.Common.{◌+◌, ◌≤◌, ℕ, Bool, true, false, if◌then◌else◌, List, [], ◌∷◌, ◌++◌, length, length-append, ap, arith}
use Rattle.std.specs.List.{flat_map}
use Rattle.redodb_names.specs.Names.{has, with_name}
use Rattle.redodb_model.specs.Names.{Text}
use Rattle.redodb_model.specs.Command.{Command, names_in, IfChange, IfCreate}
use Rattle.redodb_text.specs.Grammar.{HasForm, AddsNames, with_names}

one_more : (names : List Text) (name : Text) → length (with_name names name) ≤ length names + 1
one_more names name = by (has names name)
  where
    by : (known : Bool)
        → length (if known then names else names ++ name ∷ []) ≤ length names + 1
    by true = omega arith
    by false = omega (arith, length-append names (name ∷ []))

so_many_more : (names more : List Text)
    → length (with_names names more) ≤ length names + length more
so_many_more names [] = omega arith
so_many_more names (name ∷ more) =
    omega (arith, one_more names name, so_many_more (with_name names name) more)

few_in : (command : Command Text) → HasForm command
    → length (flat_map names_in (command ∷ [])) ≤ 65
few_in (IfChange t ns) form = omega (arith, form.1.few, length-append ns [])
few_in (IfCreate t ns) form = omega (arith, form.1.few, length-append ns [])
few_in command form = omega arith

pub few_new : {most : ℕ} (names after : List Text) (command : Command Text) → HasForm command
    → AddsNames most names (command ∷ []) after → length after ≤ length names + 65
few_new names after command form named =
    omega (
      arith,
      ap length named.0,
      so_many_more names (flat_map names_in (command ∷ [])),
      few_in command form,
    )
