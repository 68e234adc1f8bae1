-- Reserved memory, and what it leaves.
use Rattle.std.proofs.Common.{◌≡◌, ℕ, Bool, true, false, List, None, sym, ap, ◌∙◌}
use Rattle.std.specs.Prelude.{IsTrue, Contains}
use Rattle.std.specs.List.{list_all}
use Rattle.std.proofs.lemmas.List.Elements.{All-weaker, All-contains_itself}
use Rattle.std.proofs.lemmas.List.Sums.{list_all-from_AllPass}
use Rattle.redodb_model.specs.Command.{Command, Unlock, Start}
use Rattle.redodb_model.specs.Names.{Naming, by_number}
use Rattle.redodb_model.specs.State.{Records}
use Rattle.redodb_model.specs.Step.{verdict_of, effect_of, records_after, unless_refused}
use Rattle.redodb_database.specs.Support.Changes.{HasEffect}
use Rattle.redodb_database.specs.Tables.{Tables, tables_records}

-- a test that is true for each of the names
pub all_of_them : (test : ℕ → Bool) (ns : List ℕ) → ((n : ℕ) → Contains ns n → IsTrue (test n))
    → list_all test ns ≡ true
all_of_them test ns each =
    list_all-from_AllPass test ns
    (All-weaker (Contains ns) (λ n. test n ≡ true) each ns (All-contains_itself ns))

-- a command that is accepted is accepted from a session that holds its target
pub accepted_of_holder : (naming : Naming ℕ) (r : Records ℕ) (s : ℕ) (holds : Bool)
    (command : Command ℕ) → verdict_of naming r s holds command ≡ None
    → verdict_of naming r s true command ≡ None
accepted_of_holder naming r s false (Unlock t) none = cc
accepted_of_holder naming r s false (Start t) none = cc
accepted_of_holder naming r s holds command none = none

-- the effect of an accepted command is what the command leaves
pub changed_accepted : (old new : Tables) (s : ℕ) (holds : Bool) (command : Command ℕ)
    → verdict_of by_number (tables_records old) s holds command ≡ None
    → HasEffect old new s command
    → tables_records new ≡ records_after by_number (tables_records old) s holds command
changed_accepted old new s holds command accepted changed =
    changed
    ∙ ap (λ verdict. unless_refused verdict (tables_records old)
    (effect_of by_number (tables_records old) s command)) (sym accepted)
