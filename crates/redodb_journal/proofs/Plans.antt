-- The script of a session of a plan.
use Rattle.std.proofs.Common.{◌≡◌, ℕ, zero, suc, ◌<◌, ◌≤◌, ◌==◌, false, length, get_or, List, [], ◌∷◌, map, sym, subst, arith}
use Rattle.std.proofs.lemmas.Bool.{false≢true}
use Rattle.std.specs.List.{AllByRecursion}
use Rattle.std.proofs.lemmas.List.{length-map}
use Rattle.redodb_model.specs.Renaming.{IsBelow}
use Rattle.redodb_commands.specs.Support.Meaning.{item_of}
use Rattle.redodb_commands.specs.declared.script.Item.{Item}
use Rattle.redodb_journal.specs.Plans.{AreBelow, scripts_of}

pub some_at : (n : ℕ) → (n == 0) ≡ false → 1 ≤ n
some_at zero e = absurd (false≢true (sym e))
some_at (suc n) e = omega arith

pub below_in : (n : ℕ) (script : List Item) → AreBelow n script
    → AllByRecursion (λ item. IsBelow n item.command) (map item_of script)
below_in n [] all = tt
below_in n (x ∷ xs) all = (all.0, below_in n xs all.1)

pub below_at : (n : ℕ) (scripts : List (List Item)) → AllByRecursion (AreBelow n) scripts
    → (s : ℕ) → AllByRecursion (λ item. IsBelow n item.command) (get_or (scripts_of scripts) s [])
below_at n [] all s = tt
below_at n (x ∷ xs) all zero = below_in n x all.0
below_at n (x ∷ xs) all (suc s) = below_at n xs all.1 s

short_at : (scripts : List (List Item))
    → ((k : ℕ) → k < length scripts → length (get_or scripts k []) ≤ 4096)
    → (s : ℕ) → length (get_or (scripts_of scripts) s []) ≤ 4096
short_at [] each s = omega arith
short_at (x ∷ xs) each zero =
    let a = each 0 (omega arith) in let b = length-map x item_of in omega arith
short_at (x ∷ xs) each (suc s) = short_at xs (λ k within. each (suc k) (omega arith)) s

-- what a loop found of the first n scripts, if there are no more
pub short_of : (items scripts : List (List Item)) (n : ℕ) → items ≡ scripts → length items ≤ n
    → ((k : ℕ) → k < n → length (get_or items k []) ≤ 4096)
    → (s : ℕ) → length (get_or (scripts_of scripts) s []) ≤ 4096
short_of items scripts n same end each =
    subst (λ xs. (s : ℕ) → length (get_or (scripts_of xs) s []) ≤ 4096) same
    (short_at items (λ k within. each k (omega arith)))
