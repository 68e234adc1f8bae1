-- The names that a session holds are known.
use Rattle.std.proofs.Common.{◌≡◌, ℕ, true, List, [], Option, Some, None, refl}
use Rattle.std.specs.Prelude.{bytes_eq}
use Rattle.std.specs.List.{position}
use Rattle.std.proofs.lemmas.List.Folds.{list_any_at}
use Rattle.std.proofs.lemmas.List.Quantifiers.{position-Some}
use Rattle.redodb_names.specs.Names.{has}
use Rattle.redodb_model.specs.Names.{Text, texts}
use Rattle.redodb_model.specs.State.{Locks}
use Rattle.redodb_model.specs.Support.Ending.{AreHeld}
use Rattle.redodb_model.specs.Support.Renaming.{value_at}
use Rattle.redodb_database.specs.Tables.{state_of}
use Rattle.redodb_history.proofs.KnownNames.{AreKnown, all_members}
use Rattle.redodb_live.specs.Support.LiveState.{LiveState, state_in}

-- a name with a number is among the names
number_has : (names : List Text) (t : Text) (k : ℕ) → position (bytes_eq t) names ≡ Some k
    → has names t ≡ true
number_has names t k e =
    let at = position-Some (bytes_eq t) names k [] e in
    list_any_at (bytes_eq t) names k [] at.0 at.1

held_has : (names : List Text) (locks : Locks ℕ) (t : Text) (s : ℕ) (o : Option ℕ)
    → position (bytes_eq t) names ≡ o → value_at None locks.holder o ≡ Some s
    → has names t ≡ true
held_has names locks t s None is e = absurd cc
held_has names locks t s (Some k) is e = number_has names t k is

-- the names that a session holds were in commands
pub held_are_known : (live : LiveState) (s : ℕ) (ts : List Text)
    → AreHeld texts s (state_in live) ts
    → AreKnown live.names ts
held_are_known live s ts held =
    all_members (λ t. has live.names t ≡ true) ts (λ t there.
    held_has live.names (state_of live.tables).locks t s (position (bytes_eq t) live.names) refl
    ((held.1 t).0 there))
