-- Journals of two sessions that lock one target, and their joint order, worked out by hand.
use Rattle.std.specs.Prelude.{ℕ, zero, suc, List, [], ◌∷◌, codes}
use Rattle.redodb_model.specs.Names.{Text}
use Rattle.redodb_model.specs.Command.{Command, Lock, Unlock}
use Rattle.redodb_model.specs.Reply.{Reply, Okay}
use Rattle.redodb_model.specs.Reply as replies
use Rattle.redodb_model.specs.Placed.{Place, Granted, Busy, Released, PlacedLine}

abbrev pub placed_at : ℕ → ℕ → Command Text → Reply Text → Place Text → PlacedLine Text
placed_at session number command reply place =
    record { session = session; number = number; command = command; reply = reply; place = place }

-- the target
abbrev pub shared : Text
shared = codes "t"

-- the first session locks and unlocks it
abbrev pub first_journal : List (PlacedLine Text)
first_journal =
    placed_at 0 0 (Lock shared) (replies.Granted 1) (Granted shared 1)
    ∷ placed_at 0 1 (Unlock shared) Okay (Released shared 1)
    ∷ []

-- the second finds the g-th grant in force, and locks it later
abbrev pub second_journal : ℕ → List (PlacedLine Text)
second_journal g =
    placed_at 1 0 (Lock shared) (replies.Busy g) (Busy shared g)
    ∷ placed_at 1 1 (Lock shared) (replies.Granted 2) (Granted shared 2)
    ∷ []

abbrev pub two_journals : ℕ → ℕ → List (PlacedLine Text)
two_journals g zero = first_journal
two_journals g (suc zero) = second_journal g
two_journals g (suc (suc s)) = []

-- the one joint order of the two if that was the first grant
abbrev pub merging : List (PlacedLine Text)
merging =
    placed_at 0 0 (Lock shared) (replies.Granted 1) (Granted shared 1)
    ∷ placed_at 1 0 (Lock shared) (replies.Busy 1) (Busy shared 1)
    ∷ placed_at 0 1 (Unlock shared) Okay (Released shared 1)
    ∷ placed_at 1 1 (Lock shared) (replies.Granted 2) (Granted shared 2)
    ∷ []
