-- What a session had seen in the placed histories that were worked out by hand.
use Rattle.std.proofs.Common.{◌≡◌, ℕ, ap, inl, inr, arith, refl}
use Rattle.redodb_model.specs.Placed.{Place, Row, Granted, Busy, Released, part_of}
use Rattle.redodb_model.specs.Seen.{HasSeen}
use Rattle.redodb_model.specs.Support.Merging.{second_journal, shared}
use Rattle.redodb_history_laws.specs.Worked.{three_rows}

-- the number of a row, or of a grant
abbrev number_in : {N : Type 0} → Place N → ℕ
number_in (Row r) = r
number_in (Granted t g) = g
number_in (Busy t g) = g
number_in (Released t g) = g

pub row_seen : HasSeen (part_of 0 three_rows) (Row 2)
row_seen = (2, omega arith, inr (inr (inl refl)))

pub earlier_row_seen : HasSeen (part_of 0 three_rows) (Row 1)
earlier_row_seen = (2, omega arith, inr (inr (inl refl)))

pub later_row_unseen : HasSeen (part_of 1 three_rows) (Row 2) → ⊥
later_row_unseen (r, below, inl e) = let k : 1 ≡ r = ap number_in e in absurd (omega arith)
later_row_unseen (r, below, inr none) = none

pub grant_seen : HasSeen (second_journal 1) (Granted shared 2)
grant_seen = (2, omega arith, omega arith, inl (inr (inl refl)))

pub earlier_grant_seen : HasSeen (second_journal 1) (Granted shared 1)
earlier_grant_seen = (2, omega arith, omega arith, inl (inr (inl refl)))

pub release_seen : HasSeen (second_journal 1) (Released shared 1)
release_seen = (2, omega arith, omega arith, inl (inr (inl refl)))

pub later_release_unseen : HasSeen (second_journal 1) (Released shared 2) → ⊥
later_release_unseen (g, first, below, inl (inl e)) = cc
later_release_unseen (g, first, below, inl (inr (inl e))) =
    let k : 2 ≡ g = ap number_in e in absurd (omega arith)
later_release_unseen (g, first, below, inl (inr (inr none))) = none
later_release_unseen (g, first, below, inr (inl e)) =
    let k : 1 ≡ g = ap number_in e in absurd (omega arith)
later_release_unseen (g, first, below, inr (inr (inl e))) = cc
later_release_unseen (g, first, below, inr (inr (inr none))) = none
