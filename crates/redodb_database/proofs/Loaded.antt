-- A database made from its parts: its memo was right for the empty records, which differ at all
-- numbers.
use Rattle.std.proofs.Common.{◌≡◌, ◌↔◌, ℕ, ◌<◌, ◌≤◌, List, length, sym, ap, inl, inr, arith}
use Rattle.std.specs.List.{Contains, range_with_len}
use Rattle.std.proofs.lemmas.Bool.{cases_lt}
use Rattle.std.proofs.lemmas.List.{get_or_past}
use Rattle.std.proofs.lemmas.List.FromFn.{length-range_with_len, get_or-range_with_len}
use Rattle.redodb_model.specs.State.{Cell, empty, idle}
use Rattle.redodb_model.specs.Support.OutOfDate.{DifferAt}
use Rattle.redodb_records.specs.Rows.{TargetRows, bare, rows_count, slot_at, target_at, with_rows}

-- the numbers of the range are those below the count
pub range_members : (count n : ℕ) → Contains (range_with_len 0 count) n ↔ (n < count)
range_members count n = (
  λ c.
      let in' : c.0 < count = omega (arith, c.1, length-range_with_len 0 count) in
      omega (arith, c.2, get_or-range_with_len 0 count c.0 n in'),
  λ below. (
    n,
    omega (arith, length-range_with_len 0 count),
    omega (arith, get_or-range_with_len 0 count n n below),
  ),
)

module _ (cells : List Cell) (targets : List TargetRows) (xs : List ℕ)
    (all : (n : ℕ) → n < length cells → Contains xs n) (sized : rows_count targets ≡ length cells)
  where
    -- a number that isn't listed is not below the count
    past_all : (n : ℕ) → (Contains xs n → ⊥) → length cells ≤ n
    past_all n far = elim (cases_lt n (length cells)) [
      | inl below ↦ absurd (far (all n below))
      | inr past ↦ past
    ]

    bare_past : (t : ℕ) → (Contains xs t → ⊥) → target_at targets t ≡ bare
    bare_past t far =
        let past = past_all t far in get_or_past targets t bare (omega (arith, past, sized))

    pub differ_at_all : DifferAt xs empty.records (with_rows cells targets)
    differ_at_all = record {
      cell = λ n far. sym (get_or_past cells n idle (past_all n far));
      change = λ t n far.
          sym (ap (λ (target : TargetRows). (slot_at target.slots n).change) (bare_past t far));
      created = λ t n far.
          sym (ap (λ (target : TargetRows). (slot_at target.slots n).created) (bare_past t far));
      always = λ t far. sym (ap (λ (target : TargetRows). target.always) (bare_past t far));
    }
