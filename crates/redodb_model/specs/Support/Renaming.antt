-- The same under other names. A renaming gives each number below `count` a name of its own: `name
-- k`, and `number t` is the number whose name is t, if there is one.
use Rattle.std.specs.Prelude.{◌≡◌, ℕ, ◌<◌, ◌≤◌, false, List, [], Option, Some, None, IsSome, IsTrue, length, bytes_eq, slice_index_or}
use Rattle.std.specs.List.{position}
use Rattle.std.specs.declared.cmp.Ordering.{Ordering}
use Rattle.redodb_model.specs.Names.{Text, Naming}
use Rattle.redodb_model.specs.State.{Records, Rows, Locks, State, idle}

pub record Renaming (M : Type 0) : Type 0 where
  pub count : ℕ
  pub name : ℕ → M
  pub number : M → Option ℕ

-- each number below the count has a name of its own, and nothing else has a number
pub record IsRenaming {M : Type 0} (to : Renaming M) : Type 0 where
  pub back : (k : ℕ) → k < to.count → to.number (to.name k) ≡ Some k
  pub below : (t : M) (k : ℕ) → to.number t ≡ Some k → k < to.count
  pub forth : (t : M) (k : ℕ) → to.number t ≡ Some k → to.name k ≡ t

-- the numbers are ordered as their names are
pub record OrdersAlike {M : Type 0} (to : Renaming M) (naming : Naming M)
    (order : ℕ → ℕ → Ordering) : Type 0 where
  pub alike : (k m : ℕ) → k < to.count → m < to.count
      → order k m ≡ naming.order (to.name k) (to.name m)

-- the value of f at a number, and d if there is none
abbrev pub value_at : {X : Type 0} → X → (ℕ → X) → Option ℕ → X
value_at d f None = d
value_at d f (Some k) = f k

module _ {M : Type 0} (to : Renaming M) where
  abbrev pub named_rows : Rows ℕ → Rows M
  named_rows rows = record {
    change = λ t. value_at (λ n. None) (λ k n. value_at None (rows.change k) (to.number n))
        (to.number t);
    created = λ t. value_at (λ n. false) (λ k n. value_at false (rows.created k) (to.number n))
        (to.number t);
    always = λ t. value_at false rows.always (to.number t);
  }

  abbrev pub named_records : Records ℕ → Records M
  named_records r = record {
    cell = λ t. value_at idle r.cell (to.number t);
    rows = named_rows r.rows;
  }

  abbrev pub named_locks : Locks ℕ → Locks M
  named_locks locks = record {
    holder = λ t. value_at None locks.holder (to.number t);
    grants = λ t. value_at 0 locks.grants (to.number t);
  }

  -- the state in which each name has what its number has
  abbrev pub named_state : State ℕ → State M
  named_state st = record { records = named_records st.records; locks = named_locks st.locks }

-- the records contain only numbers below n
pub record IsWithin (n : ℕ) (r : Records ℕ) : Type 0 where
  pub cells : (k : ℕ) → n ≤ k → r.cell k ≡ idle
  pub changes : (k m : ℕ) → IsSome (r.rows.change k m) → (k < n) × (m < n)
  pub createds : (k m : ℕ) → IsTrue (r.rows.created k m) → (k < n) × (m < n)

-- the renaming that a list of distinct texts makes: each number is the place of its name
abbrev pub numbering : List Text → Renaming Text
numbering names = record {
  count = length names;
  name = λ k. slice_index_or names k [];
  number = λ t. position (bytes_eq t) names;
}
