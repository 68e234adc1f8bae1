-- What is known of numbers is known of the names that they stand for.
use Rattle.std.proofs.Common.{◌≡◌, ◌≤◌, ◌<◌, ℕ, Bool, true, false, List, Option, Some, None, is_some, refl, sym, ◌∙◌, length, arith}
use Rattle.redodb_names.specs.Support.Names.{AreNames}
use Rattle.redodb_model.specs.Names.{text_at}
use Rattle.redodb_model.specs.State.{Mark}
use Rattle.redodb_model.proofs.RecordsByName.{change_at_names, created_at_names}
use Rattle.redodb_records.specs.Rows.{Slot, slot_at}
use Rattle.redodb_database.specs.Tables.{state_of}
use Rattle.redodb_live.specs.Support.LiveState.{LiveState, state_in}
use Rattle.redodb_live.specs.Support.Within.{IsStateWithin}
use Rattle.redodb_live.proofs.Answering.{renaming}

-- a row that can only be on smaller numbers isn't there
no_change : (n m : ℕ) (mark : Option Mark) → (is_some mark ≡ true → m < n) → n ≤ m → mark ≡ None
no_change n m None bound past = refl
no_change n m (Some mark) bound past = let below = bound refl in absurd (omega (arith, below, past))

no_created : (n m : ℕ) (row : Bool) → (row ≡ true → m < n) → n ≤ m → row ≡ false
no_created n m false bound past = refl
no_created n m true bound past = let below = bound refl in absurd (omega (arith, below, past))

-- the slots have the rows of the name with this number, and none on numbers without a name
pub record AreSlotsOf (live : LiveState) (t : ℕ) (slots : List Slot) : Type 0 where
  pub change : (n : ℕ) → n < length live.names → (slot_at slots n).change
      ≡ (state_in live).records.rows.change (text_at live.names t) (text_at live.names n)
  pub created : (n : ℕ) → n < length live.names → (slot_at slots n).created
      ≡ (state_in live).records.rows.created (text_at live.names t) (text_at live.names n)
  pub no_change : (n : ℕ) → length live.names ≤ n → (slot_at slots n).change ≡ None
  pub no_created : (n : ℕ) → length live.names ≤ n → (slot_at slots n).created ≡ false

pub slots_over_names : (live : LiveState) → AreNames live.names
    → IsStateWithin (length live.names) (state_of live.tables) → (t : ℕ) → t < length live.names
    → (slots : List Slot)
    → ((n : ℕ) → (slot_at slots n).change ≡ (state_of live.tables).records.rows.change t n)
    → ((n : ℕ) → (slot_at slots n).created ≡ (state_of live.tables).records.rows.created t n)
    → AreSlotsOf live t slots
slots_over_names live are within t below slots changes createds =
    let r = (state_of live.tables).records in
    record {
      change = λ n named.
          changes n ∙ sym (change_at_names (renaming live.names are) r t n below named);
      created = λ n named.
          createds n ∙ sym (created_at_names (renaming live.names are) r t n below named);
      no_change = λ n past.
          changes n
          ∙ no_change (length live.names) n (r.rows.change t n)
          (λ row. (within.records.changes t n row).1) past;
      no_created = λ n past.
          createds n
          ∙ no_created (length live.names) n (r.rows.created t n)
          (λ row. (within.records.createds t n row).1) past;
    }
