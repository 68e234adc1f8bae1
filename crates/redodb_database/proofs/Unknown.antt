-- Nothing is known of numbers past the end.
use Rattle.std.proofs.Common.{◌≡◌, ℕ, ◌<◌, ◌≤◌, ◌∙◌, true, Option, Some, None, is_some, refl, sym, ap, subst, inl, inr, arith}
use Rattle.std.proofs.lemmas.Bool.{cases_lt, false≢true, false_from_ne_true}
use Rattle.std.proofs.lemmas.List.{get_or_past}
use Rattle.redodb_model.specs.Support.Unknown.{IsUnknown}
use Rattle.redodb_model.specs.Support.Users.{IsUnused}
use Rattle.redodb_model.specs.OutOfDate.{HasFile}
use Rattle.redodb_model.specs.State.{Mark, idle}
use Rattle.redodb_records.specs.Rows.{TargetRows, HasChangeRowOn, HasCreatedRowOn, bare, rows_count, rows_of, slot_at, target_at}
use Rattle.redodb_database.specs.Support.Tables.{AreTables}
use Rattle.redodb_database.specs.Tables.{Tables, locks_of, state_of, tables_count, tables_records}

-- only a number below the count has a file
pub file_below : (t : Tables) (n : ℕ) → HasFile (tables_records t) n → n < tables_count t
file_below t n h = elim (cases_lt n (tables_count t)) [
  | inl l ↦ l
  | inr past ↦
      absurd (false≢true (sym (ap (λ c. is_some c.file) (get_or_past t.cells n idle past)) ∙ h))
]

pub unknown_past : (tables : Tables) → AreTables tables → (n : ℕ) → tables_count tables ≤ n
    → IsUnknown (state_of tables) n
unknown_past tables are n past =
    let bare_there : target_at tables.rows n ≡ bare =
    get_or_past tables.rows n bare (subst (λ k. k ≤ n) (sym are.rows_for_each) past) in
    record {
      cell = get_or_past tables.cells n idle past;
      change = λ m. ap (λ (t : TargetRows). (slot_at t.slots m).change) bare_there;
      created = λ m. ap (λ (t : TargetRows). (slot_at t.slots m).created) bare_there;
      always = ap (λ (t : TargetRows). t.always) bare_there;
      holder = get_or_past tables.holders n None
          (subst (λ k. k ≤ n) (sym are.holder_for_each) past);
    }

-- and its lock was never granted
pub ungranted_past : (tables : Tables) → AreTables tables → (n : ℕ) → tables_count tables ≤ n
    → (locks_of tables).grants n ≡ 0
ungranted_past tables are n past =
    get_or_past tables.grants n 0 (subst (λ k. k ≤ n) (sym are.grants_for_each) past)

none_there : (mark : Option Mark) → (is_some mark ≡ true → ⊥) → mark ≡ None
none_there None off = refl
none_there (Some mark) off = absurd (off refl)

-- no row is on a number past the end, if each is on one below it
pub unused_past : (s : Tables) → rows_count s.rows ≡ tables_count s
    → ((t n : ℕ) → HasChangeRowOn (rows_of s.rows) t n → n < rows_count s.rows)
    → ((t n : ℕ) → HasCreatedRowOn (rows_of s.rows) t n → n < rows_count s.rows) → (n : ℕ)
    → tables_count s ≤ n → IsUnused (tables_records s) n
unused_past s sized changes createds n past =
    let rows = rows_of s.rows in
    record {
      change = λ t. none_there (rows.change t n)
          (λ row. omega (arith, sized, changes t n row, past));
      created = λ t. false_from_ne_true (rows.created t n)
          (λ row. omega (arith, sized, createds t n row, past));
    }
