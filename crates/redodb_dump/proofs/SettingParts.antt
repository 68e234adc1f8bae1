-- A database is made by setting what is known of its names, one by one.
use Rattle.std.proofs.Common.{◌≡◌, ℕ, ◌+◌, ◌<◌, ◌≤◌, List, Option, Some, None, length, max, get_or, sym, ap, ◌∙◌, subst, arith, inl, inr}
use Rattle.std.proofs.Math.ListN.{set}
use Rattle.std.proofs.lemmas.List.{get_or-set_other, get_or-set_same, length-set}
use Rattle.std.proofs.lemmas.Bool.{cases_eq}
use Rattle.std.specs.Prelude.{bytes_eq}
use Rattle.std.specs.List.{position}
use Rattle.redodb_model.specs.Names.{Text, text_at}
use Rattle.redodb_model.specs.State.{Cell, State, empty, idle}
use Rattle.redodb_model.specs.Support.Renaming.{named_state, numbering, value_at}
use Rattle.redodb_names.specs.Support.Names.{AreNames}
use Rattle.redodb_live.proofs.Answering.{renaming}
use Rattle.redodb_records.specs.Cells.{cell_at}
use Rattle.redodb_database.proofs.Kept.{each_set}
use Rattle.redodb_database.specs.Support.Parts.{Parts, AreSameButRows, parts_count, state_made}
use Rattle.redodb_dump.specs.Dumps.{HasCountsUpTo, HasSessions}
use Rattle.redodb_dump.specs.Support.Forms.{IsHolder}
use Rattle.redodb_dump.specs.Support.Read.{AreCellsUpTo}
use Rattle.redodb_dump.specs.Support.SetParts.{HasNumbersUpTo, AreSetUpTo}

-- at first no name was set
pub none_set : (parts : Parts) → state_made parts ≡ empty → parts.most ≡ 0 → AreSetUpTo parts 0
none_set parts nothing most = record {
  sessions = λ k. subst IsHolder
      (sym (ap (λ (st : State ℕ). st.locks.holder k) nothing)) tt;
  least = λ bound within. omega (arith, most);
}

module _ (parts : Parts) (n : ℕ) (c : Cell) (holder : Option ℕ) (grants : ℕ) where
  abbrev pub set_parts : Parts
  set_parts = record parts {
    cells = set parts.cells n c;
    holders = set parts.holders n holder;
    grants = set parts.grants n grants;
    most = max (max parts.most c.builds) grants;
  }

  least_bound : AreSetUpTo parts n → n < parts_count parts → n < length parts.grants
      → (most : ℕ) → HasNumbersUpTo (n + 1) (state_made set_parts) most
      → max (max parts.most c.builds) grants ≤ most
  least_bound are below in' most within =
      let builds : c.builds ≤ most =
      subst (λ (d : Cell). d.builds ≤ most) (get_or-set_same parts.cells n c idle below)
      (within.builds n (omega arith)) in
      let granted : grants ≤ most =
      subst (λ g. g ≤ most) (get_or-set_same parts.grants n grants 0 in')
      (within.grants n (omega arith)) in
      let before : parts.most ≤ most =
      are.least most (record {
        builds = λ k less. subst (λ (d : Cell). d.builds ≤ most)
            (get_or-set_other parts.cells n k c idle (λ e. omega (arith, less, e)))
            (within.builds k (omega (arith, less)));
        grants = λ k less. subst (λ (g : ℕ). g ≤ most)
            (get_or-set_other parts.grants n k grants 0 (λ e. omega (arith, less, e)))
            (within.grants k (omega (arith, less)));
      }) in
      omega (arith, builds, granted, before)

  -- one more name is set
  pub set_more : AreSetUpTo parts n → n < parts_count parts → n < length parts.grants
      → IsHolder holder → AreSetUpTo set_parts (n + 1)
  set_more are below in' session = record {
    sessions = each_set IsHolder parts.holders n holder None are.sessions session;
    least = least_bound are below in';
  }

-- one more place is set
set_more_at : {X : Type 0} (xs : List X) (n : ℕ) (x d : X) (f : ℕ → X) → n < length xs
    → ((k : ℕ) → k < n → get_or xs k d ≡ f k) → x ≡ f n
    → (k : ℕ) → k < n + 1 → get_or (set xs n x) k d ≡ f k
set_more_at xs n x d f below before own k less = elim (cases_eq k n) [
  | inl same ↦ subst (λ m. get_or (set xs n x) m d ≡ f m) (sym same)
      (get_or-set_same xs n x d below ∙ own)
  | inr off ↦ get_or-set_other xs n k x d (λ e. omega (arith, off, e))
      ∙ before k (omega (arith, less, off))
]

-- one more name is set as the state says
pub cells_more : (parts : Parts) (n : ℕ) (c : Cell) (holder : Option ℕ) (grants : ℕ)
    (names : List Text) (st : State Text) → AreCellsUpTo names st parts n → n < parts_count parts
    → c ≡ st.records.cell (text_at names n) → grants ≡ st.locks.grants (text_at names n)
    → holder ≡ st.locks.holder (text_at names n)
    → AreCellsUpTo names st (set_parts parts n c holder grants) (n + 1)
cells_more parts n c holder grants names st are below cell granted held =
    let many = length-set parts.cells n c in
    let held_by = length-set parts.holders n holder in
    let counted = length-set parts.grants n grants in
    let sized = are.holder_for_each in
    let sized' = are.grants_for_each in
    record {
      holder_for_each = held_by ∙ sized ∙ sym many;
      grants_for_each = counted ∙ sized' ∙ sym many;
      cells = set_more_at parts.cells n c idle (λ k. st.records.cell (text_at names k)) below
          are.cells cell;
      holders = set_more_at parts.holders n holder None (λ k. st.locks.holder (text_at names k))
          (omega (arith, below, sized)) are.holders held;
      grants = set_more_at parts.grants n grants 0 (λ k. st.locks.grants (text_at names k))
          (omega (arith, below, sized')) are.grants granted;
    }

-- rows don't matter
pub rows_put : (old new : Parts) (count : ℕ) → AreSameButRows old new → AreSetUpTo old count
    → AreSetUpTo new count
rows_put old new count same are = record {
  sessions = λ k. subst (λ (hs : List (Option ℕ)). IsHolder (get_or hs k None))
      (sym same.holders) (are.sessions k);
  least = λ most within. subst (λ m. m ≤ most) (sym same.most) (are.least most (record {
    builds = λ k less. subst (λ (cells : List Cell). (cell_at cells k).builds ≤ most) same.cells
        (within.builds k less);
    grants = λ k less. subst (λ (gs : List ℕ). get_or gs k 0 ≤ most) same.grants
        (within.grants k less);
  }));
}

-- all names are set, and then rows are put
pub all_set : (old set put : Parts) → state_made old ≡ empty → old.most ≡ 0
    → parts_count set ≡ parts_count old → length set.grants ≡ length old.grants
    → length set.grants ≡ parts_count set
    → (length old.grants ≡ parts_count old → AreSetUpTo old 0 → AreSetUpTo set (parts_count set))
    → AreSameButRows set put → AreSetUpTo put (parts_count set)
all_set old set put nothing most count grants sized are same =
    rows_put set put (parts_count set) same
    (are (omega (arith, count, grants, sized)) (none_set old nothing most))

-- by name instead of by number

module _ (names : List Text) (st : State ℕ) where
  abbrev here : State Text
  here = named_state (numbering names) st

  pub sessions_by_name : ((k : ℕ) → IsHolder (st.locks.holder k)) → HasSessions here
  sessions_by_name each name = by (position (bytes_eq name) names)
    where
      by : (at : Option ℕ) → IsHolder (value_at None st.locks.holder at)
      by None = tt
      by (Some k) = each k

  pub counts_by_number : AreNames names → (most : ℕ) → HasCountsUpTo here most
      → HasNumbersUpTo (length names) st most
  counts_by_number are most within = record {
    builds = λ n below. subst (λ (at : Option ℕ). (value_at idle st.records.cell at).builds ≤ most)
        ((renaming names are).back n below) (within.builds (text_at names n));
    grants = λ n below. subst (λ (at : Option ℕ). value_at 0 st.locks.grants at ≤ most)
        ((renaming names are).back n below) (within.grants (text_at names n));
  }
