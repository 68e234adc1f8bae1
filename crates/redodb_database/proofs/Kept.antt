-- Writes that keep the invariant of the tables.
use Rattle.std.proofs.Common.{◌≡◌, ℕ, zero, suc, ◌<◌, ◌≤◌, ◌+◌, ◌^◌, List, [], ◌∷◌, Option, Some, None, length, get_or, sym, ap, ◌∙◌, subst}
use Rattle.std.proofs.Math.ListN.{set, length-set}
use Rattle.std.proofs.Math.Path.{fun_ext}
use Rattle.std.proofs.lemmas.List.{get_or_default}
use Rattle.redodb_model.specs.Names.{put, by_number}
use Rattle.redodb_model.specs.State.{Cell, idle}
use Rattle.redodb_model.specs.Step.{after, locks_granted}
use Rattle.redodb_model.specs.Command as commands
use Rattle.redodb_records.specs.Rows.{TargetRows, rows_count}
use Rattle.redodb_records.proofs.Effects.{set_is_put}
use Rattle.redodb_database.specs.Support.Tables.{AreTables}
use Rattle.redodb_database.specs.Tables.{Tables, tables_records, locks_of, state_of}

-- what is true at every place still is after a write that keeps it
pub each_set : {X : Type 0} (P : X → Type 0) (xs : List X) (i : ℕ) (x d : X)
    → ((k : ℕ) → P (get_or xs k d)) → P x → (k : ℕ) → P (get_or (set xs i x) k d)
each_set P [] i x d all here k = all k
each_set P (y ∷ ys) zero x d all here zero = here
each_set P (y ∷ ys) zero x d all here (suc k) = all (suc k)
each_set P (y ∷ ys) (suc i) x d all here zero = all zero
each_set P (y ∷ ys) (suc i) x d all here (suc k) = each_set P ys i x d (λ j. all (suc j)) here k

-- a cell with no more builds than calls may be written
pub AreTables-set_cell : (t : Tables) (n : ℕ) (c : Cell) → AreTables t → c.builds ≤ t.calls
    → AreTables (record t { cells = set t.cells n c })
AreTables-set_cell t n c h few =
    let same : length t.cells ≡ length (set t.cells n c) = sym (length-set t.cells n c) in record {
      rows_for_each = h.rows_for_each ∙ same;
      holder_for_each = h.holder_for_each ∙ same;
      grants_for_each = h.grants_for_each ∙ same;
      few_names = subst (λ (m : ℕ). m < 2 ^ 32) same h.few_names;
      few_builds = each_set (λ (y : Cell). y.builds ≤ t.calls) t.cells n c idle h.few_builds few;
      few_grants = h.few_grants;
    }

-- the rows of as many targets may be written
pub AreTables-set_rows : (t : Tables) (to : List TargetRows) → AreTables t
    → rows_count to ≡ rows_count t.rows → AreTables (record t { rows = to })
AreTables-set_rows t to h same = record {
  rows_for_each = same ∙ h.rows_for_each;
  holder_for_each = h.holder_for_each;
  grants_for_each = h.grants_for_each;
  few_names = h.few_names;
  few_builds = h.few_builds;
  few_grants = h.few_grants;
}

-- a free lock is granted: g is the grants that were read
pub granted : (t : Tables) (s n g : ℕ) → n < length t.holders → n < length t.grants
    → get_or t.holders n None ≡ None → g ≡ get_or t.grants n g
    → state_of (record t { holders = set t.holders n (Some s); grants = set t.grants n (g + 1) })
    ≡ after by_number (state_of t) s (commands.Lock n)
granted t s n g has_holder has_grants none count =
    let so_far : g ≡ get_or t.grants n 0 = count ∙ get_or_default t.grants n g 0 has_grants in
    let holders : (λ (k : ℕ). get_or (set t.holders n (Some s)) k None)
    ≡ put by_number n (Some s) (λ k. get_or t.holders k None) =
    fun_ext (set_is_put t.holders n (Some s) None has_holder) in
    let grants : (λ (k : ℕ). get_or (set t.grants n (g + 1)) k 0)
    ≡ put by_number n (get_or t.grants n 0 + 1) (λ k. get_or t.grants k 0) =
    fun_ext (set_is_put t.grants n (g + 1) 0 has_grants)
    ∙ ap (λ (m : ℕ). put by_number n (m + 1) (λ k. get_or t.grants k 0)) so_far
    in
    subst (λ (h : Option ℕ). state_of (record t {
      holders = set t.holders n (Some s);
      grants = set t.grants n (g + 1);
    }) ≡ record {
      records = tables_records t;
      locks = locks_granted by_number h (locks_of t) s n;
    }) (sym none)
    (λ i. record {
      records = tables_records t;
      locks = record { holder = holders i; grants = grants i };
    })
