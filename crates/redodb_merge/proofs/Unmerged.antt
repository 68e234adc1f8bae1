-- The entries of journals, their lines, and how many are left.
use Rattle.std.proofs.Common.{◌≡◌, ◌≢◌, ℕ, zero, suc, ◌+◌, ◌-◌, ◌<◌, ◌≤◌, List, [], ◌∷◌, refl, sym, ap, ◌∙◌, subst, arith, length, get_or, map, slice_get}
use Rattle.std.specs.Option.{option_map, unwrap_or}
use Rattle.std.proofs.lemmas.List.{get_or_default}
use mathlib.Core.Logic.{dite}
use native.Mathlib.Decide.{ℕ_discrete}
use Rattle.redodb_model.specs.Names.{Naming}
use Rattle.redodb_model.specs.Command as commands
use Rattle.redodb_model.specs.Placed.{PlacedLine}
use Rattle.redodb_model.specs.Journals.{IsJournal}
use Rattle.redodb_commands.specs.declared.script.Item.{Item}
use Rattle.redodb_commands.specs.Support.Meaning.{item_of}
use Rattle.redodb_journal.specs.declared.entry.Entry.{Entry}
use Rattle.redodb_journal.specs.declared.entry.Journal.{Journal}
use Rattle.redodb_journal.specs.Plans.{PlanOf, scripts_of, script_of}
use Rattle.redodb_journal.specs.Journals.{lines_told, told_by, journals_of, naming_of, AreJournals, entries_of}
use Rattle.redodb_merge.specs.Support.Merging.{FitsScript, FitsAt, MisfitsAt, none}

-- the entries of a journal that exists
pub entries_at : (js : List Journal) (s : ℕ) (d : Journal) → s < length js
    → entries_of js s ≡ (get_or js s d).entries.items
entries_at [] s d h = absurd (omega arith)
entries_at (j ∷ js) zero d h = refl
entries_at (j ∷ js) (suc s) d h = entries_at js s d (omega arith)

pub entries_past : (js : List Journal) (s : ℕ) → length js ≤ s → entries_of js s ≡ []
entries_past [] s h = refl
entries_past (j ∷ js) zero h = absurd (omega arith)
entries_past (j ∷ js) (suc s) h = entries_past js s (omega arith)

pub next_below : (P : ℕ → Type 0) (s : ℕ) → ((u : ℕ) → u < s → P u) → P s
    → (u : ℕ) → u < s + 1 → P u
next_below P s below here u h = dite (ℕ_discrete u s)
    (λ q. subst P (sym q) here)
    (λ n. below u (omega arith))

-- how many entries are left
abbrev pub left : (ℕ → ℕ) → List Journal → ℕ
left f [] = 0
left f (j ∷ js) = (length j.entries.items - f 0) + left (λ i. f (suc i)) js

left_same : (f g : ℕ → ℕ) (js : List Journal) → ((i : ℕ) → f i ≡ g i) → left f js ≡ left g js
left_same f g [] h = refl
left_same f g (j ∷ js) h =
    omega (arith, h 0, left_same (λ i. f (suc i)) (λ i. g (suc i)) js (λ i. h (suc i)))

pub left_less : (f g : ℕ → ℕ) (js : List Journal) (s : ℕ) → f s < length (entries_of js s)
    → g s ≡ f s + 1 → ((i : ℕ) → i ≢ s → g i ≡ f i) → left g js < left f js
left_less f g [] s h e n = absurd (omega arith)
left_less f g (j ∷ js) zero h e n =
    let b =
    left_same (λ i. f (suc i)) (λ i. g (suc i)) js (λ i. sym (n (suc i) (λ q. omega arith))) in
    omega arith
left_less f g (j ∷ js) (suc s) h e n =
    let a = n 0 (λ q. omega arith) in
    let b =
    left_less (λ i. f (suc i)) (λ i. g (suc i)) js s h e
    (λ i ne. n (suc i) (λ q. ne (omega arith))) in
    omega arith

-- the script of a session that exists
pub script_at : (scripts : List (List Item)) (s : ℕ) (d : List Item) → s < length scripts
    → get_or (scripts_of scripts) s [] ≡ map item_of (get_or scripts s d)
script_at [] s d h = absurd (omega arith)
script_at (x ∷ xs) zero d h = refl
script_at (x ∷ xs) (suc s) d h = script_at xs s d (omega arith)

-- an index reads the value at its place
module _ (script : List (commands.Item ℕ)) (entries : List Entry) (k : ℕ) (e : Entry)
    (below : k < length entries) (is : e ≡ get_or entries k e) where
  entry_is : e ≡ get_or entries k none
  entry_is = is ∙ get_or_default entries k e none below

  pub fits_here : FitsScript script e → FitsScript script (get_or entries k none)
  fits_here = subst (FitsScript script) entry_is

  pub fits_there : FitsScript script (get_or entries k none) → FitsScript script e
  fits_there = subst (FitsScript script) (sym entry_is)

-- one journal, found among the journals
module _ (scripts : List (List Item)) (js : List Journal) (s : ℕ) (items : List Entry)
    (lines : List Item) (here : entries_of js s ≡ items)
    (script : get_or (scripts_of scripts) s [] ≡ map item_of lines) where
  pub fits_back : ((k : ℕ) → FitsAt (map item_of lines) items k)
      → (k : ℕ) → FitsAt (get_or (scripts_of scripts) s []) (entries_of js s) k
  fits_back h k = subst (λ xs. FitsAt (get_or (scripts_of scripts) s []) xs k) (sym here)
      (subst (λ cs. FitsAt cs items k) (sym script) (h k))

  pub misfit_back : (k : ℕ) → MisfitsAt (map item_of lines) items k
      → MisfitsAt (get_or (scripts_of scripts) s []) (entries_of js s) k
  misfit_back k h = subst (λ xs. MisfitsAt (get_or (scripts_of scripts) s []) xs k) (sym here)
      (subst (λ cs. MisfitsAt cs items k) (sym script) h)

-- the entries of a session's journal
module _ (naming : Naming ℕ) (s : ℕ) (script : List (commands.Item ℕ)) (session : ℕ) where
  session_of : (entries : List Entry)
      → IsJournal naming s script (lines_told session script entries)
      → 0 < length entries → session ≡ s
  session_of [] h more = absurd (omega arith)
  session_of (e ∷ es) h more = h.0

  told_same : (entries : List Entry)
      → IsJournal naming s script (lines_told session script entries)
      → lines_told session script entries ≡ lines_told s script entries
  told_same [] h = refl
  told_same (e ∷ es) h = ap (λ (u : ℕ). lines_told u script (e ∷ es)) h.0

-- the journal at k, if it is that of session s
module _ (naming : Naming ℕ) (script : List (commands.Item ℕ)) (s : ℕ) where
  abbrev told_at : List Journal → ℕ → List (PlacedLine ℕ)
  told_at js k = unwrap_or (option_map (told_by script) (slice_get js k)) []

  told_is_at : (js : List Journal) (k : ℕ) → IsJournal naming s script (told_at js k)
      → told_at js k ≡ lines_told s script (entries_of js k)
  told_is_at [] k h = refl
  told_is_at (j ∷ js) zero h = told_same naming s script j.session j.entries.items h
  told_is_at (j ∷ js) (suc k) h = told_is_at js k h

  session_at : (js : List Journal) (k : ℕ) (d : Journal)
      → IsJournal naming s script (told_at js k)
      → 0 < length (entries_of js k) → (get_or js k d).session ≡ s
  session_at [] k d h more = absurd (omega arith)
  session_at (j ∷ js) zero d h more =
      session_of naming s script j.session j.entries.items h more
  session_at (j ∷ js) (suc k) d h more = session_at js k d h more

module _ (plan : PlanOf) (js : List Journal) (are : AreJournals plan js) (s : ℕ) where
  pub told_is : journals_of plan js s ≡ lines_told s (script_of plan s) (entries_of js s)
  told_is = told_is_at (naming_of plan) (script_of plan s) s js s (are.each s)

  -- the entries are those of the session's journal
  pub journal_is :
      IsJournal (naming_of plan) s (script_of plan s)
      (lines_told s (script_of plan s) (entries_of js s))
  journal_is = subst (IsJournal (naming_of plan) s (script_of plan s)) told_is (are.each s)

  pub session_is : (d : Journal) → 0 < length (entries_of js s) → (get_or js s d).session ≡ s
  session_is d more = session_at (naming_of plan) (script_of plan s) s js s d (are.each s) more
