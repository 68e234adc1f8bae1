-- The numbers in the lists are below the count.
use Rattle.std.proofs.Common.{◌≡◌, ◌↔◌, ℕ, ◌<◌, Bool, IsTrue, true, List, get_or, length, sym, ap, subst, ◌∙◌, inl, inr, arith}
use Rattle.std.proofs.lemmas.Bool.{cases_lt, false≢true}
use Rattle.std.proofs.lemmas.List.{get_or_past, get_or_default}
use Rattle.std.specs.List.{Contains}
use Rattle.redodb_model.specs.Renaming.{AllBelow}
use Rattle.redodb_model.proofs.Listing.{each_below}
use Rattle.redodb_records.specs.Rows.{Slot, TargetRows, has_slot, target_at, bare}
use Rattle.redodb_records.specs.Numbers.{NumberList}
use Rattle.redodb_records.specs.Support.Kept.{passes_on, IsKept, IsInverse, numbers_at, no_numbers}
use Rattle.redodb_records.proofs.Inverses.{found_target, IsRowTest}

-- only targets have rows
target_below : (test : Slot → Bool) → IsRowTest test → (targets : List TargetRows) (t n : ℕ)
    → passes_on test n (target_at targets t) ≡ true → t < length targets
target_below test blank targets t n row = elim (cases_lt t (length targets)) [
  | inl below ↦ below
  | inr past ↦ absurd (false≢true
      (sym (blank n) ∙ (ap (passes_on test n) (sym (get_or_past targets t bare past)) ∙ row)))
]

-- the same in the terms of the code
pub inverse_below : {targets now : List TargetRows} {lists : List NumberList} {list : NumberList}
    {xs : List ℕ} (test : Slot → Bool) → IsRowTest test → (n : ℕ) → targets ≡ now → n < length now
    → list ≡ get_or lists n list → xs ≡ list.items
    → IsInverse test targets lists → AllBelow (length now) xs
inverse_below {targets} {now} {lists} {list} {xs} test blank n is n_in at items h =
    let name : n < length targets = subst (λ (ts : List TargetRows). n < length ts) (sym is) n_in in
    let inside : n < length lists = omega (arith, name, h.sized) in
    let same : xs ≡ (numbers_at lists n).items =
    items ∙ ap (λ (x : NumberList). x.items) (at ∙ get_or_default lists n list no_numbers inside) in
    subst (λ (ts : List TargetRows). AllBelow (length ts) xs) is
    (each_below (length targets) xs (λ t in'. target_below test blank targets t n
    (((h.each n name).listed t).0 (subst (λ ys. Contains ys t) same in'))))

-- the list of a name has a number if some target has a row on it
pub inverse_some : {targets now : List TargetRows} {lists : List NumberList} {list : NumberList}
    (test : Slot → Bool) (n : ℕ) (some : Bool) → targets ≡ now → n < length now
    → list ≡ get_or lists n list → IsTrue some ↔ ((u : ℕ) × Contains list.items u)
    → IsInverse test targets lists
    → IsTrue some ↔ ((t : ℕ) × IsTrue (passes_on test n (target_at now t)))
inverse_some {targets} {now} {lists} {list} test n some is n_in at has h =
    let name : n < length targets = subst (λ (ts : List TargetRows). n < length ts) (sym is) n_in in
    let inside : n < length lists = omega (arith, name, h.sized) in
    let same : list ≡ numbers_at lists n = at ∙ get_or_default lists n list no_numbers inside in
    let listed : (t : ℕ) → Contains list.items t ↔ IsTrue (passes_on test n (target_at now t)) =
    subst (λ (x : NumberList). (t : ℕ)
    → Contains x.items t ↔ IsTrue (passes_on test n (target_at now t))) (sym same)
    (subst (λ (ts : List TargetRows). (t : ℕ)
    → Contains (numbers_at lists n).items t ↔ IsTrue (passes_on test n (target_at ts t))) is
    (h.each n name).listed) in (
      λ b. let found = has.0 b in (found.0, (listed found.0).0 found.1),
      λ row. has.1 (row.0, (listed row.0).1 row.1),
    )

pub slots_below : {targets now : List TargetRows} {target : TargetRows} {slots : List Slot}
    {needed awaited : List NumberList} {slotted : List ℕ} (t : ℕ) → targets ≡ now → t < length now
    → target ≡ get_or targets t target
    → slots ≡ target.slots → IsKept targets needed awaited slotted → (n : ℕ)
    → has_slot slots n ≡ true → n < length now
slots_below {targets} t is t_in at same h n there =
    let found = found_target t is t_in at in
    let own : has_slot (target_at targets t).slots n ≡ true =
    subst (λ (x : TargetRows). has_slot x.slots n ≡ true) found.1
    (subst (λ ss. has_slot ss n ≡ true) same there) in
    subst (λ (ts : List TargetRows). n < length ts) is (h.below t n own)
