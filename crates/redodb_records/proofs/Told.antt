-- The news of a target's slots, by their places.
use Rattle.std.proofs.Common.{◌≡◌, ◌≢◌, refl, ℕ, ◌<◌, Bool, true, false, List, length, get_or, sym, subst, ◌∙◌, ◌⊎◌, inl, inr, Option, Some, None, IfSome, IsSome, MatchOption, ◌↔◌, IsTrue, not}
use Rattle.std.proofs.lemmas.Bool.{false≢true}
use Rattle.std.proofs.lemmas.Option.{none-some, same_Some}
use Rattle.redodb_model.specs.State.{Cell, Records, Mark}
use Rattle.redodb_model.specs.OutOfDate.{SomeAppeared, SomeChanged}
use Rattle.redodb_records.specs.Rows.{Slot, TargetRows, slot_at, has_slot, target_at, with_rows}
use Rattle.redodb_records.specs.Target.{Ascending}
use Rattle.redodb_records.specs.Support.Target.{blank}
use Rattle.redodb_records.specs.News.{name_of, HasNewsOn, IsNews}
use Rattle.redodb_records.specs.Support.News.{known, HasAppeared, HasChanged, HasNews, SomeNews, IsNewsOf, IsNewsIn}
use Rattle.redodb_records.specs.declared.news.News.{News}
use Rattle.redodb_records.specs.declared.news.News.TheVariants.{Appeared, Changed}
use Rattle.redodb_records.specs.Support.Kept.{has_change, has_created}
use Rattle.redodb_records.proofs.Inverses.{slotted_row}
use Rattle.redodb_records.proofs.Slots.{slot_found, slot_there, slot_named, nothing_stands}

-- the name of a slot has one
pub named_slot : (slots : List Slot) (i : ℕ) (d : Slot) → Ascending slots → i < length slots
    → has_slot slots (get_or slots i d).name ≡ true
named_slot slots i d ascending in' = (slot_found slots i d ascending in').1

-- there are no news without a slot
blank_tells_nothing : (r : Records ℕ) (n : ℕ) → HasNews r (blank n) n → ⊥
blank_tells_nothing r n news = elim news [
  | inl appeared ↦ false≢true appeared.0
  | inr changed ↦ none-some changed.0 changed.1
]

-- if no slot has news there are none
pub no_news : (r : Records ℕ) (slots : List Slot) → Ascending slots
    → ((k : ℕ) (d : Slot) → k < length slots → HasNews r (get_or slots k d) (get_or slots k d).name
    → ⊥)
    → SomeNews r slots → ⊥
no_news r slots ascending none some = at (has_slot slots some.0) refl
  where
    at : (there : Bool) → has_slot slots some.0 ≡ there → ⊥
    at true there =
        let place = slot_there slots some.0 there in
        let found = (slot_found slots place.0 (blank 0) ascending place.1).0 in
        let named : (get_or slots place.0 (blank 0)).name ≡ some.0 = place.2 (blank 0) in
        none place.0 (blank 0) place.1
        (subst (λ slot. HasNews r slot (get_or slots place.0 (blank 0)).name) found
        (subst (λ n. HasNews r (slot_at slots n) n) (sym named) some.1))
    at false none_there =
        blank_tells_nothing r some.0
        (subst (λ slot. HasNews r slot some.0) (nothing_stands slots some.0 none_there) some.1)

-- a row has another mark exactly if the test for this mark fails
pub other_told : (change : Option Mark) (kept mark : Mark) (same : Bool) → change ≡ Some kept
    → IsTrue same ↔ (kept ≡ mark)
    → IsTrue (not same) ↔ ((x : Mark) × (change ≡ Some x) × (x ≢ mark))
other_told change kept mark true e h = (
  λ t. absurd (false≢true t),
  λ other. absurd (other.2 (same_Some other.0 kept (sym other.1 ∙ e) ∙ h.0 refl)),
)
other_told change kept mark false e h =
    (λ t. (kept, e, λ same. false≢true (h.1 same)), λ other. refl)

-- the news of a slot are news of its name
pub news_in : (r : Records ℕ) (slots : List Slot) (i : ℕ) (d : Slot) (news : News)
    → Ascending slots → i < length slots → IsNewsOf r (get_or slots i d) news
    → IsNewsIn r slots news
news_in r slots i d (Appeared n) ascending in' is =
    subst (λ m. HasAppeared r (slot_at slots m) m) (sym is.0)
    (subst (λ slot. HasAppeared r slot (get_or slots i d).name)
    (sym (slot_found slots i d ascending in').0) is.1)
news_in r slots i d (Changed n) ascending in' is =
    subst (λ m. HasChanged r (slot_at slots m) m) (sym is.0)
    (subst (λ slot. HasChanged r slot (get_or slots i d).name)
    (sym (slot_found slots i d ascending in').0) is.1)

-- the news of a target's slots are those of its rows
news_at : (cells : List Cell) (targets : List TargetRows) (t : ℕ) (found : Option News)
    → MatchOption found (SomeNews (known cells) (target_at targets t).slots → ⊥)
    (IsNewsIn (known cells) (target_at targets t).slots)
    → MatchOption found (SomeAppeared (with_rows cells targets) t
    ⊎ SomeChanged (with_rows cells targets) t → ⊥) (IsNews (with_rows cells targets) t)
news_at cells targets t None none = λ some. none (elim some [
  | inl (n, row, file) ↦ (n, inl (row, file))
  | inr (n, mark, row, other) ↦ (n, inr (mark, row, other))
])
news_at cells targets t (Some (Appeared n)) is = is
news_at cells targets t (Some (Changed n)) is = is

-- the same in the terms of the code
pub news_told : (cells : List Cell) (targets : List TargetRows) (t : ℕ) (slots : List Slot)
    (found : Option News) → slots ≡ (target_at targets t).slots
    → MatchOption found (SomeNews (known cells) slots → ⊥) (IsNewsIn (known cells) slots)
    → MatchOption found (SomeAppeared (with_rows cells targets) t
    ⊎ SomeChanged (with_rows cells targets) t → ⊥) (IsNews (with_rows cells targets) t)
news_told cells targets t slots found same told =
    news_at cells targets t found
    (subst (λ ss. MatchOption found (SomeNews (known cells) ss → ⊥) (IsNewsIn (known cells) ss))
    same told)

-- a name with news has a slot
news_slotted : (r : Records ℕ) (slots : List Slot) (news : News) → IsNewsIn r slots news
    → has_slot slots (name_of news) ≡ true
news_slotted r slots (Appeared n) is = slotted_row has_created (λ k. refl) slots n is.0
news_slotted r slots (Changed n) is =
    slotted_row has_change (λ k. refl) slots n (subst IsSome (sym is.1) refl)

-- so it is below a bound on the slots' names
pub news_below : (r : Records ℕ) (slots : List Slot) (count : ℕ) (found : Option News)
    → ((n : ℕ) → has_slot slots n ≡ true → n < count)
    → MatchOption found (SomeNews r slots → ⊥) (IsNewsIn r slots)
    → IfSome found (λ news. name_of news < count)
news_below r slots count None below told = tt
news_below r slots count (Some news) below told =
    below (name_of news) (news_slotted r slots news told)

-- the news of a slot are those of the rows on its name
pub news_on : (cells : List Cell) (targets : List TargetRows) (t n : ℕ) (slot : Slot)
    (told : Bool) → slot ≡ slot_at (target_at targets t).slots n
    → IsTrue told ↔ HasNews (known cells) slot slot.name
    → IsTrue told ↔ HasNewsOn (with_rows cells targets) t n
news_on cells targets t n slot told same is =
    let slots : List Slot = (target_at targets t).slots in
    subst (λ m. IsTrue told ↔ HasNews (known cells) (slot_at slots n) m) (slot_named slots n)
    (subst (λ s. IsTrue told ↔ HasNews (known cells) s s.name) same is)
