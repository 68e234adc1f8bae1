-- The names of pairs at some places, and what cells and marks say of names.
use Rattle.std.proofs.Common.{◌≡◌, ◌↔◌, ◌∙◌, ℕ, ◌<◌, Bool, List, length, get_or, refl, sym, ap, subst, inl, inr, arith}
use Rattle.std.specs.Prelude.{is_some}
use Rattle.std.proofs.lemmas.Bool.{cases_lt, false≢true}
use Rattle.std.proofs.lemmas.List.{ext_get_or, get_or-map, get_or_past, length-map}
use Rattle.std.proofs.lemmas.Option.{get_or_from_slice_get}
use Rattle.redodb_model.specs.Names.{numbers}
use Rattle.redodb_model.specs.OutOfDate.{HasFile, IsStale}
use Rattle.redodb_model.specs.Renaming.{AllBelow}
use Rattle.redodb_model.proofs.Listing.{below_at}
use Rattle.redodb_names.specs.Orders.{by_place}
use Rattle.redodb_names.specs.Support.Orders.{AreInOrder}
use Rattle.redodb_names.proofs.Listed.{listed_alike}
use Rattle.redodb_memo.specs.Memo.{IsRight}
use Rattle.redodb_graph.specs.Steps.{TablesOf}
use Rattle.redodb_replica.specs.declared.rows.Row.{Row}
use Rattle.redodb_replica.specs.declared.cell.CompactCell.{CompactCell}
use Rattle.redodb_replica.specs.CompactCells.{entry_of, idle_cell, cell_at}
use Rattle.redodb_replica.specs.Replicas.{records_in}
use Rattle.redodb_replica.specs.Support.Changes.{ArePlacesOf, HavePlaces}
use Rattle.redodb_replica.specs.Support.Lists.{HasFileIn, IsStaleIn, names_on}
use Rattle.redodb_replica.proofs.Listed.{some_map}

-- the names of the pairs at these places
module _ (pairs : List (ℕ × ℕ)) (places : List ℕ) where
  abbrev name : ℕ → ℕ
  name i = (get_or pairs i (0, 0)).1

  pub length-names_on : length (names_on pairs places) ≡ length places
  length-names_on = length-map places name

  pub name_there : (i : ℕ) → i < length places
      → name (get_or places i 0) ≡ get_or (names_on pairs places) i 0
  name_there i in' = sym (get_or-map name places i 0 0 in')

  -- the places of the pairs on these names
  pub names_listed : (t : ℕ) (ns : List ℕ) → ArePlacesOf pairs t ns places
      → names_on pairs places ≡ ns
  names_listed t ns are =
      ext_get_or 0 (names_on pairs places) ns (length-names_on ∙ are.count) (λ i below.
      sym (name_there i (omega (arith, below, length-names_on)))
      ∙ ap (λ (p : ℕ × ℕ). p.1) (get_or_from_slice_get pairs (get_or places i 0)
      (t, get_or ns i 0) (0, 0)
      (are.each i (omega (arith, below, length-names_on, are.count)))))

  pub names_below : (count : ℕ) → HavePlaces pairs count places
      → AllBelow count (names_on pairs places)
  names_below count have =
      subst (AllBelow count) (sym (names_listed have.0 have.1 have.2)) have.3

  pub name_below : (count i : ℕ) → HavePlaces pairs count places → i < length places
      → name (get_or places i 0) < count
  name_below count i have in' =
      subst (λ (n : ℕ). n < count) (sym (name_there i in'))
      (below_at count count (names_on pairs places) i 0 (names_below count have)
      (omega (arith, in', length-names_on)) refl)

-- only a number below the count has a file
pub file_below : (cells : List CompactCell) (n : ℕ) → HasFileIn cells n → n < length cells
file_below cells n h = elim (cases_lt n (length cells)) [
  | inl below ↦ below
  | inr past ↦ absurd (false≢true (sym (ap (λ (s : CompactCell). is_some s.file)
      (get_or_past cells n idle_cell past)) ∙ h))
]

-- names with P in order are those with Q
pub in_order_alike : {sorted : List ℕ} {count : ℕ} {P : ℕ → Type 0} (Q : ℕ → Type 0)
    (names : List ℕ) → ((n : ℕ) → P n ↔ Q n) → AreInOrder sorted count P names
    → AreInOrder sorted count Q names
in_order_alike {sorted} {P = P} Q names same h = record {
  listed = listed_alike (numbers (by_place sorted)) names P Q same h.listed;
  below = h.below;
}

-- what the records say of a name, by its cell and its mark
module _ (tables : TablesOf) (cells : List CompactCell) (rows : List Row) (n : ℕ) where
  pub file_is : HasFileIn cells n ↔ HasFile (records_in tables cells rows) n
  file_is =
      let same = some_map (entry_of tables.stamps) (cell_at cells n).file in
      (λ h. same ∙ h, λ h. sym same ∙ h)

  pub stale_is : (out : List Bool) → IsRight out (records_in tables cells rows)
      → IsStaleIn cells out n ↔ IsStale (records_in tables cells rows) n
  stale_is out right =
      let same = some_map (entry_of tables.stamps) (cell_at cells n).file in (
        λ s. elim s [
          | inl on ↦ inl ((right n).0 on)
          | inr m ↦ inr (m.0, same ∙ m.1)
        ],
        λ s. elim s [
          | inl out' ↦ inl ((right n).1 out')
          | inr m ↦ inr (m.0, sym same ∙ m.1)
        ],
      )
