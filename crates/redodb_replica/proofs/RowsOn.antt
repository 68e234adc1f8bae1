-- The rows of targets on a name, at the places of the pairs on it.
use Rattle.std.proofs.Common.{◌≡◌, ◌↔◌, ◌∙◌, ℕ, ◌<◌, ◌≤◌, List, Some, length, get_or, refl, sym, ap, subst, inl, inr, arith}
use Rattle.std.specs.List.{Contains}
use Rattle.std.specs.Prelude.{is_some}
use Rattle.std.proofs.lemmas.Bool.{cases_lt, false≢true}
use Rattle.std.proofs.lemmas.List.{get_or_default, get_or_past}
use Rattle.std.proofs.lemmas.List.Elements.{Contains-get_or}
use Rattle.std.proofs.lemmas.Option.{slice_get-get_or}
use Rattle.redodb_model.specs.OutOfDate.{HasRow}
use Rattle.redodb_graph.specs.Graphs.{IsOn}
use Rattle.redodb_graph.specs.Pairs.{AreAscending}
use Rattle.redodb_graph.specs.Steps.{TablesOf}
use Rattle.redodb_replica.specs.declared.rows.Row.{Row}
use Rattle.redodb_replica.specs.declared.cell.CompactCell.{CompactCell}
use Rattle.redodb_replica.specs.CompactCells.{mark_for}
use Rattle.redodb_replica.specs.PairRows.{bare, change_of, pair_place, row_at}
use Rattle.redodb_replica.specs.Replicas.{records_in}
use Rattle.redodb_replica.specs.Support.Lists.{HasRowAt}
use Rattle.redodb_replica.proofs.Blocks.{once_of}
use Rattle.redodb_replica.proofs.Listed.{some_map}
use Rattle.redodb_replica.proofs.Places.{place_first, place_found}

-- no pair is past the end
none_past : (rows : List Row) (i : ℕ) → length rows ≤ i → HasRowAt rows i → ⊥
none_past rows i past h =
    let is : row_at rows i ≡ bare = get_or_past rows i bare past in
    elim h [
      | inl change ↦
          false≢true (sym (ap (λ (row : Row). is_some (change_of row)) is) ∙ change)
      | inr created ↦ false≢true (sym (ap (λ (row : Row). row.created) is) ∙ created)
    ]

module _ (tables : TablesOf) (cells : List CompactCell) (rows : List Row) (n : ℕ)
    (up : AreAscending tables.pairs.items) (sized : length rows ≡ length tables.pairs.items)
  where
    abbrev pairs : List (ℕ × ℕ)
    pairs = tables.pairs.items

    -- the rows of a target are at the pair's place
    row_there : (t : ℕ) → HasRow (records_in tables cells rows) t n
        ↔ HasRowAt rows (pair_place pairs t n)
    row_there t =
        let same = some_map (mark_for tables.stamps tables.digests)
        (change_of (row_at rows (pair_place pairs t n))) in (
          λ h. elim h [
            | inl change ↦ inl (sym same ∙ change)
            | inr created ↦ inr created
          ],
          λ h. elim h [
            | inl change ↦ inl (same ∙ change)
            | inr created ↦ inr created
          ],
        )

    pub place_with_row : (t : ℕ) → HasRow (records_in tables cells rows) t n
        → (i : ℕ) × IsOn pairs i n × HasRowAt rows i
    place_with_row t h =
        let i : ℕ = pair_place pairs t n in
        let there : HasRowAt rows i = (row_there t).0 h in
        elim (cases_lt i (length pairs)) [
          | inl below ↦ (
            i,
            (
              t,
              slice_get-get_or pairs i (t, n) below
                  ∙ ap Some (place_found pairs t n (t, n) below),
            ),
            there,
          )
          | inr past ↦ absurd (none_past rows i (omega (arith, past, sized)) there)
        ]

    pub row_of_place : (i : ℕ) → IsOn pairs i n → HasRowAt rows i
        → (t : ℕ) × HasRow (records_in tables cells rows) t n
    row_of_place i on there = (
      on.0,
      (row_there on.0).1
          (subst (HasRowAt rows) (sym (place_first pairs on.0 n i (once_of pairs up) on.1)) there),
    )

-- the places of the pairs on a name
module _ (block on pairs : List (ℕ × ℕ)) (n : ℕ)
    (those : (p : ℕ × ℕ) → Contains block p ↔ (Contains on p × (p.0 ≡ n)))
    (pairs_on : (m i : ℕ) → Contains on (m, i) ↔ IsOn pairs i m) where
  pub is_on : (k : ℕ) → k < length block → IsOn pairs (get_or block k (0, 0)).1 n
  is_on k below =
      let p : ℕ × ℕ = get_or block k (0, 0) in
      let has = (those p).0 (Contains-get_or block k (0, 0) below) in
      subst (IsOn pairs p.1) has.1 ((pairs_on p.0 p.1).0 has.0)

  pub on_there : (i : ℕ) → IsOn pairs i n
      → (k : ℕ) × (k < length block) × ((get_or block k (0, 0)).1 ≡ i)
  on_there i has =
      let c = (those (n, i)).1 ((pairs_on n i).1 has, refl) in (
        c.0,
        c.1,
        ap (λ (p : ℕ × ℕ). p.1) (get_or_default block c.0 (0, 0) (n, i) c.1 ∙ c.2),
      )
