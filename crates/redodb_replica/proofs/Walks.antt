-- Walks over the pairs of a target, and over the pairs on a name.
use Rattle.std.proofs.Common.{◌≡◌, ◌≢◌, ◌⊎◌, ◌↔◌, ◌∙◌, ℕ, ◌+◌, ◌<◌, ◌≤◌, Bool, IsTrue, IsSome, List, Some, length, map, get_or, take, refl, sym, ap, subst, inl, inr, arith}
use Rattle.std.specs.Prelude.{slice_get, AllPairs}
use Rattle.std.specs.List.{Contains}
use Rattle.std.proofs.lemmas.Bool.{cases_lt}
use Rattle.std.proofs.lemmas.List.{get_or_past, get_or-map, length-map, take_all}
use Rattle.std.proofs.lemmas.List.Elements.{Contains-get_or}
use Rattle.std.proofs.lemmas.Option.{slice_get-get_or, slice_get_within, get_or_from_slice_get}
use Rattle.redodb_model.specs.OutOfDate.{IsTarget, HasChangeRow, HasCreatedRow}
use Rattle.redodb_model.proofs.Members.{contains_map}
use Rattle.redodb_memo.specs.NameSet.{Marked, Enters}
use Rattle.redodb_memo.proofs.Marking.{enters_one_more}
use Rattle.redodb_graph.specs.Graphs.{GraphOf, AreNumbers}
use Rattle.redodb_replica.specs.declared.rows.Row.{Row}
use Rattle.redodb_replica.specs.declared.cell.CompactCell.{CompactCell}
use Rattle.redodb_replica.specs.CompactCells.{mark_for}
use Rattle.redodb_replica.specs.PairRows.{IsBlock, bare, change_of, pair_place, row_at}
use Rattle.redodb_replica.specs.Replicas.{records_in}
use Rattle.redodb_replica.specs.Support.Fits.{IsFit}
use Rattle.redodb_replica.proofs.Blocks.{once_of}
use Rattle.redodb_replica.proofs.Listed.{some_map}
use Rattle.redodb_replica.proofs.Places.{place_found, place_first}

-- the numbers of a pair are those of names
pub number_at : (graph : GraphOf) (cells : List CompactCell)
    (rows : List Row) (place : ℕ) (q : ℕ × ℕ)
    → IsFit graph cells rows → place < length graph.tables.pairs.items
    → q ≡ get_or graph.tables.pairs.items place (0, 0) → AreNumbers (length cells) q
number_at graph cells rows place q fit below read =
    fit.linked.below q (subst (Contains graph.tables.pairs.items) (sym read)
    (Contains-get_or graph.tables.pairs.items place (0, 0) below))

-- no row of t at a place between these has P with its name
abbrev pub NoneBetween : List (ℕ × ℕ) → List Row → ℕ → (Row → ℕ → Type 0) → ℕ → ℕ → Type 0
NoneBetween pairs rows t P from to = (n : ℕ) → from ≤ pair_place pairs t n
    → pair_place pairs t n < to → P (row_at rows (pair_place pairs t n)) n → ⊥

module _ (pairs : List (ℕ × ℕ)) (rows : List Row) (t from to : ℕ) (P : Row → ℕ → Type 0) where
  -- nor does the next one
  pub none_more : (place : ℕ) (q : ℕ × ℕ) → place < length pairs
      → q ≡ get_or pairs place (0, 0) → (P (row_at rows place) q.1 → ⊥)
      → NoneBetween pairs rows t P from place → NoneBetween pairs rows t P from (place + 1)
  none_more place q below read off before n low less has =
      elim (cases_lt (pair_place pairs t n) place) [
        | inl lt ↦ before n low lt has
        | inr le ↦
            let here : pair_place pairs t n ≡ place = omega (arith, less, le) in
            let at : get_or pairs place (0, 0) ≡ (t, n) =
            ap (λ i. get_or pairs i (0, 0)) (sym here)
            ∙ place_found pairs t n (0, 0) (omega (arith, here, below)) in
            let name : n ≡ q.1 = ap (λ (p : ℕ × ℕ). p.1) (sym (read ∙ at)) in
            off (subst (P (row_at rows place)) name (subst (λ i. P (row_at rows i) n) here has))
      ]

  module _ (block : IsBlock pairs t from to) where
    -- one that has P is of t on some name
    pub row_found : (place : ℕ) (q : ℕ × ℕ) → AllPairs ◌≢◌ pairs → place < length pairs
        → from ≤ place → place < to → q ≡ get_or pairs place (0, 0) → P (row_at rows place) q.1
        → (n : ℕ) × P (row_at rows (pair_place pairs t n)) n
    row_found place q once below low less read has =
        let at : slice_get pairs place ≡ Some q =
        slice_get-get_or pairs place (0, 0) below ∙ ap Some (sym read) in
        let own : q.0 ≡ t = (block place q.0 q.1 at).1 (low, less) in
        let there : place ≡ pair_place pairs t q.1 =
        sym (place_first pairs t q.1 place once (at ∙ ap (λ (u : ℕ). Some (u, q.1)) own)) in
        (q.1, subst (λ i. P (row_at rows i) q.1) there has)

    -- if none up to the end has P, there is none
    pub none_found : (place : ℕ) → length rows ≡ length pairs → ((n : ℕ) → P bare n → ⊥)
        → to ≤ place → NoneBetween pairs rows t P from place
        → ((n : ℕ) × P (row_at rows (pair_place pairs t n)) n) → ⊥
    none_found place sized nothing past none w =
        let n : ℕ = w.0 in
        elim (cases_lt (pair_place pairs t n) (length pairs)) [
          | inl lt ↦
              let at : slice_get pairs (pair_place pairs t n) ≡ Some (t, n) =
              slice_get-get_or pairs (pair_place pairs t n) (0, 0) lt
              ∙ ap Some (place_found pairs t n (0, 0) lt) in
              let within = (block (pair_place pairs t n) t n at).0 refl in
              none n within.0 (omega (arith, within.1, past)) w.1
          | inr le ↦
              let empty : row_at rows (pair_place pairs t n) ≡ bare =
              get_or_past rows (pair_place pairs t n) bare (omega (arith, le, sized)) in
              nothing n (subst (λ row. P row n) empty w.1)
        ]

-- the target of the pair at the place of an entry of a name's list
abbrev target_at : List (ℕ × ℕ) → ℕ × ℕ → ℕ
target_at pairs q = (get_or pairs q.1 (0, 0)).0

abbrev pub targets_on : List (ℕ × ℕ) → List (ℕ × ℕ) → List ℕ
targets_on pairs list = map (target_at pairs) list

-- it is a target, and its row on n has P
abbrev pub Holds : GraphOf → List CompactCell → List Row → ℕ → (Row → Type 0) → ℕ → Type 0
Holds graph cells rows n P t = IsTarget (records_in graph.tables cells rows) t
    × P (row_at rows (pair_place graph.tables.pairs.items t n))

module _ (graph : GraphOf) (cells : List CompactCell)
    (rows : List Row) (fit : IsFit graph cells rows)
    (n : ℕ) (list : List (ℕ × ℕ))
    (those : (p : ℕ × ℕ) → Contains list p ↔ (Contains graph.on.items p × (p.0 ≡ n))) where
  abbrev pairs : List (ℕ × ℕ)
  pairs = graph.tables.pairs.items

  -- an entry has the place of a pair on n
  on_pair : (q : ℕ × ℕ) → Contains list q
      → slice_get pairs q.1 ≡ Some (target_at pairs q, n)
  on_pair q c =
      let on = (those q).0 c in
      let is = (fit.linked.pairs_on q.0 q.1).0 on.0 in
      let first : is.0 ≡ target_at pairs q =
      ap (λ (p : ℕ × ℕ). p.0) (sym (get_or_from_slice_get pairs q.1 (is.0, q.0) (0, 0) is.1)) in
      is.1 ∙ ap (λ (u : ℕ). Some (u, q.0)) first ∙ ap (λ (m : ℕ). Some (target_at pairs q, m)) on.1

  pub place_within : (k : ℕ) → k < length list → (get_or list k (0, 0)).1 < length pairs
  place_within k below =
      let q : ℕ × ℕ = get_or list k (0, 0) in
      slice_get_within pairs q.1 (target_at pairs q, n)
      (on_pair q (Contains-get_or list k (0, 0) below))

  pub target_within : (k : ℕ) (read : List (ℕ × ℕ)) → k < length list → read ≡ pairs
      → (get_or read (get_or list k (0, 0)).1 (0, 0)).0 < length cells
  target_within k read below same =
      let place : ℕ = (get_or list k (0, 0)).1 in
      (number_at graph cells rows place (get_or read place (0, 0)) fit (place_within k below)
      (ap (λ (ps : List (ℕ × ℕ)). get_or ps place (0, 0)) same)).0

  module _ (P : Row → Type 0) where
    -- a target whose row on n has P has an entry
    all_on : (P bare → ⊥) → (t : ℕ) → P (row_at rows (pair_place pairs t n))
        → Contains (targets_on pairs list) t
    all_on nothing t has =
        let place : ℕ = pair_place pairs t n in
        elim (cases_lt place (length pairs)) [
          | inl lt ↦
              let found : get_or pairs place (0, 0) ≡ (t, n) = place_found pairs t n (0, 0) lt in
              let at : slice_get pairs place ≡ Some (t, n) =
              slice_get-get_or pairs place (0, 0) lt ∙ ap Some found in
              let listed : Contains list (n, place) =
              (those (n, place)).1 ((fit.linked.pairs_on n place).1 (t, at), refl) in
              subst (Contains (targets_on pairs list)) (ap (λ (p : ℕ × ℕ). p.0) found)
              (contains_map (target_at pairs) list (n, place) listed)
          | inr le ↦
              let empty : row_at rows place ≡ bare =
              get_or_past rows place bare (omega (arith, le, fit.sized.pairs)) in
              absurd (nothing (subst P empty has))
        ]

    -- the target of one more entry enters, if its row has P
    pub on_more : (k t place : ℕ) (due : Bool) {a b c : Marked} → k < length list
        → place ≡ (get_or list k (0, 0)).1 → t ≡ (get_or pairs place (0, 0)).0
        → (IsTrue due ↔ (IsTarget (records_in graph.tables cells rows) t × P (row_at rows place)))
        → Enters (λ u. Holds graph cells rows n P u
        × Contains (take k (targets_on pairs list)) u) a b
        → Enters (λ u. IsTrue due × (u ≡ t)) b c
        → Enters (λ u. Holds graph cells rows n P u
        × Contains (take (k + 1) (targets_on pairs list)) u) a c
    on_more k t place due {b = b} {c = c} below at target is before step =
        let q : ℕ × ℕ = get_or list k (0, 0) in
        let pair : slice_get pairs q.1 ≡ Some (target_at pairs q, n) =
        on_pair q (Contains-get_or list k (0, 0) below) in
        let own : t ≡ target_at pairs q = target ∙ ap (λ i. (get_or pairs i (0, 0)).0) at in
        let same : t ≡ get_or (targets_on pairs list) k 0 =
        own ∙ sym (get_or-map (target_at pairs) list k (0, 0) 0 below) in
        let there : place ≡ pair_place pairs t n =
        at ∙ sym (place_first pairs t n q.1 (once_of pairs fit.linked.one_pair)
        (pair ∙ ap (λ (u : ℕ). Some (u, n)) (sym own))) in
        enters_one_more (Holds graph cells rows n P) (targets_on pairs list) k 0 due
        (omega (arith, length-map list (target_at pairs), below)) (
          λ h.
              let w = is.0 h in
              subst (Holds graph cells rows n P) same
              (w.0, subst (λ i. P (row_at rows i)) there w.1),
          λ h.
              let w = subst (Holds graph cells rows n P) (sym same) h in
              is.1 (w.0, subst (λ i. P (row_at rows i)) (sym there) w.1),
        ) before (subst (λ m. Enters (λ u. IsTrue due × (u ≡ m)) b c) same step)

    -- all entries are done
    pub on_all : (Q : ℕ → Type 0) (k : ℕ) {a b : Marked} → (P bare → ⊥)
        → ((t : ℕ) → Q t ↔ Holds graph cells rows n P t) → length list ≤ k
        → Enters (λ u. Holds graph cells rows n P u
        × Contains (take k (targets_on pairs list)) u) a b
        → Enters Q a b
    on_all Q k nothing is past e =
        let whole : take k (targets_on pairs list) ≡ targets_on pairs list =
        take_all k (targets_on pairs list)
        (omega (arith, length-map list (target_at pairs), past)) in
        record {
          grown = e.grown;
          each = λ t. (
            λ on. elim ((e.each t).0 on) [
              | inl old ↦ inl old
              | inr w ↦ inr ((is t).1 w.0)
            ],
            λ s. (e.each t).1 (elim s [
              | inl old ↦ inl old
              | inr q ↦
                  let holds = (is t).0 q in
                  let listed = all_on nothing t holds.1 in
                  inr (holds, subst (λ (us : List ℕ). Contains us t) (sym whole) listed)
            ]),
          );
        }

module _ (graph : GraphOf) (cells : List CompactCell) (rows : List Row) (n t : ℕ) where
  abbrev own : Row
  own = row_at rows (pair_place graph.tables.pairs.items t n)

  pub change_is : HasChangeRow (records_in graph.tables cells rows) t n ↔ IsSome (change_of own)
  change_is =
      let same = some_map (mark_for graph.tables.stamps graph.tables.digests) (change_of own) in
      (λ has. sym same ∙ has, λ has. same ∙ has)

  -- what has a row on n, by the rows at the pairs' places
  pub has_row_is : (created : Bool)
      → (IsTarget (records_in graph.tables cells rows) t
      × (HasChangeRow (records_in graph.tables cells rows) t n
      ⊎ (IsTrue created × HasCreatedRow (records_in graph.tables cells rows) t n)))
      ↔ Holds graph cells rows n
      (λ row. IsSome (change_of row) ⊎ (IsTrue created × IsTrue row.created)) t
  has_row_is created = (
    λ d. (d.0, elim d.1 [ inl change ↦ inl (change_is.0 change) | inr made ↦ inr made ]),
    λ h. (h.0, elim h.1 [ inl change ↦ inl (change_is.1 change) | inr made ↦ inr made ]),
  )

-- the same names under another fact
pub enters_alike : {P Q : ℕ → Type 0} {a b : Marked} → ((t : ℕ) → P t ↔ Q t) → Enters P a b
    → Enters Q a b
enters_alike same e = record {
  grown = e.grown;
  each = λ t. (
    λ on. elim ((e.each t).0 on) [ inl old ↦ inl old | inr p ↦ inr ((same t).0 p) ],
    λ s. (e.each t).1 (elim s [ inl old ↦ inl old | inr q ↦ inr ((same t).1 q) ]),
  );
}
