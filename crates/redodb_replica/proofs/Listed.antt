-- Places of pairs on the names that a line lists.
use Rattle.std.proofs.Common.{◌≡◌, ◌∙◌, ℕ, zero, suc, ◌+◌, ◌-◌, ◌<◌, ◌≤◌, Bool, true, false, cond, List, [], ◌∷◌, Option, Some, None, length, get_or, take, drop, refl, sym, ap, subst, arith}
use Rattle.std.specs.Prelude.{slice_get, slice_range, find, is_some, option_map}
use Rattle.std.proofs.lemmas.List.{take_all, length-set, length-take, length-drop, get_or-take, get_or-drop}
use Rattle.std.proofs.lemmas.Option.{slice_get_within, get_or_from_slice_get}
use Rattle.redodb_model.specs.Command as commands
use Rattle.redodb_model.specs.Names.{Text}
use Rattle.redodb_model.specs.Renaming.{AllBelow, IsBelow}
use Rattle.redodb_model.specs.State.{has_file, mark_in, mark_of}
use Rattle.redodb_model.specs.Step.{effect_of}
use Rattle.redodb_records.specs.Rows.{by_number}
use Rattle.redodb_records.proofs.Effects.{change_more, created_more}
use Rattle.redodb_graph.specs.Pairs.{AreAscending}
use Rattle.redodb_graph.specs.declared.step.Listed.{Listed}
use Rattle.redodb_graph.specs.declared.step.Step.{Step}
use Rattle.redodb_graph.specs.declared.step.Step.TheVariants as steps
use Rattle.redodb_graph.specs.Steps.{TablesOf, AreListed, Means}
use Rattle.redodb_replica.specs.declared.mark.Mark.{Mark}
use Rattle.redodb_replica.specs.declared.rows.Row.{Row}
use Rattle.redodb_replica.specs.declared.cell.CompactCell.{CompactCell}
use Rattle.redodb_replica.specs.CompactCells.{cell_of, entry_of, mark_for, cell_at, compact_state_of}
use Rattle.redodb_replica.specs.PairRows.{IsChanged, IsMade, IsPut, rows_of}
use Rattle.redodb_replica.specs.Replicas.{IsStepBelow, records_in}
use Rattle.redodb_replica.specs.Support.Changes.{ArePlacesOf, AreRowsAfter, HavePlaces, IsListReady, IsReady, places_in}
use Rattle.redodb_replica.proofs.Blocks.{once_of}
use Rattle.redodb_replica.proofs.Written.{change_put, created_put}

-- a put keeps the number of rows
pub put_sized : (place : ℕ) (After : Row → Row → Type 0) (old new : List Row)
    → IsPut place After old new → length new ≡ length old
put_sized place After old new written =
    ap length written.2 ∙ length-set old place written.0

-- a search for the first name that passes
module _ (p : ℕ → Bool) where
  find_later : (ns : List ℕ) (i : ℕ) → i < length ns → p (get_or ns i 0) ≡ false
      → find p (drop (suc i) ns) ≡ find p (drop i ns)
  find_later [] i in' fails = absurd (omega (arith, in'))
  find_later (n ∷ ns) zero in' fails = ap (λ b. cond b (Some n) (find p ns)) (sym fails)
  find_later (n ∷ ns) (suc i) in' fails = find_later ns i (omega (arith, in')) fails

  pub find_more : (ns : List ℕ) (i : ℕ) → i < length ns → p (get_or ns i 0) ≡ false
      → find p (drop (i + 1) ns) ≡ find p (drop i ns)
  find_more ns i in' fails =
      let next : i + 1 ≡ suc i = omega arith in
      ap (λ (m : ℕ). find p (drop m ns)) next ∙ find_later ns i in' fails

  pub find_here : (ns : List ℕ) (i : ℕ) → i < length ns → p (get_or ns i 0) ≡ true
      → Some (get_or ns i 0) ≡ find p (drop i ns)
  find_here [] i in' passes = absurd (omega (arith, in'))
  find_here (n ∷ ns) zero in' passes = ap (λ b. cond b (Some n) (find p ns)) (sym passes)
  find_here (n ∷ ns) (suc i) in' passes = find_here ns i (omega (arith, in')) passes

  pub find_none : (ns : List ℕ) (i : ℕ) → length ns ≤ i → None ≡ find p (drop i ns)
  find_none [] zero le = refl
  find_none [] (suc i) le = refl
  find_none (n ∷ ns) zero le = absurd (omega (arith, le))
  find_none (n ∷ ns) (suc i) le = find_none ns i (omega (arith, le))

pub some_map : {X Y : Type 0} (f : X → Y) (o : Option X) → is_some (option_map f o) ≡ is_some o
some_map f None = refl
some_map f (Some x) = refl

-- each of the places is one of a pair
pub place_inside : (pairs : List (ℕ × ℕ)) (count : ℕ) (places : List ℕ) (i : ℕ)
    → HavePlaces pairs count places → i < length places → get_or places i 0 < length pairs
place_inside pairs count places i have below =
    slice_get_within pairs (get_or places i 0) (have.0, get_or have.1 i 0)
    (have.2.each i (omega (arith, below, have.2.count)))

module _ (tables : TablesOf) (t : ℕ) (ns places : List ℕ)
    (are : ArePlacesOf tables.pairs.items t ns places) (i : ℕ) (below : i < length places) where
  at : slice_get tables.pairs.items (get_or places i 0) ≡ Some (t, get_or ns i 0)
  at = are.each i (omega (arith, below, are.count))

  -- the pair that was read has the name of the line
  pub same_name : (p : ℕ × ℕ) → p ≡ get_or tables.pairs.items (get_or places i 0) (0, 0)
      → p.1 ≡ get_or ns i 0
  same_name p read = ap (λ (q : ℕ × ℕ). q.1) (read
      ∙ get_or_from_slice_get tables.pairs.items (get_or places i 0) (t, get_or ns i 0) (0, 0) at)

  -- whether it has a file
  pub file_there : (cells : List CompactCell) (rows : List Row) (p : ℕ × ℕ) (b : Bool)
      → p ≡ get_or tables.pairs.items (get_or places i 0) (0, 0)
      → b ≡ is_some (cell_at cells p.1).file
      → has_file (records_in tables cells rows) (get_or ns i 0) ≡ b
  file_there cells rows p b read is =
      some_map (entry_of tables.stamps) (cell_at cells (get_or ns i 0)).file
      ∙ ap (λ (n : ℕ). is_some (cell_at cells n).file) (sym (same_name p read)) ∙ sym is

  module _ (up : AreAscending tables.pairs.items)
      (cells : List CompactCell) (old before now : List Row)
      (s : ℕ) (sized : length before ≡ length tables.pairs.items) where
    inside : get_or places i 0 < length before
    inside = omega (
      arith,
      sized,
      slice_get_within tables.pairs.items (get_or places i 0) (t, get_or ns i 0) at,
    )

    abbrev always : ℕ → Bool
    always k = (cell_at cells k).always

    pub changed_more : (p : ℕ × ℕ) (mark : Mark)
        → records_in tables cells before
        ≡ effect_of by_number (records_in tables cells old) s (commands.IfChange t (take i ns))
        → p ≡ get_or tables.pairs.items (get_or places i 0) (0, 0)
        → ((stamps digests : List Text) → mark_for stamps digests mark
        ≡ mark_in (compact_state_of (cell_at cells p.1).state)
        (cell_of stamps digests (cell_at cells p.1)))
        → IsPut (get_or places i 0) (IsChanged mark) before now
        → records_in tables cells now ≡ effect_of by_number (records_in tables cells old) s
        (commands.IfChange t (take (i + 1) ns))
    changed_more p mark so_far read marked written =
        change_more (records_in tables cells old) s t ns i (omega (arith, below, are.count))
        (rows_of tables.stamps tables.digests tables.pairs.items before always)
        (rows_of tables.stamps tables.digests tables.pairs.items now always)
        (mark_for tables.stamps tables.digests mark) so_far
        (change_put tables.stamps tables.digests tables.pairs.items before now always
        (get_or places i 0) t (get_or ns i 0) mark (once_of tables.pairs.items up) at inside
        written)
        (marked tables.stamps tables.digests
        ∙ ap (mark_of (records_in tables cells old)) (same_name p read))

    pub made_more : records_in tables cells before
        ≡ effect_of by_number (records_in tables cells old) s (commands.IfCreate t (take i ns))
        → IsPut (get_or places i 0) IsMade before now
        → records_in tables cells now ≡ effect_of by_number (records_in tables cells old) s
        (commands.IfCreate t (take (i + 1) ns))
    made_more so_far written =
        created_more (records_in tables cells old) s t ns i (omega (arith, below, are.count))
        (rows_of tables.stamps tables.digests tables.pairs.items before always)
        (rows_of tables.stamps tables.digests tables.pairs.items now always) so_far
        (created_put tables.stamps tables.digests tables.pairs.items before now always
        (get_or places i 0) t (get_or ns i 0) (once_of tables.pairs.items up) at inside written)

-- all names are done
module _ (tables : TablesOf) (cells : List CompactCell) (old now : List Row) (t : ℕ) (ns : List ℕ)
    (i : ℕ) (all : length ns ≤ i) where
  pub changed_all : AreRowsAfter tables cells old now (commands.IfChange t (take i ns))
      → AreRowsAfter tables cells old now (commands.IfChange t ns)
  changed_all =
      subst (λ (names : List ℕ). AreRowsAfter tables cells old now (commands.IfChange t names))
      (take_all i ns all)

  pub made_all : AreRowsAfter tables cells old now (commands.IfCreate t (take i ns))
      → AreRowsAfter tables cells old now (commands.IfCreate t ns)
  made_all =
      subst (λ (names : List ℕ). AreRowsAfter tables cells old now (commands.IfCreate t names))
      (take_all i ns all)

-- the places that a line's list takes from the table are those of its pairs
pub listed_places : (tables : TablesOf) (t : ℕ) (ns : List ℕ) (list : Listed) (places : List ℕ)
    → places ≡ slice_range tables.listed list.from (list.from + list.len)
    → AreListed tables t ns list → ArePlacesOf tables.pairs.items t ns places
listed_places tables t ns list places is are =
    let from : ℕ = list.from in
    let rest : List ℕ = drop from tables.listed in
    let range : places ≡ take ((from + list.len) - from) rest = is in
    record {
      count = ap length range ∙ omega (
        arith,
        length-take ((from + list.len) - from) rest,
        length-drop from tables.listed,
        are.within,
        are.count,
      );
      each = λ k below.
          let near : k < (from + list.len) - from = omega (arith, below, are.count) in
          let same : get_or places k 0 ≡ get_or tables.listed (from + k) 0 =
          ap (λ (xs : List ℕ). get_or xs k 0) range
          ∙ get_or-take ((from + list.len) - from) rest k 0 near
          ∙ get_or-drop from tables.listed k 0 in
          ap (slice_get tables.pairs.items) same ∙ are.each k below;
    }

-- a step that stands for a command with numbers below the count has its names below it
module _ (tables : TablesOf) (count : ℕ) where
  list_ready : (t : ℕ) (ns : List ℕ) (list : Listed) → AreListed tables t ns list
      → AllBelow count ns → IsListReady tables count list
  list_ready t ns list are below = record {
    within = are.within;
    places = (t, ns, listed_places tables t ns list (places_in tables list) refl are, below);
  }

  ready_of : (step : Step) (x : commands.Command ℕ) → Means tables step x → IsBelow count x
      → IsReady tables count step
  ready_of (steps.File n i) x m b = (subst (IsBelow count) m.1 b).0
  ready_of (steps.Gone n) x m b = (subst (IsBelow count) m b).0
  ready_of (steps.Lock t) x m b = (subst (IsBelow count) m b).0
  ready_of (steps.Unlock t) x m b = (subst (IsBelow count) m b).0
  ready_of (steps.Start t) x m b = (subst (IsBelow count) m b).0
  ready_of (steps.IfChange t list) x m b =
      let all = subst (IsBelow count) m.1 b in
      (all.0, list_ready t m.0 list m.2 all.1)
  ready_of (steps.IfCreate t list) x m b =
      let all = subst (IsBelow count) m.1 b in
      (all.0, list_ready t m.0 list m.2 all.1)
  ready_of (steps.Always t) x m b = (subst (IsBelow count) m b).0
  ready_of (steps.Stamp t i) x m b = (subst (IsBelow count) m.1 b).0
  ready_of (steps.Done t None) x m b = (subst (IsBelow count) m b).0
  ready_of (steps.Done t (Some i)) x m b = (subst (IsBelow count) m.1 b).0
  ready_of (steps.Failed t) x m b = (subst (IsBelow count) m b).0
  ready_of step x m b = tt

  pub ready : (step : Step) → IsStepBelow tables count step → IsReady tables count step
  ready step below = ready_of step below.0 below.1 below.2
