-- A step whose numbers are below a count keeps the records within it.
use Rattle.std.proofs.Common.{◌+◌, ◌≡◌, ℕ, ◌<◌, ◌≤◌, Bool, true, false, cond, ◌||◌, List, [], ◌∷◌, Option, Some, None, is_some, refl, sym, ap, ◌∙◌, subst, inl, inr, arith}
use Rattle.std.proofs.lemmas.Bool.{cases_Bool, false≢true, eqb-true, false_from_ne_true}
use Rattle.std.specs.Prelude.{◌==◌}
use Rattle.std.specs.declared.cmp.Ordering.{Ordering}
use Rattle.sha1.specs.Sha1.{sha1}
use Rattle.redodb_model.specs.Names.{put, numbers}
use Rattle.redodb_model.specs.State.{State, Records, Cell, Building, Built, idle, mark_of, empty}
use Rattle.redodb_model.specs.State as states
use Rattle.redodb_model.specs.Command.{Command, File, Gone, Start, IfChange, IfCreate, Always, Stamp, Done, Failed}
use Rattle.redodb_model.specs.Reply.{Refusal}
use Rattle.redodb_model.specs.Step.{verdict_of, effect_of, after, is_among, unless_refused, holds_target, with_cell}
use Rattle.redodb_model.specs.Renaming.{IsBelow, AllBelow}
use Rattle.redodb_model.specs.Support.Renaming.{IsWithin}

module _ (count : ℕ) (order : ℕ → ℕ → Ordering) where
  among_below : (ns : List ℕ) (m : ℕ) → AllBelow count ns → is_among (numbers order) ns m ≡ true
      → m < count
  among_below [] m below h = absurd (false≢true h)
  among_below (n ∷ ns) m below h = elim (cases_Bool (n == m)) [
    | inl e ↦ subst (λ j. j < count) (eqb-true n m e) below.0
    | inr e ↦ among_below ns m below.1 (sym (ap (λ b. b || is_among (numbers order) ns m) e) ∙ h)
  ]

  -- a row in a row of targets, after one of them was put
  row_put_below : {X : Type 0} (test : X → Bool) (t : ℕ) (row : ℕ → X) (f : ℕ → ℕ → X) → t < count
      → ((m : ℕ) → test (row m) ≡ true → m < count)
      → ((k m : ℕ) → test (f k m) ≡ true → (k < count) × (m < count)) → (k m : ℕ) (b : Bool)
      → (t == k) ≡ b → test ((cond b row (f k)) m) ≡ true → (k < count) × (m < count)
  row_put_below test t row f below of_row of_f k m true e h =
      (subst (λ j. j < count) (eqb-true t k e) below, of_row m h)
  row_put_below test t row f below of_row of_f k m false e h = of_f k m h

  if_some : {X : Type 0} (b : Bool) (x : X) (o : Option X) (P : Type 0) → (b ≡ true → P)
      → (is_some o ≡ true → P) → is_some (cond b (Some x) o) ≡ true → P
  if_some true x o P of_test of_rest h = of_test refl
  if_some false x o P of_test of_rest h = of_rest h

  either_true : (b c : Bool) (P : Type 0) → (b ≡ true → P) → (c ≡ true → P) → (b || c) ≡ true → P
  either_true true c P of_b of_c h = of_b refl
  either_true false c P of_b of_c h = of_c h

  module _ (r : Records ℕ) (within : IsWithin count r) where
    cell_put_past : (t : ℕ) (c : Cell) → t < count → (k : ℕ) → count ≤ k
        → put (numbers order) t c r.cell k ≡ idle
    cell_put_past t c below k past =
        ap (λ b. cond b c (r.cell k)) (false_from_ne_true (t == k)
        (λ e. let same : t ≡ k = eqb-true t k e in absurd (omega arith))) ∙ within.cells k past

    within_with_cell : (t : ℕ) (c : Cell) → t < count
        → IsWithin count (with_cell (numbers order) r t c)
    within_with_cell t c below = record {
      cells = cell_put_past t c below;
      changes = within.changes;
      createds = within.createds;
    }

    within_effect : (s : ℕ) (command : Command ℕ) → IsBelow count command
        → IsWithin count (effect_of (numbers order) r s command)
    within_effect s (File n stamp) below =
        within_with_cell n (record (r.cell n) { file = Some stamp }) below.0
    within_effect s (Gone n) below = within_with_cell n (record (r.cell n) { file = None }) below.0
    within_effect s (Start t) below = record {
      cells = cell_put_past t (record (r.cell t) { state = Building s; digest = None }) below.0;
      changes = λ k m h. row_put_below is_some t (λ n. None) r.rows.change below.0
          (λ j e. absurd (false≢true e)) within.changes k m (t == k) refl h;
      createds = λ k m h. row_put_below (λ b. b) t (λ n. false) r.rows.created below.0
          (λ j e. absurd (false≢true e)) within.createds k m (t == k) refl h;
    }
    within_effect s (IfChange t ns) below = record {
      cells = within.cells;
      changes = λ k m h.
          row_put_below is_some t (λ n. cond (is_among (numbers order) ns n) (Some (mark_of r n))
          (r.rows.change t n)) r.rows.change below.0
          (λ j. if_some (is_among (numbers order) ns j) (mark_of r j) (r.rows.change t j)
          (j < count) (among_below ns j below.1) (λ e. (within.changes t j e).1)) within.changes k m
          (t == k) refl h;
      createds = within.createds;
    }
    within_effect s (IfCreate t ns) below = record {
      cells = within.cells;
      changes = within.changes;
      createds = λ k m h.
          row_put_below (λ b. b) t
          (λ n. is_among (numbers order) ns n || r.rows.created t n) r.rows.created below.0
          (λ j. either_true (is_among (numbers order) ns j) (r.rows.created t j) (j < count)
          (among_below ns j below.1) (λ e. (within.createds t j e).1)) within.createds k m
          (t == k) refl h;
    }
    within_effect s (Always t) below = record {
      cells = within.cells;
      changes = within.changes;
      createds = within.createds;
    }
    within_effect s (Stamp t content) below =
        within_with_cell t (record (r.cell t) { digest = Some (sha1 content) }) below.0
    within_effect s (Done t stamp) below =
        within_with_cell t (record (r.cell t) {
          state = Built;
          builds = (r.cell t).builds + 1;
          file = stamp;
          done = stamp;
        }) below.0
    within_effect s (Failed t) below =
        within_with_cell t (record (r.cell t) { state = states.Failed }) below.0
    within_effect s command below = within

    within_unless : (v : Option (Refusal ℕ)) (new : Records ℕ) → IsWithin count new
        → IsWithin count (unless_refused v r new)
    within_unless None new h = h
    within_unless (Some refusal) new h = within

  pub within_after : (st : State ℕ) (s : ℕ) (command : Command ℕ) → IsWithin count st.records
      → IsBelow count command → IsWithin count (after (numbers order) st s command).records
  within_after st s command within below =
      within_unless st.records within (verdict_of (numbers order) st.records s
      (holds_target st.locks s command) command) (effect_of (numbers order) st.records s command)
      (within_effect st.records within s command below)

pub within_empty : (count : ℕ) → IsWithin count empty.records
within_empty count = record {
  cells = λ k past. refl;
  changes = λ k m h. absurd (false≢true h);
  createds = λ k m h. absurd (false≢true h);
}
