-- A step changes the records at its seed.
use Rattle.std.proofs.Common.{◌≡◌, ◌⊎◌, ◌↔◌, ◌∙◌, ℕ, ◌<◌, Bool, true, false, cond, List, [], ◌∷◌, Option, Some, None, IfSome, refl, sym, ap, subst, inl, inr}
use Rattle.std.specs.Prelude.{option_map}
use Rattle.std.specs.List.{Contains}
use Rattle.std.proofs.Math.Path.{fun_ext}
use Rattle.std.proofs.lemmas.Bool.{ne_eqb}
use Rattle.std.proofs.lemmas.Option.{get_or_from_slice_get}
use Rattle.redodb_model.specs.Command.{Command}
use Rattle.redodb_model.specs.Command as commands
use Rattle.redodb_model.specs.Support.OutOfDate.{DifferAt}
use Rattle.redodb_model.specs.Names.{Text, put, by_number}
use Rattle.redodb_model.specs.State.{Cell, Mark, Records}
use Rattle.redodb_model.specs.Step.{effect_of, with_cell}
use Rattle.redodb_model.proofs.Members.{contains_cases, contains_first, contains_none}
use Rattle.redodb_model.proofs.Region.{differ_nowhere}
use Rattle.redodb_memo.specs.Memo.{WasRight}
use Rattle.redodb_memo.proofs.Deriving.{right_but_more}
use Rattle.redodb_graph.specs.declared.step.Step.{Step}
use Rattle.redodb_graph.specs.declared.step.Step.TheVariants as steps
use Rattle.redodb_graph.specs.Steps.{TablesOf, Means}
use Rattle.redodb_replica.specs.declared.rows.Row.{Row}
use Rattle.redodb_replica.specs.declared.cell.CompactCell.{CompactCell}
use Rattle.redodb_replica.specs.CompactCells.{entry_of, cell_at}
use Rattle.redodb_replica.specs.Replicas.{IsStepBelow, records_in}
use Rattle.redodb_replica.specs.Support.Changes.{HasEffect, IsReady}
use Rattle.redodb_replica.specs.Support.Memos.{MemoOf}
use Rattle.redodb_replica.specs.Support.Seeds.{DifferBy, IsSeed, step_seed}
use Rattle.redodb_replica.proofs.Effects.{put_own}

-- a write at a name leaves the others
put_far : {X : Type 0} (n m : ℕ) (x : X) (f : ℕ → X) → (Contains (n ∷ []) m → ⊥)
    → f m ≡ put by_number n x f m
put_far n m x f far =
    let other : n ≡ m → ⊥ = λ e. far (subst (Contains (n ∷ [])) e (contains_first n [])) in
    ap (λ b. cond b x (f m)) (sym (ne_eqb n m other))

module _ (r : Records ℕ) (n : ℕ) where
  differ_by_cell : (c : Cell) → DifferAt (n ∷ []) r (with_cell by_number r n c)
  differ_by_cell c = record {
    cell = λ m far. put_far n m c r.cell far;
    change = λ t m far. refl;
    created = λ t m far. refl;
    always = λ t far. refl;
  }

  differ_by_start : (s : ℕ) → DifferAt (n ∷ []) r (effect_of by_number r s (commands.Start n))
  differ_by_start s = record {
    cell = λ m far. put_far n m _ r.cell far;
    change = λ t m far. ap (λ (f : ℕ → Option Mark). f m) (put_far n t _ r.rows.change far);
    created = λ t m far. ap (λ (f : ℕ → Bool). f m) (put_far n t _ r.rows.created far);
    always = λ t far. put_far n t false r.rows.always far;
  }

  differ_by_changes : (s : ℕ) (names : List ℕ)
      → DifferAt (n ∷ []) r (effect_of by_number r s (commands.IfChange n names))
  differ_by_changes s names = record {
    cell = λ m far. refl;
    change = λ t m far. ap (λ (f : ℕ → Option Mark). f m) (put_far n t _ r.rows.change far);
    created = λ t m far. refl;
    always = λ t far. refl;
  }

  differ_by_created : (s : ℕ) (names : List ℕ)
      → DifferAt (n ∷ []) r (effect_of by_number r s (commands.IfCreate n names))
  differ_by_created s names = record {
    cell = λ m far. refl;
    change = λ t m far. refl;
    created = λ t m far. ap (λ (f : ℕ → Bool). f m) (put_far n t _ r.rows.created far);
    always = λ t far. refl;
  }

  differ_by_always : (s : ℕ) → DifferAt (n ∷ []) r (effect_of by_number r s (commands.Always n))
  differ_by_always s = record {
    cell = λ m far. refl;
    change = λ t m far. refl;
    created = λ t m far. refl;
    always = λ t far. put_far n t true r.rows.always far;
  }

-- the effect of a command that a step stands for
module _ (tables : TablesOf) (r : Records ℕ) (s : ℕ) where
  by_command : (x y : Command ℕ) (seed : Option ℕ) → x ≡ y
      → DifferBy seed r (effect_of by_number r s y) → DifferBy seed r (effect_of by_number r s x)
  by_command x y seed e =
      subst (λ (z : Command ℕ). DifferBy seed r (effect_of by_number r s z)) (sym e)

  pub seed_is : (step : Step) (x : Command ℕ) → Means tables step x
      → DifferBy (step_seed step) r (effect_of by_number r s x)
  seed_is (steps.File n i) x m =
      by_command x (commands.File n m.0) (Some n) m.1 (differ_by_cell r n _)
  seed_is (steps.Gone n) x m = by_command x (commands.Gone n) (Some n) m (differ_by_cell r n _)
  seed_is (steps.Lock t) x m = by_command x (commands.Lock t) None m refl
  seed_is (steps.Unlock t) x m = by_command x (commands.Unlock t) None m refl
  seed_is (steps.Start t) x m = by_command x (commands.Start t) (Some t) m (differ_by_start r t s)
  seed_is (steps.IfChange t list) x m =
      by_command x (commands.IfChange t m.0) (Some t) m.1 (differ_by_changes r t s m.0)
  seed_is (steps.IfCreate t list) x m =
      by_command x (commands.IfCreate t m.0) (Some t) m.1 (differ_by_created r t s m.0)
  seed_is (steps.Always t) x m =
      by_command x (commands.Always t) (Some t) m (differ_by_always r t s)
  seed_is (steps.Stamp t i) x m =
      by_command x (commands.Stamp t m.0) (Some t) m.1 (differ_by_cell r t _)
  seed_is (steps.Done t None) x m =
      by_command x (commands.Done t None) (Some t) m (differ_by_cell r t _)
  seed_is (steps.Done t (Some i)) x m =
      by_command x (commands.Done t (Some m.0)) (Some t) m.1 (differ_by_cell r t _)
  seed_is (steps.Failed t) x m = by_command x (commands.Failed t) (Some t) m (differ_by_cell r t _)
  seed_is steps.Ood x m = by_command x commands.Ood None m refl
  seed_is steps.Targets x m = by_command x commands.Targets None m refl
  seed_is steps.Sources x m = by_command x commands.Sources None m refl

-- the seed of a step with names below the count is below it
pub seed_below : (tables : TablesOf) (count : ℕ) (step : Step) → IsReady tables count step
    → IfSome (step_seed step) (λ n. n < count)
seed_below tables count (steps.File n i) ready = ready
seed_below tables count (steps.Gone n) ready = ready
seed_below tables count (steps.Start t) ready = ready
seed_below tables count (steps.IfChange t list) ready = ready.0
seed_below tables count (steps.IfCreate t list) ready = ready.0
seed_below tables count (steps.Always t) ready = ready
seed_below tables count (steps.Stamp t i) ready = ready
seed_below tables count (steps.Done t stamp) ready = ready
seed_below tables count (steps.Failed t) ready = ready
seed_below tables count step ready = tt

-- a name that gets the file that it has
module _ (tables : TablesOf) (cells : List CompactCell) (rows : List Row) (n : ℕ) where
  same_file : (file : Option Text) → ((records_in tables cells rows).cell n).file ≡ file
      → with_cell by_number (records_in tables cells rows) n
      (record ((records_in tables cells rows).cell n) { file = file })
      ≡ records_in tables cells rows
  same_file file is =
      let r = records_in tables cells rows in
      let own : record (r.cell n) { file = file } ≡ r.cell n =
      λ i. record (r.cell n) { file = sym is i } in
      let known_cells : put by_number n (record (r.cell n) { file = file }) r.cell ≡ r.cell =
      fun_ext (λ k. put_own r.cell n k (record (r.cell n) { file = file }) own) in
      λ i. record { cell = known_cells i; rows = r.rows }

  pub file_repeats : (i s : ℕ) (x : Command ℕ) → (cell_at cells n).file ≡ Some i
      → Means tables (steps.File n i) x
      → effect_of by_number (records_in tables cells rows) s x ≡ records_in tables cells rows
  file_repeats i s x known m =
      let text : entry_of tables.stamps i ≡ m.0 =
      get_or_from_slice_get tables.stamps i m.0 [] m.2 in
      ap (effect_of by_number (records_in tables cells rows) s) m.1
      ∙ same_file (Some m.0) (ap (option_map (entry_of tables.stamps)) known ∙ ap Some text)

  pub gone_repeats : (s : ℕ) (x : Command ℕ) → (cell_at cells n).file ≡ None
      → Means tables (steps.Gone n) x
      → effect_of by_number (records_in tables cells rows) s x ≡ records_in tables cells rows
  gone_repeats s x known m =
      ap (effect_of by_number (records_in tables cells rows) s) m
      ∙ same_file None (ap (option_map (entry_of tables.stamps)) known)

-- a memo that is right but for seeds is so after one more change, but for its seed too
right_but_noted : (seed : Option ℕ) (before after : Records ℕ) (old new : List ℕ) (memo : List Bool)
    → WasRight old memo before → DifferBy seed before after
    → ((n : ℕ) → Contains new n ↔ (Contains old n ⊎ (seed ≡ Some n))) → WasRight new memo after
right_but_noted None before after old new memo was same noted =
    right_but_more {first = old} {second = []} memo (λ n c. (noted n).1 (elim c [
      | inl earlier ↦ inl earlier
      | inr none ↦ absurd (contains_none n none)
    ])) was (subst (DifferAt [] before) (sym same) (differ_nowhere [] before))
right_but_noted (Some m) before after old new memo was differ noted =
    right_but_more {first = old} {second = m ∷ []} memo (λ n c. (noted n).1 (elim c [
      | inl earlier ↦ inl earlier
      | inr one ↦ elim (contains_cases m [] n one) [
        | inl here ↦ inr (ap Some here)
        | inr none ↦ absurd (contains_none n none)
      ]
    ])) was differ

-- a memo whose seeds were noted is right but for these after a step, if the step's seed is too
pub right_but : (tables : TablesOf) (count : ℕ) (step : Step) (old_cells cells : List CompactCell)
    (old_rows rows : List Row) (old new : MemoOf) (s : ℕ) (seed : Option ℕ)
    → IsStepBelow tables count step
    → WasRight old.seeds old.out (records_in tables old_cells old_rows)
    → IsSeed tables step (records_in tables old_cells old_rows) seed
    → HasEffect tables old_cells old_rows cells rows s step → new.out ≡ old.out
    → ((n : ℕ) → Contains new.seeds n ↔ (Contains old.seeds n ⊎ (seed ≡ Some n)))
    → WasRight new.seeds new.out (records_in tables cells rows)
right_but tables count step old_cells cells old_rows rows old new s seed below was is effect out
    noted =
    let before : Records ℕ = records_in tables old_cells old_rows in
    let after : Records ℕ = records_in tables cells rows in
    let differ : DifferBy seed before after =
    subst (DifferBy seed before) (sym (effect below.0 below.1)) (is s below.0 below.1) in
    subst (λ (memo : List Bool). WasRight new.seeds memo after) (sym out)
    (right_but_noted seed before after old.seeds new.seeds old.out was differ noted)
