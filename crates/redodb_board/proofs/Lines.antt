-- The steps of a plan's graph stand for the lines of its scripts.
use Rattle.std.proofs.Common.{◌≡◌, ℕ, zero, suc, ◌<◌, List, [], ◌∷◌, length, get_or, slice_get, Some, subst, arith}
use Rattle.std.specs.List.{AllZip}
use Rattle.std.proofs.lemmas.Option.{get_or_from_slice_get}
use Rattle.std.proofs.lemmas.Slice.Zip.{AllZip-long}
use Rattle.redodb_model.specs.Command.{Item, Ood, commands_in}
use Rattle.redodb_journal.specs.Plans.{PlanOf, script_of}
use Rattle.redodb_graph.specs.declared.step.Step.{Step}
use Rattle.redodb_graph.specs.Graphs.{GraphOf, IsGraphOf}
use Rattle.redodb_graph.specs.Steps.{TablesOf, Means, AllMean}
use Rattle.redodb_board.specs.Rows.{command}

script_steps : (tables : TablesOf) (scripts : List (List (Item ℕ))) (steps : List (List Step))
    (s : ℕ) → AllZip (AllMean tables) scripts steps
    → AllMean tables (get_or scripts s []) (get_or steps s [])
script_steps tables [] [] s all = tt
script_steps tables [] (y ∷ ys) s all = absurd all
script_steps tables (x ∷ xs) [] s all = absurd all
script_steps tables (x ∷ xs) (y ∷ ys) zero all = all.0
script_steps tables (x ∷ xs) (y ∷ ys) (suc s) all = script_steps tables xs ys s all.1

step_at : (tables : TablesOf) (script : List (Item ℕ)) (steps : List Step) (k : ℕ) (d : Step)
    → AllMean tables script steps → k < length script
    → Means tables (get_or steps k d) (get_or (commands_in script) k Ood)
step_at tables [] steps k d all below = absurd (omega (arith, below))
step_at tables (x ∷ xs) [] k d all below = absurd all
step_at tables (x ∷ xs) (y ∷ ys) zero d all below = all.0
step_at tables (x ∷ xs) (y ∷ ys) (suc k) d all below =
    step_at tables xs ys k d all.1 (omega (arith, below))

module _ (p : PlanOf) (g : GraphOf) (is : IsGraphOf p g) (s : ℕ) where
  steps_of_script : AllMean g.tables (script_of p s) (get_or g.steps s [])
  steps_of_script = script_steps g.tables p.scripts g.steps s is.means

  -- each line has a step
  pub steps_long : length (get_or g.steps s []) ≡ length (script_of p s)
  steps_long = AllZip-long _ (script_of p s) (get_or g.steps s []) steps_of_script

  -- which stands for its command
  pub line_means : (k : ℕ) (step : Step) → k < length (script_of p s)
      → slice_get (get_or g.steps s []) k ≡ Some step → Means g.tables step (command p s k)
  line_means k step below at =
      subst (λ (st : Step). Means g.tables st (command p s k))
      (get_or_from_slice_get (get_or g.steps s []) k step step at)
      (step_at g.tables (script_of p s) (get_or g.steps s []) k step steps_of_script below)
