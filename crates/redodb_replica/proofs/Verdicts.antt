-- The verdict on a step is that on the command that it stands for.
use Rattle.std.proofs.Common.{◌≡◌, ◌∙◌, ℕ, Bool, Option, Some, None, sym, ap}
use Rattle.std.specs.Option.{option_or}
use Rattle.redodb_model.specs.Command.{Command, target_of}
use Rattle.redodb_model.specs.Reply.{Refusal}
use Rattle.redodb_model.specs.State.{Records, target_state}
use Rattle.redodb_model.specs.Step.{verdict_of}
use Rattle.redodb_records.specs.Refusals.{refusal_by_target, refusal_of_names, kind_for}
use Rattle.redodb_records.specs.Rows.{by_number}
use Rattle.redodb_records.proofs.Refusals.{verdict_on_target}
use Rattle.redodb_graph.specs.declared.step.Step.{Step}
use Rattle.redodb_graph.specs.declared.step.Step.TheVariants.{File, Unlock, Start, IfChange, IfCreate, Always, Stamp, Done, Failed}
use Rattle.redodb_graph.specs.Steps.{TablesOf, Means}
use Rattle.redodb_replica.specs.Support.Steps.{step_kind, step_target}

module _ (tables : TablesOf) where
  same_kind : (step : Step) (x : Command ℕ) → Means tables step x → step_kind step ≡ kind_for x
  same_kind (File n i) x m = sym (ap kind_for m.1)
  same_kind (IfChange t list) x m = sym (ap kind_for m.1)
  same_kind (IfCreate t list) x m = sym (ap kind_for m.1)
  same_kind (Stamp t i) x m = sym (ap kind_for m.1)
  same_kind (Done t (Some i)) x m = sym (ap kind_for m.1)
  same_kind step x m = sym (ap kind_for m)

  same_target : (step : Step) (x : Command ℕ) (t : ℕ) → Means tables step x
      → Some t ≡ step_target step → target_of x ≡ Some t
  same_target (Unlock u) x t m on = ap target_of m ∙ sym on
  same_target (Start u) x t m on = ap target_of m ∙ sym on
  same_target (IfChange u list) x t m on = ap target_of m.1 ∙ sym on
  same_target (IfCreate u list) x t m on = ap target_of m.1 ∙ sym on
  same_target (Always u) x t m on = ap target_of m ∙ sym on
  same_target (Stamp u i) x t m on = ap target_of m.1 ∙ sym on
  same_target (Done u None) x t m on = ap target_of m ∙ sym on
  same_target (Done u (Some i)) x t m on = ap target_of m.1 ∙ sym on
  same_target (Failed u) x t m on = ap target_of m ∙ sym on
  same_target step x t m on = cc

  -- the refusal by the target's state, else that of the names, is the verdict
  pub verdict_by_parts : (r : Records ℕ) (s : ℕ) (holds : Bool) (step : Step) (x : Command ℕ)
      (t : ℕ) (own names : Option (Refusal ℕ)) → Means tables step x → Some t ≡ step_target step
      → own ≡ refusal_by_target (target_state r t) s holds (step_kind step)
      → names ≡ refusal_of_names by_number r x
      → option_or own names ≡ verdict_of by_number r s holds x
  verdict_by_parts r s holds step x t own names m on by_state by_names =
      ap (λ (o : Option (Refusal ℕ)). option_or o names)
      (by_state ∙ ap (refusal_by_target (target_state r t) s holds) (same_kind step x m))
      ∙ ap (option_or (refusal_by_target (target_state r t) s holds (kind_for x))) by_names
      ∙ verdict_on_target by_number r s holds x t (same_target step x t m on)
