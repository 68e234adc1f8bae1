-- The verdict on a command is that of its kind; if that refuses nothing, that of its names.
use Rattle.std.proofs.Common.{◌≡◌, ℕ, Bool, true, false, not, Option, Some, None, refl, arith}
use Rattle.std.specs.Option.{option_or}
use Rattle.redodb_model.specs.Command.{Command, Unlock, Start, IfChange, IfCreate, Always, Stamp, Done, Failed, target_of}
use Rattle.redodb_model.specs.Names.{Naming}
use Rattle.redodb_model.specs.State.{Records, TargetState, target_state}
use Rattle.redodb_model.specs.Reply.{Refusal, NotBuilding}
use Rattle.redodb_model.specs.Step.{refusal_or, is_built_by, verdict_of}
use Rattle.redodb_records.specs.Refusals.{refusal_by_target, refusal_of_names, kind_for}

or_none : {X : Type 0} (o : Option X) → option_or o None ≡ o
or_none None = refl
or_none (Some x) = refl

or_later : {N : Type 0} (test : Bool) (refusal : Refusal N) (rest : Option (Refusal N))
    → option_or (refusal_or test refusal None) rest ≡ refusal_or test refusal rest
or_later true refusal rest = refl
or_later false refusal rest = refl

module _ (naming : Naming ℕ) (records : Records ℕ) (s : ℕ) (holds : Bool) where
  -- by the state of its target
  pub verdict_on_target : (command : Command ℕ) (t : ℕ) → target_of command ≡ Some t
      → option_or (refusal_by_target (target_state records t) s holds (kind_for command))
      (refusal_of_names naming records command) ≡ verdict_of naming records s holds command
  verdict_on_target (Unlock u) t on =
      let same : u ≡ t = cc in
      rw same (or_none _)
  verdict_on_target (Start u) t on =
      let same : u ≡ t = cc in
      rw same (or_none _)
  verdict_on_target (IfChange u ns) t on =
      let same : u ≡ t = cc in
      rw same (or_later (not (is_built_by s (target_state records t))) NotBuilding
      (refusal_of_names naming records (IfChange t ns)))
  verdict_on_target (IfCreate u ns) t on =
      let same : u ≡ t = cc in
      rw same (or_later (not (is_built_by s (target_state records t))) NotBuilding
      (refusal_of_names naming records (IfCreate t ns)))
  verdict_on_target (Always u) t on =
      let same : u ≡ t = cc in
      rw same (or_none _)
  verdict_on_target (Stamp u content) t on =
      let same : u ≡ t = cc in
      rw same (or_none _)
  verdict_on_target (Done u stamp) t on =
      let same : u ≡ t = cc in
      rw same (or_none _)
  verdict_on_target (Failed u) t on =
      let same : u ≡ t = cc in
      rw same (or_none _)
  verdict_on_target command t on = refl

  -- by any state, if it has no target
  pub verdict_without_target : (command : Command ℕ) (state : TargetState)
      → target_of command ≡ None → refusal_by_target state s holds (kind_for command)
      ≡ verdict_of naming records s holds command
  verdict_without_target command state no_target = grind arith
