-- The value of a plan's fields, and their invariant.
use Rattle.redodb_journal.specs.Plans.{PlanOf, IsPlan, scripts_of}
use Rattle.redodb_journal.specs.declared.plan.Plan.TheInside.{Inside}

abbrev pub plan_of : Inside → PlanOf
plan_of inside = record { names = inside.names; scripts = scripts_of inside.scripts.items }

abbrev pub KeepsPlan : Inside → Type 0
KeepsPlan inside = IsPlan (plan_of inside)
