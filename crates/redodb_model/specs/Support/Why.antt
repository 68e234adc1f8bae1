-- Why a target is out of date, over numbers of names and under other names.
use Rattle.std.specs.Prelude.{◌<◌, ℕ, map, ⊤}
use Rattle.redodb_model.specs.Renaming.{AllBelow}
use Rattle.redodb_model.specs.Why.{Reason, Building, Failed, Edited, Always, Appeared, Changed, Why}

-- the name in the reason, if there is one, is below n
abbrev pub IsReasonBelow : ℕ → Reason ℕ → Type 0
IsReasonBelow n (Appeared k) = k < n
IsReasonBelow n (Changed k) = k < n
IsReasonBelow n reason = ⊤

-- all names in the answer are below n
pub record IsWhyBelow (n : ℕ) (why : Why ℕ) : Type 0 where
  pub names : AllBelow n why.names
  pub reason : IsReasonBelow n why.reason

-- the same under other names
module _ {N M : Type 0} (name : N → M) where
  abbrev pub named_reason : Reason N → Reason M
  named_reason Building = Building
  named_reason Failed = Failed
  named_reason Edited = Edited
  named_reason Always = Always
  named_reason (Appeared n) = Appeared (name n)
  named_reason (Changed n) = Changed (name n)

  abbrev pub named_why : Why N → Why M
  named_why why = record { names = map name why.names; reason = named_reason why.reason }
