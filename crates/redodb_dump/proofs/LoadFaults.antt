-- The cause of a fault, from what it is at a dump.
use Rattle.std.proofs.Common.{◌≡◌, ◌⊎◌, List, ◌++◌, inl, inr}
use Rattle.redodb_model.specs.Names.{Text}
use Rattle.redodb_model.specs.State.{State}
use Rattle.redodb_dump.specs.declared.fault.LoadFault.{LoadFault}
use Rattle.redodb_dump.specs.declared.fault.LoadFault.TheVariants.{Memory, Worn, Line}
use Rattle.redodb_dump.specs.Dumps.{IsDumped, IsLoadFault, IsWorn, dump_of}

-- what it is at a dump that the text begins with
abbrev pub IsRefusal : LoadFault → List Text → State Text → Type 0
IsRefusal fault names st = (fault ≡ Memory) ⊎ ((fault ≡ Worn) × IsWorn names st)

pub fault_told : (fault : LoadFault) (text : Text)
    → ((names : List Text) (st : State Text) (rest : Text) → IsDumped names st
    → text ≡ dump_of names st ++ rest → IsRefusal fault names st)
    → IsLoadFault text fault
fault_told Memory text at = tt
fault_told Worn text at = λ names st rest is whole. elim (at names st rest is whole) [
  | inl memory ↦ absurd cc
  | inr worn ↦ worn.1
]
fault_told (Line number) text at = λ names st rest is whole. elim (at names st rest is whole) [
  | inl memory ↦ absurd cc
  | inr worn ↦ let other = worn.0 in absurd cc
]
