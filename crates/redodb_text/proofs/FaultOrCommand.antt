-- A line has a fault, or it is a command's.
use Rattle.std.proofs.Common.{◌≡◌, ◌≤◌, List, [], ◌∷◌, length, None, Err, refl, sym, ap, subst, ◌∙◌, arith, ℕ}
use Rattle.std.specs.List.{flat_map}
use Rattle.redodb_model.specs.Names.{Text}
use Rattle.redodb_model.specs.Command.{Command, names_in}
use Rattle.redodb_text.specs.declared.fault.LineFault.{LineFault}
use Rattle.redodb_text.specs.Grammar.{IsCommandLine, AddsNames}
use Rattle.redodb_text.specs.Questions.{line_fault}
use Rattle.redodb_text.specs.Support.Faults.{IsLineFault}
use Rattle.redodb_text.specs.Support.Reading.{Reads, line_in}
use Rattle.redodb_text.specs.declared.fault.Unread.{Unread}
use Rattle.redodb_text.specs.declared.fault.Unread.TheVariants as unread
use Rattle.redodb_text.specs.declared.fault.ReadFault.{ReadFault}
use Rattle.redodb_text.specs.declared.fault.ReadFault.TheVariants as faults
use Rattle.redodb_text.proofs.Asked.{fault_in, asked_line, succeeds, few_before}
use Rattle.redodb_text.proofs.LineLaws.{line_found, line_only}
use Rattle.redodb_text.proofs.ScriptParts.{with_names-longer}

pub few_if_added : {most : ℕ} (names after : List Text) (command : Command Text)
    → AddsNames most names (command ∷ []) after → length names ≤ most
few_if_added {most} names after command adds =
    let few = adds.1 in
    let longer =
    subst (λ (a : List Text). length names ≤ length a) (sym adds.0)
    (with_names-longer names (flat_map names_in (command ∷ []))) in
    omega (arith, few, longer)

pub no_fault_in_a_line : {most : ℕ} (names : List Text) (line : Text) (command : Command Text)
    (after : List Text) → IsCommandLine line command → AddsNames most names (command ∷ []) after
    → line_fault most names line ≡ None
no_fault_in_a_line {most} names line command after is adds =
    let few = few_if_added names after command adds in
    sym (asked_line names line few) ∙ ap fault_in (line_only names line command after few is adds)

pub command_without_fault : {most : ℕ} (names : List Text) (line : Text)
    → line_fault most names line ≡ None
    → (command : Command Text) × (after : List Text)
    × IsCommandLine line command × AddsNames most names (command ∷ []) after
command_without_fault {most} names line none =
    let few = few_before names line none in
    let read = succeeds (line_in most names line) (asked_line names line few ∙ none) in
    let found = line_found names line read.0.0 read.0.1 few read.1 in
    (read.0.0, read.0.1, found.0, found.1)

-- the fault of a line that could not be read
pub unread_fault : {most : ℕ} {X : Type 0} (view : X → Command Text × List Text) (names : List Text)
    (line : Text) (why : Unread) (result : ReadFault) → length names ≤ most
    → Reads view (Err why) (line_in most names line)
    → (why ≡ unread.Memory → result ≡ faults.Memory)
    → ((fault : LineFault) → why ≡ unread.Fault fault → result ≡ faults.Line 1 fault)
    → IsLineFault most names line result
unread_fault {most} view names line unread.Memory result few reads memory of_line =
    subst (IsLineFault most names line) (sym (memory refl)) tt
unread_fault {most} view names line (unread.Fault fault) result few reads memory of_line =
    subst (IsLineFault most names line) (sym (of_line fault refl))
    (refl, sym (asked_line names line few) ∙ ap fault_in reads)
