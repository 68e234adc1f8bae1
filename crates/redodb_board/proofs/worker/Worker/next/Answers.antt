use Rattle.std.proofs.Common.{ℕ, ◌<◌, All, List, [], ◌∷◌, length, sym, subst}
use Rattle.std.specs.List.{AllByRecursion}
use Rattle.std.proofs.lemmas.List.Elements.{All-from_recursion}
use Rattle.redodb_model.specs.Command as commands
use Rattle.redodb_model.specs.Names.{Text}
use Rattle.redodb_model.specs.Renaming.{IsBelow}
use Rattle.redodb_journal.specs.Plans.{script_of}
use Rattle.redodb_journal.specs.Journals.{command_told, line_told, lines_told}
use Rattle.redodb_journal.specs.declared.entry.Entry.{Entry}
use Rattle.redodb_board.specs.Core.{Line}
use Rattle.redodb_board.proofs.NextSteps.{lines_names, lines_numbers}
use Rattle.redodb_board.proofs.worker.Worker.next.Goals as goal

-- what is true of each line of the entries is true of each entry
told_each : (P : Line → Type 0) (s : ℕ) (script : List (commands.Item ℕ)) (entries : List Entry)
    → AllByRecursion P (lines_told s script entries)
    → AllByRecursion (λ entry. P (line_told s script entry)) entries
told_each P s script [] all = tt
told_each P s script (entry ∷ entries) all = (all.0, told_each P s script entries all.1)

pub next_step-requires-clause-below : goal.next_step-requires-clause-below
next_step-requires-clause-below c =
    let p = c.args.plan.now in
    let w = c.args.self.now in
    let script = script_of p w.session in
    let all : All (λ (entry : Entry). IsBelow (length p.names) (command_told script entry))
    w.entries.items =
    All-from_recursion (λ (entry : Entry). IsBelow (length p.names) (command_told script entry))
    w.entries.items
    (told_each (λ (line : Line). IsBelow (length p.names) line.command) w.session script
    w.entries.items (lines_names c.requires)) in
    subst
    (λ (x : (List Text × List (commands.Item ℕ)) × List Entry).
    All (λ (entry : Entry). IsBelow (length x.0.0) (command_told x.0.1 entry)) x.1)
    (λ i. (
      (sym c.names.ensures i, sym c.script.ensures.script i),
      sym c.deref.ensures.value i,
    )) all

pub next_step-requires-clause-numbers : goal.next_step-requires-clause-numbers
next_step-requires-clause-numbers c =
    let p = c.args.plan.now in
    let w = c.args.self.now in
    let all : All (λ (entry : Entry). entry.number < 4294967295) w.entries.items =
    All-from_recursion (λ (entry : Entry). entry.number < 4294967295) w.entries.items
    (told_each (λ (line : Line). line.number < 4294967295) w.session (script_of p w.session)
    w.entries.items (lines_numbers c.requires)) in
    subst (All (λ (entry : Entry). entry.number < 4294967295)) (sym c.deref.ensures.value) all
