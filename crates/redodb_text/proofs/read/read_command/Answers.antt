use Rattle.std.proofs.Common.{◌≡◌, ◌↔◌, List, Ok, Err, refl, sym, ap, ◌∙◌, inl, inr}
use Rattle.redodb_model.specs.Names.{Text}
use Rattle.redodb_model.specs.Command.{Command}
use Rattle.redodb_commands.specs.declared.command.Command as numbered
use Rattle.redodb_text.specs.declared.fault.Unread.{Unread}
use Rattle.redodb_text.specs.declared.fault.Unread.TheVariants as unread
use Rattle.redodb_text.specs.declared.fault.ReadFault.{ReadFault}
use Rattle.redodb_text.specs.declared.fault.ReadFault.TheVariants as faults
use Rattle.redodb_commands.specs.Support.Meaning.{command_at}
use Rattle.redodb_text.specs.Support.Reading.{Reading, Reads, line_in}
use Rattle.redodb_text.proofs.Steps.{same_given}
use Rattle.redodb_text.proofs.FaultOrCommand.{unread_fault}
use Rattle.redodb_text.proofs.Left.{names_left}
use Rattle.redodb_text.proofs.LineLaws.{line_found, line_only}
use Rattle.redodb_text.proofs.read.read_command.Goals as goal

pub returns-in-Ok-clause-read : goal.returns-in-Ok-clause-read
returns-in-Ok-clause-read c =
    line_found c.args.names.now c.args.line.now _ _ c.requires.few c.in-Ok.ensures.reads

pub returns-in-Ok-clause-only : goal.returns-in-Ok-clause-only
returns-in-Ok-clause-only c command after is adds =
    let same =
    same_given _ _ (sym c.in-Ok.ensures.reads
    ∙ line_only c.args.names.now c.args.line.now command after c.requires.few is adds) in
    inr (
      ap (λ (x : Command Text × List Text). x.0) same,
      ap (λ (x : Command Text × List Text). x.1) same,
    )

-- only lack of memory refuses what can be read
memory_alone : (names : List Text) (why : Unread) (given : ReadFault) (reading : Reading)
    (x : Command Text × List Text)
    → Reads (λ (c : numbered.Command). (command_at names c, names)) (Err why) reading
    → reading ≡ Ok x → ((given ≡ faults.Memory) ↔ (why ≡ unread.Memory)) → given ≡ faults.Memory
memory_alone names unread.Memory given reading x reads ok same = same.1 refl
memory_alone names (unread.Fault fault) given reading x reads ok same = absurd cc

pub returns-in-Err-clause-only : goal.returns-in-Err-clause-only
returns-in-Err-clause-only c command after is adds =
    let reads : line_in c.args.most c.args.names.now c.args.line.now ≡ Ok (command, after) =
    line_only c.args.names.now c.args.line.now command after c.requires.few is adds in
    let memory =
    memory_alone c.line_of.new.names c.in-Err.unread c.at_line.result
    (line_in c.args.most c.args.names.now c.args.line.now) (
      command,
      after,
    ) c.in-Err.ensures.reads reads c.at_line.ensures.memory in
    inl (λ i. Err (memory i))

pub returns-in-Err-clause-fault : goal.returns-in-Err-clause-fault
returns-in-Err-clause-fault c =
    unread_fault
    (λ (read : numbered.Command). (command_at c.line_of.new.names read, c.line_of.new.names))
    c.args.names.now c.args.line.now c.in-Err.unread c.at_line.result c.requires.few
    c.in-Err.ensures.reads c.at_line.ensures.memory.1 c.at_line.ensures.fault

pub returns-in-Err-clause-left : goal.returns-in-Err-clause-left
returns-in-Err-clause-left c =
    names_left _ c.args.names.now c.args.line.now c.line_of.new.names c.in-Err.unread
    c.at_line.result c.in-Err.ensures.left c.at_line.ensures.memory.1 c.at_line.ensures.fault
