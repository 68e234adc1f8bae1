use Rattle.std.proofs.Common.{length, sym, ap, ◌∙◌, arith}
use Rattle.std.proofs.lemmas.List.{length-map}
use Rattle.redodb_commands.specs.Meaning.{command_of}
use Rattle.redodb_commands.specs.Support.Meaning.{item_of}
use Rattle.redodb_commands.specs.declared.script.Item.{Item}
use Rattle.redodb_journal.specs.Plans.{script_of}
use Rattle.redodb_board.proofs.Scripts.{command_in}
use Rattle.redodb_board.proofs.plan.command_at.Goals as goal

pub returns-clause-command : goal.returns-clause-command
returns-clause-command c =
    let items = c.items.result.now in
    let a = length-map items item_of in
    let b = ap length c.items.ensures.items in
    let d = c.requires.1 in
    ap (λ (x : Item). command_of x.command) (sym c.index-items-number.is)
    ∙ command_in items (script_of c.args.plan.now c.args.session) c.args.number
    c.index-items-number.result c.items.ensures.items (omega arith) c.index-items-number.is
