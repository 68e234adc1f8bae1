use Rattle.std.proofs.Common.{◌<◌, List, true, get_or, ap, sym, ◌∙◌, length, arith}
use Rattle.redodb_commands.specs.declared.script.Item.{Item}
use Rattle.redodb_journal.proofs.Nexts.{asked}
use Rattle.redodb_journal.proofs.entry.Entry.command.Goals as goal

pub returns-in_ok-item-in-None : goal.returns-in_ok-item-in-None
returns-in_ok-item-in-None c =
    let script = c.args.script.now in
    let number = c.args.self.now.number in
    let item = c.in_ok-item-in-None.item.now in
    let same = c.items.ensures.items in
    let found = c.in_ok-item-in-None.ensures.lookup in
    let within : number < length script =
    let a = found.3.0 in let b = ap length same in omega arith in
    rw c.in-None.is (sym (asked script true number item within
    (found.1 ∙ ap (λ (xs : List Item). get_or xs number item) same)))
