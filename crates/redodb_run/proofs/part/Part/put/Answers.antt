use Rattle.std.proofs.Common.{◌<◌, ◌++◌, ◌∙◌, ap, sym, map, length, refl, arith}
use Rattle.std.proofs.lemmas.List.{length-map}
use Rattle.redodb_model.proofs.Scripts.{lets_named}
use Rattle.redodb_model.specs.Names.{Text, text_at}
use Rattle.redodb_commands.specs.Meaning.{line_at, reply_of}
use Rattle.redodb_commands.specs.Support.Meaning.{item_at}
use Rattle.redodb_run.proofs.PartTexts.{from_item, done_printed, closing_printed}
use Rattle.redodb_run.proofs.part.Part.put.Goals as goal

pub returns-then-self-items-clause-printed : goal.returns-then-self-items-clause-printed
returns-then-self-items-clause-printed c all later are =
    let names = c.args.names.now in
    let items = c.args.items.now in
    let script = map (item_at names) items in
    let long = length-map items (item_at names) in
    closing_printed script all c.skip.new.self _ (line_at names c.args.line.now) later
    (c.in_ok-skip.ensures.printed all (line_at names c.args.line.now) later are) (omega arith) refl
    refl (c.in_ok-extend_from_slice.ensures.items
    ∙ ap (λ (answer : Text). c.skip.new.self.body.items ++ answer) c.requires.answer)

pub returns-clause-printed : goal.returns-clause-printed
returns-clause-printed c all later are =
    let names = c.args.names.now in
    let items = c.args.items.now in
    let script = map (item_at names) items in
    let old = c.skip.new.self in
    let line = line_at names c.args.line.now in
    let item = c.index-items-self.result in
    let long = length-map items (item_at names) in
    let less : old.next < length items = omega arith in
    done_printed script all old _ line later
    (c.in_ok-skip.ensures.printed all line later are) old.next refl (item_at names item)
    (from_item names items old.next item less c.index-items-self.is) (omega arith) refl refl
    c.in_ok-put_done.ensures
    (c.lets_through-self.ensures
    ∙ sym (lets_named (text_at names) (reply_of c.args.line.now.reply)))
    (c.in_ok-skip.ensures.done item less c.index-items-self.is)
