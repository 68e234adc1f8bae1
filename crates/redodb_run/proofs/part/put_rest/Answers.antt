use Rattle.std.proofs.Common.{◌<◌, ◌+◌, ◌++◌, ◌∙◌, List, ap, sym, append_assoc, append-nil, drop, map, length, arith}
use Rattle.std.proofs.lemmas.Grind.{common_steps}
use Rattle.std.specs.List.{flat_map}
use Rattle.std.proofs.Math.ListN.{drop_of_length-le}
use Rattle.std.proofs.lemmas.List.{length-map}
use Rattle.redodb_model.specs.Command as model
use Rattle.redodb_model.specs.Names.{Text}
use Rattle.redodb_commands.specs.Support.Meaning.{item_at}
use Rattle.redodb_history.specs.Histories.{ended}
use Rattle.redodb_run.specs.RunTexts.{skipped_text_of}
use Rattle.redodb_run.specs.Support.Printed.{skipped_lines_of}
use Rattle.redodb_run.proofs.PartTexts.{from_item}
use Rattle.redodb_run.proofs.part.put_rest.Goals as goal

pub loop-at-preserved : goal.loop-at-preserved
loop-at-preserved c =
    let names = c.args.names.now in
    let items = c.args.items.now in
    let script = map (item_at names) items in
    let at = c.loop-at.at in
    let item = c.index-items-at.result in
    let less : at < length items = omega arith in
    let rest = flat_map ended (skipped_lines_of (drop (at + 1) script)) in
    let first = from_item names items at item less c.index-items-at.is in
    ap (λ (t : Text). t ++ rest) c.in_ok-put_skipped.ensures
    ∙ append_assoc c.loop-at.text.items (ended (skipped_text_of (item_at names item))) rest
    ∙ ap
    (λ (xs : List (model.Item Text)). c.loop-at.text.items ++ flat_map ended (skipped_lines_of xs))
    (sym first)
    ∙ c.loop-at.invariant

pub returns : goal.returns
returns c =
    let names = c.args.names.now in
    let items = c.args.items.now in
    let script = map (item_at names) items in
    let long = length-map items (item_at names) in
    let past = drop_of_length-le script (omega arith) in
    sym (append-nil c.loop-at.text.items)
    ∙ ap
    (λ (xs : List (model.Item Text)). c.loop-at.text.items ++ flat_map ended (skipped_lines_of xs))
    (sym past)
    ∙ c.loop-at.invariant

pub put_skipped-requires : goal.put_skipped-requires
put_skipped-requires c = grind (arith, common_steps)
