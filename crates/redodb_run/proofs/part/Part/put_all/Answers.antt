use Rattle.std.proofs.Common.{ℕ, ◌+◌, ◌++◌, ◌∙◌, ap, sym, drop, map, length}
use Rattle.std.specs.List.{flat_map}
use Rattle.std.proofs.lemmas.List.{length-map}
use Rattle.redodb_model.specs.Names.{Text}
use Rattle.redodb_commands.specs.Support.Meaning.{item_at}
use Rattle.redodb_history.specs.Histories.{ended}
use Rattle.redodb_run.specs.Support.Printed.{skipped_lines_of}
use Rattle.redodb_run.proofs.PartTexts.{session_printed}
use Rattle.redodb_run.proofs.part.Part.put_all.Goals as goal

pub returns : goal.returns
returns c lines are =
    let part = c.args.self.now in
    let script = map (item_at c.args.names.now) c.args.items.now in
    let left = flat_map ended (skipped_lines_of (drop part.next script)) in
    let count = length c.args.items.now + part.closing in
    c.in_ok-put_rest.ensures
    ∙ ap (λ (text : Text). text ++ left) c.in_ok-extend_from_slice.ensures.items
    ∙ (λ k. c.in_ok-put_header.ensures k ++ c.deref.ensures.value k ++ left)
    ∙ session_printed c.args.text.now.items c.args.session script lines part count
    (ap (λ (n : ℕ). n + part.closing)
    (sym (length-map c.args.items.now (item_at c.args.names.now))))
    are
