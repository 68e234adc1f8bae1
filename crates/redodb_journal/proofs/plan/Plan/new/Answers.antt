use Rattle.std.proofs.Common.{List, length, map, sym, ◌∙◌, arith}
use Rattle.std.proofs.lemmas.List.{length-map}
use Rattle.redodb_commands.specs.declared.script.Item.{Item}
use Rattle.redodb_commands.specs.Support.Meaning.{item_of}
use Rattle.redodb_journal.proofs.Plans.{some_at, below_at, short_of}
use Rattle.redodb_journal.proofs.plan.Plan.new.Goals as goal

pub invariant_of-result : goal.invariant_of-result
invariant_of-result c =
    let scripts : List (List Item) = c.args.scripts.items in
    let count = length-map scripts (λ (script : List Item). map item_of script) in
    let ok = c.args.scripts.ok.0 in
    record {
      some = let more = some_at _ (sym c.is_empty.ensures ∙ c.if-is_empty.false) in omega arith;
      few = let few = c.if-len-gt-MOST_SESSIONS.false in let len = c.len.ensures in omega arith;
      short = short_of c.deref-script-items.result.now scripts c.loop-script.script-index
          c.deref-script-items.ensures.value c.loop-script-test.false c.loop-script.invariant;
      below = below_at (length c.args.names) scripts c.requires.below;
      names = c.are_names.ensures;
      few_names = c.requires.few;
    }
