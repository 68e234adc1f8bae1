use Rattle.std.proofs.Common.{◌≡◌, ◌<◌, ◌||◌, false, not, map, length, refl, arith}
use Rattle.std.proofs.lemmas.Grind.{common_steps}
use Rattle.std.proofs.lemmas.List.{length-map}
use Rattle.redodb_commands.specs.Support.Meaning.{item_at}
use Rattle.redodb_run.proofs.PartTexts.{from_item, skipped_printed}
use Rattle.redodb_run.proofs.part.Part.skip.Goals as goal

pub loop-at-preserved : goal.loop-at-preserved
loop-at-preserved c =
    let names = c.args.names.now in
    let items = c.args.items.now in
    let script = map (item_at names) items in
    let at = c.loop-at.at in
    let item = c.index-items-at.result in
    let less : at < length items = omega arith in
    let long = length-map items (item_at names) in
    let stopped : (c.loop-at.self.through || not item.guarded) ≡ false =
    (λ k. c.if-self.false k || not (c.if-not-item.false k)) in
    record {
      next = refl;
      closing = c.loop-at.invariant.closing;
      printed = λ all line later are. skipped_printed script all c.loop-at.self _ line later
          (c.loop-at.invariant.printed all line later are) at c.loop-at.invariant.next
          (item_at names item) (from_item names items at item less c.index-items-at.is)
          (omega arith) refl refl c.in_ok-put_skipped.ensures refl stopped;
    }

pub returns-then-self-clause-done : goal.returns-then-self-clause-done
returns-then-self-clause-done c = grind (arith, common_steps)

pub put_skipped-requires : goal.put_skipped-requires
put_skipped-requires c = grind (arith, common_steps)
