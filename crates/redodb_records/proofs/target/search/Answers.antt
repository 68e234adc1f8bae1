use Rattle.std.proofs.Common.{rules}
use Rattle.std.proofs.lemmas.List.Sorted.{answers_always}
use Rattle.redodb_records.specs.Rows.{Slot}
use Rattle.redodb_records.proofs.Slots.{searched}
use Rattle.redodb_records.proofs.target.search.Goals as goal

-- the closure returns a slot's name
pub returns : goal.returns
returns c =
    let facts = c.binary_search_by_key.ensures in
    let by_name =
    facts.position (λ (slot : Slot). slot.name)
    (answers_always _ _ _ (λ f a r g called. search rules)) in
    searched c.args.slots.now c.requires c.args.n c.binary_search_by_key.result facts.bound by_name
