use Rattle.std.proofs.Common.{rules}
use Rattle.std.proofs.lemmas.List.Sorted.{answers_always}
use Rattle.redodb_records.specs.Numbers.{Place}
use Rattle.redodb_records.proofs.Places.{searched}
use Rattle.redodb_records.proofs.numbers.search.Goals as goal

-- the closure returns a place's number
pub returns : goal.returns
returns c =
    let facts = c.binary_search_by_key.ensures in
    let by_number =
    facts.position (λ (place : Place). place.number)
    (answers_always _ _ _ (λ f a r g called. search rules)) in
    searched c.args.places.now c.requires c.args.x c.binary_search_by_key.result facts.bound
    by_number
