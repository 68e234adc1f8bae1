use Rattle.std.proofs.Common.{rules, ◌≡◌, ◌∙◌, arith, length, sym, ap, subst, vec_len}
use Rattle.std.proofs.lemmas.Fn.{filter_same}
use Rattle.redodb_records.specs.Numbers.{numbers_there}
use Rattle.redodb_records.specs.Support.Numbers.{InOrder, IsPlaceOf}
use Rattle.redodb_records.proofs.Places.{without_empty, kept_rises, kept_there, kept_length, none_kept}
use Rattle.redodb_records.proofs.numbers.make_room.Goals as goal
use Rattle.redodb_records.proofs.numbers.make_room.Goals.{After-retain}

-- the empty places are gone
kept : (c : After-retain) → c.retain.new.self.items ≡ without_empty c.args.places.now.items
kept c = filter_same _ _ _ (λ x b f' k. search rules) _ _ c.retain.ensures.filtered

pub find_gap-requires-clause-order : goal.find_gap-requires-clause-order
find_gap-requires-clause-order c =
    subst InOrder
    (sym (c.as_slice.ensures.value
    ∙ kept (goal.at.find_gap-requires-clause-order c).After-retain))
    (kept_rises c.args.places.now.items c.requires.order)

pub find_gap-requires-clause-absent : goal.find_gap-requires-clause-absent
find_gap-requires-clause-absent c i at =
    none_kept c.args.places.now.items c.args.x c.args.gap i c.requires.gap
    (subst (λ ps. IsPlaceOf ps c.args.x i) (c.as_slice.ensures.value
    ∙ kept (goal.at.find_gap-requires-clause-absent c).After-retain) at)

pub returns-clause-order : goal.returns-clause-order
returns-clause-order c =
    subst InOrder (sym (kept (goal.at.returns-clause-order c).After-retain))
    (kept_rises c.args.places.now.items c.requires.order)

pub returns-clause-numbers : goal.returns-clause-numbers
returns-clause-numbers c =
    ap numbers_there (kept (goal.at.returns-clause-numbers c).After-retain)
    ∙ kept_there c.args.places.now.items

pub returns-clause-room : goal.returns-clause-room
returns-clause-room c =
    let len : vec_len c.retain.new.self ≡ length c.retain.new.self.items = search rules in
    let few : length c.retain.new.self.items ≡ length (numbers_there c.args.places.now.items) =
    ap length (kept (goal.at.returns-clause-room c).After-retain)
    ∙ kept_length c.args.places.now.items in
    omega (arith, len, few, c.requires.room, c.retain.ensures.capacity)
