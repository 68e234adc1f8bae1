use Rattle.std.proofs.Common.{◌≡◌, ◌∙◌, ◌<◌, true, ap, sym, subst, cond, refl}
use Rattle.std.specs.List.{insert}
use Rattle.redodb_records.specs.Numbers.{numbers_there}
use Rattle.redodb_records.specs.Support.Numbers.{InOrder, HasOneMore}
use Rattle.redodb_records.proofs.Inserting.{all_pairs_insert}
use Rattle.redodb_records.proofs.Places.{place_with, inserted}
use Rattle.redodb_records.proofs.numbers.put_new.Goals as goal
use Rattle.redodb_records.proofs.numbers.put_new.Goals.{After-insert-inserted}

-- there is room, so the place was put in
placed : (c : After-insert-inserted) → c.insert-inserted.new.self.items
    ≡ insert c.make_room-gap.new.places.items c.make_room-gap.result (place_with c.args.x true)
placed c =
    let ps = c.make_room-gap.new.places.items in
    c.insert-inserted.ensures.items
    ∙ ap (λ b. cond b (insert ps c.make_room-gap.result (place_with c.args.x true)) ps)
    (c.insert-inserted.ensures.succeeds c.make_room-gap.ensures.room)

pub returns-clause-more : goal.returns-clause-more
returns-clause-more c =
    let ps = c.make_room-gap.new.places.items in
    subst (λ qs. HasOneMore c.args.x (numbers_there c.args.places.now.items) (numbers_there qs))
    (sym (placed c))
    (subst (λ xs. HasOneMore c.args.x xs
    (numbers_there (insert ps c.make_room-gap.result (place_with c.args.x true))))
    c.make_room-gap.ensures.numbers
    (inserted ps c.make_room-gap.result (place_with c.args.x true) refl))

pub returns-clause-order : goal.returns-clause-order
returns-clause-order c =
    let ps = c.make_room-gap.new.places.items in
    let made = c.make_room-gap.ensures in
    subst InOrder (sym (placed (goal.at.returns-clause-order c).After-insert-inserted))
    (all_pairs_insert (λ p q. p.number < q.number) ps c.make_room-gap.result
    (place_with c.args.x true) made.gap.within made.order made.gap.before made.gap.after)
