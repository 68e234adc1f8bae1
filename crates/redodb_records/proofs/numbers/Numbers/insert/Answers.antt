use Rattle.std.proofs.Common.{◌⊎◌, ◌≡◌, ◌↔◌, ◌∙◌, ◌+◌, ◌≤◌, ℕ, true, set, ap, sym, subst, length, Contains}
use Rattle.redodb_records.specs.Numbers.{Place, NumberList, numbers_there}
use Rattle.redodb_records.specs.Support.Numbers.{IsPlaceOf, HasOneMore}
use Rattle.std.specs.Prelude.{vec_capacity}
use Rattle.redodb_records.proofs.Ordered.{set_in_order}
use Rattle.redodb_records.proofs.Places.{place_with, put_back}
use Rattle.redodb_records.proofs.numbers.Numbers.insert.Goals as goal
use Rattle.redodb_records.proofs.numbers.Numbers.insert.Goals.{After-index_mut}

-- the place is filled
filled : (c : After-index_mut) → HasOneMore c.args.x (numbers_there c.self.inside.places.items)
    (numbers_there (set c.self.inside.places.items c.in-Ok.place (place_with c.args.x true)))
filled c =
    put_back c.self.inside.places.items c.args.x c.in-Ok.place
    (subst (λ ps. IsPlaceOf ps c.args.x c.in-Ok.place) c.as_slice.ensures.value
    c.in-Ok.ensures.found)
    (subst (λ (n : NumberList). Contains n.items c.args.x → ⊥) (sym c.self.view_is) c.requires.out)

pub returns-in-Ok-clause-each : goal.returns-in-Ok-clause-each
returns-in-Ok-clause-each c =
    let new =
    numbers_there (set c.self.inside.places.items c.in-Ok.place (place_with c.args.x true)) in
    subst (λ (n : NumberList). (u : ℕ)
    → Contains new u ↔ (Contains n.items u ⊎ (u ≡ c.args.x))) c.self.view_is
    (filled (goal.at.returns-in-Ok-clause-each c).After-index_mut).each

pub returns-in-Ok-clause-length : goal.returns-in-Ok-clause-length
returns-in-Ok-clause-length c =
    (filled (goal.at.returns-in-Ok-clause-length c).After-index_mut).longer
    ∙ ap (λ (n : NumberList). length n.items + 1) c.self.view_is

pub returns-in-Err-clause-each : goal.returns-in-Err-clause-each
returns-in-Err-clause-each c =
    let new = numbers_there c.put_new.new.places.items in
    subst (λ (n : NumberList). (u : ℕ)
    → Contains new u ↔ (Contains n.items u ⊎ (u ≡ c.args.x))) c.self.view_is
    c.put_new.ensures.more.each

pub invariant_of-self : goal.invariant_of-self
invariant_of-self c =
    let at =
    subst (λ ps. IsPlaceOf ps c.args.x c.in-Ok.place) c.as_slice.ensures.value
    c.in-Ok.ensures.found in
    set_in_order (λ (p : Place). p.number) c.self.inside.places.items c.self.invariant c.in-Ok.place
    (place_with c.args.x true) at.within (at.numbered (place_with c.args.x true))

pub returns-in-Err-clause-room : goal.returns-in-Err-clause-room
returns-in-Err-clause-room c =
    subst (λ (n : NumberList). n.room ≤ vec_capacity c.put_new.new.places) c.self.view_is
    c.put_new.ensures.capacity
