use Rattle.std.proofs.Common.{◌≡◌, ◌↔◌, ◌∙◌, ℕ, false, set, ap, sym, subst, length, Contains}
use Rattle.redodb_records.specs.Numbers.{NumberList, numbers_there}
use Rattle.redodb_records.specs.Support.Numbers.{IsPlaceOf, IsGapFor}
use Rattle.redodb_records.proofs.Places.{HasOneLess, place_with, left_empty, not_in_gap}
use Rattle.redodb_records.proofs.numbers.Numbers.remove.Goals as goal
use Rattle.redodb_records.proofs.numbers.Numbers.remove.Goals.{After-index_mut}

-- the place is empty
emptied : (c : After-index_mut) → HasOneLess c.args.x (numbers_there c.self.inside.places.items)
    (numbers_there (set c.self.inside.places.items c.in-Ok.place (place_with c.args.x false)))
emptied c =
    left_empty c.self.inside.places.items c.args.x c.in-Ok.place c.self.invariant
    (subst (λ ps. IsPlaceOf ps c.args.x c.in-Ok.place) c.as_slice.ensures.value
    c.in-Ok.ensures.found)
    (subst (λ (n : NumberList). Contains n.items c.args.x) (sym c.self.view_is) c.requires)

pub returns-in-Ok-clause-each : goal.returns-in-Ok-clause-each
returns-in-Ok-clause-each c =
    let new =
    numbers_there (set c.self.inside.places.items c.in-Ok.place (place_with c.args.x false)) in
    subst (λ (n : NumberList). (u : ℕ)
    → Contains new u ↔ (Contains n.items u × (u ≡ c.args.x → ⊥))) c.self.view_is
    (emptied (goal.at.returns-in-Ok-clause-each c).After-index_mut).each

pub returns-in-Ok-clause-length : goal.returns-in-Ok-clause-length
returns-in-Ok-clause-length c =
    (emptied (goal.at.returns-in-Ok-clause-length c).After-index_mut).shorter
    ∙ ap (λ (n : NumberList). length n.items) c.self.view_is

-- the number has a place
pub returns-in_default : goal.returns-in_default
returns-in_default c =
    absurd (not_in_gap c.self.inside.places.items c.args.x c.in_default.field-0
    (subst (λ ps. IsGapFor ps c.args.x c.in_default.field-0) c.as_slice.ensures.value
    c.in_default.ensures.absent)
    (subst (λ (n : NumberList). Contains n.items c.args.x) (sym c.self.view_is) c.requires))
