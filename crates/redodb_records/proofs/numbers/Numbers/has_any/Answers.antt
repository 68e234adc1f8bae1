use Rattle.std.proofs.Common.{rules, ◌↔◌, ℕ, IsTrue, subst, Contains}
use Rattle.std.specs.List.{Any}
use Rattle.redodb_records.specs.Numbers.{Place, NumberList}
use Rattle.redodb_records.proofs.Places.{some_there}
use Rattle.redodb_records.proofs.numbers.Numbers.has_any.Goals as goal

pub returns : goal.returns
returns c =
    let any : IsTrue c.any.result
    ↔ Any (λ (p : Place). IsTrue p.is_there) c.self.inside.places.items = search rules in
    let there = some_there c.self.inside.places.items in
    subst (λ (n : NumberList). IsTrue c.any.result ↔ ((u : ℕ) × Contains n.items u))
    c.self.view_is (λ h. there.0 (any.0 h), λ u. any.1 (there.1 u))
