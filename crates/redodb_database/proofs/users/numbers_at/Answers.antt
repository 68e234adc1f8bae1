use Rattle.std.proofs.Common.{◌∙◌, ◌++◌, ◌∷◌, [], List, ℕ, ap, sym}
use Rattle.redodb_records.specs.Numbers.{numbers_there}
use Rattle.redodb_database.proofs.Places.{one_place_more}
use Rattle.redodb_database.proofs.users.numbers_at.Goals as goal

pub loop-place-preserved : goal.loop-place-preserved
loop-place-preserved c =
    c.in_ok-push_there.ensures
    ∙ ap (λ (ns : List ℕ). ns ++ numbers_there (c.place-item.result ∷ [])) c.loop-place.invariant
    ∙ sym (one_place_more c.args.places.now c.loop-place.place-index c.place-item.result
    c.loop-place-test.true c.place-item.is)
