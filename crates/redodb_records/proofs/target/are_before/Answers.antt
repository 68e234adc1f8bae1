use Rattle.std.proofs.Common.{◌≡◌, ◌+◌, ◌<◌, length, ap, arith}
use Rattle.std.proofs.lemmas.Bool.Decides.{nat_tests}
use Rattle.redodb_records.specs.Rows.{Slot}
use Rattle.redodb_records.specs.Support.Target.{name_at}
use Rattle.redodb_records.proofs.Slots.{gap_behind, name_read}
use Rattle.redodb_records.proofs.target.are_before.Goals as goal

pub returns-in-Some : goal.returns-in-Some
returns-in-Some c = λ is.
    let slots = c.args.slots.now in
    let last = c.in-Some.last in
    let slot = c.index-slots-last.result in
    let of = c.in-Some.ensures in
    let counted : last + 1 ≡ length slots = omega (arith, of.0, of.1) in
    let named = name_read slots last slot (omega (arith, counted)) in
    let same = ap (λ (s : Slot). s.name) c.index-slots-last.is in
    let less : c.name.result < c.args.n = grind (arith, nat_tests) in
    gap_behind slots c.args.n last c.requires counted
    (omega (arith, named, same, less, c.name.ensures))
