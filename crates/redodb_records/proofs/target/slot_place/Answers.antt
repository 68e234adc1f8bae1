use Rattle.std.proofs.Common.{sym, ◌∙◌}
use Rattle.std.proofs.lemmas.Bool.{false≢true}
use Rattle.redodb_records.specs.Support.Target.{blank}
use Rattle.redodb_records.proofs.Slots.{none_in_gap, slot_stands}
use Rattle.redodb_records.proofs.target.slot_place.Goals as goal

pub returns-in-Ok-clause-absent : goal.returns-in-Ok-clause-absent
returns-in-Ok-clause-absent c none =
    let stands =
    slot_stands c.args.slots.now c.args.n c.in-Ok.place (blank 0) c.requires
    c.in-Ok.ensures.found in
    absurd (false≢true (sym none ∙ stands.1))

pub returns-in-Err-clause-there : goal.returns-in-Err-clause-there
returns-in-Err-clause-there c there =
    absurd (false≢true
    (sym (none_in_gap c.args.slots.now c.args.n c.in-Err.place c.in-Err.ensures.absent) ∙ there))
