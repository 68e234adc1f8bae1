use Rattle.redodb_records.proofs.numbers.find_gap.Goals as goal

pub returns-in-Ok : goal.returns-in-Ok
returns-in-Ok c = absurd (c.requires.absent c.in-Ok.place c.in-Ok.ensures.found)
