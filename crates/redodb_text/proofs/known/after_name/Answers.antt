use Rattle.redodb_text.proofs.Numbered.{name_alone, name_before_space}
use Rattle.redodb_text.proofs.known.after_name.Goals as goal

pub returns-in-None : goal.returns-in-None
returns-in-None c =
    let parts = c.in_ok-first.ensures.cases in
    name_alone c.args.name.now c.args.text.now c.in_ok-first.first.now c.in_ok-first.rest.now
    c.requires (parts.1, parts.2) c.if-ne.ensures c.in-None.ensures.cases

pub returns-in-Some-eq32-default : goal.returns-in-Some-eq32-default
returns-in-Some-eq32-default c =
    let parts = c.in_ok-first.ensures.cases in
    name_before_space c.args.name.now c.args.text.now c.in_ok-first.first.now
    c.in_ok-first.rest.now c.in-Some-eq32-default.others.now
    c.in-Some-eq32-default.field-0-0.now c.requires (parts.1, parts.2) c.if-ne.ensures
    c.in-Some-eq32-default.ensures.cases.0 c.in-Some-eq32-default.field-0-0-test
