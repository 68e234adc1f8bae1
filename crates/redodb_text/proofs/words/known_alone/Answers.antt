use Rattle.redodb_text.proofs.Numbered.{numbered, one_name}
use Rattle.redodb_text.proofs.words.known_alone.Goals as goal

pub returns : goal.returns
returns c =
    let is =
    numbered c.args.names.now c.in_ok-text.text.now c.in_ok-number.number c.are_names.ensures
    c.in_ok-number.ensures.found in
    rw c.in_ok-text.was (c.in_ok-text.text.now, one_name c.in_ok-text.text.now is.name, is)
