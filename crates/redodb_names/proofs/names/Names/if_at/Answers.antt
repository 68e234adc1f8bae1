use Rattle.std.proofs.Common.{[], Some, sym, ap, ◌∙◌, arith}
use Rattle.std.proofs.lemmas.Option.{slice_get-get_or, slice_get_within, get_or_from_slice_get}
use Rattle.std.proofs.lemmas.Slice.Eq.{bytes_eq-Decides}
use Rattle.redodb_names.proofs.names.Names.if_at.Goals as goal
use Rattle.redodb_names.proofs.names.Names.if_at.Goals.{else-number-len-via-then-number-len+else-eq, else-number-len-via-else-number-len}

pub returns-then-eq-clause-found : goal.returns-then-eq-clause-found
returns-then-eq-clause-found c =
    let same =
    (bytes_eq-Decides c.text.result.now c.args.text.now).0 (sym c.if-eq.ensures) in
    slice_get-get_or c.args.self.now c.args.number []
    (omega (arith, c.if-number-len.true, c.len.ensures.count))
    ∙ ap Some (sym c.text.ensures ∙ same)

pub returns-else-number-len-clause-there : goal.returns-else-number-len-clause-there
returns-else-number-len-clause-there c got =
    elim c.else-number-len.branch [
      | else-number-len-via-then-number-len+else-eq w ↦ w.if-eq.ensures
          ∙ (bytes_eq-Decides w.text.result.now c.args.text.now).1
          (w.text.ensures
          ∙ get_or_from_slice_get c.args.self.now c.args.number c.args.text.now [] got)
      | else-number-len-via-else-number-len w ↦ absurd (omega (
        arith,
        slice_get_within c.args.self.now c.args.number c.args.text.now got,
        w.if-number-len.false,
        c.len.ensures.count,
      ))
    ]
