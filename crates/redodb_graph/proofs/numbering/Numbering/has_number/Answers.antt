use Rattle.std.proofs.Common.{◌≡◌, ◌∙◌, Some, ap, sym}
use Rattle.std.proofs.lemmas.Option.{slice_get-get_or}
use Rattle.std.proofs.lemmas.Slice.Eq.{bytes_eq-Decides}
use Rattle.redodb_graph.proofs.numbering.Numbering.has_number.Goals as goal

pub returns-in-Some : goal.returns-in-Some
returns-in-Some c = λ equal.
    let there = c.in-Some.there.now in
    let at = c.in-Some.ensures.lookup.3 in
    let same : there ≡ c.args.stamp.now =
    sym c.bytes.ensures.bytes
    ∙ (bytes_eq-Decides c.bytes.result.now c.bytes-in-Some.result.now).0
    (sym c.eq.ensures ∙ equal)
    ∙ c.bytes-in-Some.ensures.bytes in
    rw (← c.self.view_is, ← c.as_slice.ensures.keys)
    (slice_get-get_or c.as_slice.result.now c.args.number there at.0
    ∙ ap Some (sym (at.1 there) ∙ same))
