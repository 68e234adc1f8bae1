use Rattle.std.proofs.Common.{ℕ, ◌<◌, arith}
use Rattle.std.proofs.lemmas.List.{get_or_default}
use Rattle.std.proofs.lemmas.List.Elements.{recursion_from_All}
use Rattle.redodb_dump.proofs.forms.are_bytes.Goals as goal

pub returns : goal.returns
returns c =
    let bytes = c.args.bytes.now in
    recursion_from_All (λ (b : ℕ). b < 256) bytes
    (λ k d in'. omega (arith, get_or_default bytes k d 0 in', c.type_inv.bytes k))
