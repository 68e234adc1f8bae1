use Rattle.std.proofs.Common.{◌≡◌, ◌∙◌, sym}
use Rattle.std.specs.Prelude.{codes}
use Rattle.std.proofs.lemmas.Slice.Eq.{bytes_eq-Decides}
use Rattle.redodb_dump.proofs.DumpWords.{encoded_is_long}
use Rattle.redodb_dump.proofs.reading.digest_of.Goals as goal

pub returns-then-eq-clause-digest : goal.returns-then-eq-clause-digest
returns-then-eq-clause-digest c =
    let dash : c.args.word.now ≡ codes "-" =
    (bytes_eq-Decides c.args.word.now c.as_slice.result.now).0 (sym c.if-eq.ensures)
    ∙ c.as_slice.ensures in
    λ digest is e. absurd (encoded_is_long digest is (sym e ∙ dash))
