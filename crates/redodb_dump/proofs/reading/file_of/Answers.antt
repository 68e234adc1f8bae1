use Rattle.std.proofs.Common.{◌≡◌, ◌∙◌, sym}
use Rattle.std.specs.Prelude.{codes}
use Rattle.std.proofs.lemmas.Slice.Eq.{bytes_eq-Decides}
use Rattle.redodb_live.proofs.OneAnswer.{stamp_is_not_none}
use Rattle.redodb_dump.proofs.reading.file_of.Goals as goal

pub returns-then-eq-clause-stamp : goal.returns-then-eq-clause-stamp
returns-then-eq-clause-stamp c =
    let dash : c.args.word.now ≡ codes "-" =
    (bytes_eq-Decides c.args.word.now c.as_slice.result.now).0 (sym c.if-eq.ensures)
    ∙ c.as_slice.ensures in
    λ is. absurd (stamp_is_not_none c.args.word.now is dash)
