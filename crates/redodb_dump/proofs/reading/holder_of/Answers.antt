use Rattle.std.proofs.Common.{◌≡◌, ◌∙◌, ◌+◌, sym, arith}
use Rattle.std.specs.Prelude.{codes}
use Rattle.std.proofs.lemmas.Slice.Eq.{bytes_eq-Decides}
use Rattle.redodb_dump.proofs.DumpWords.{number_is_no_dash}
use Rattle.redodb_dump.proofs.reading.holder_of.Goals as goal

pub returns-then-eq-clause-session : goal.returns-then-eq-clause-session
returns-then-eq-clause-session c =
    let dash : c.args.word.now ≡ codes "-" =
    (bytes_eq-Decides c.args.word.now c.as_slice.result.now).0 (sym c.if-eq.ensures)
    ∙ c.as_slice.ensures in
    λ s less e. absurd (number_is_no_dash (s + 1) (omega (arith, less)) (sym e ∙ dash))
