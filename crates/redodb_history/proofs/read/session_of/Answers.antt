use Rattle.std.proofs.Common.{◌≡◌, ◌+◌, ◌∙◌, sym, arith}
use Rattle.std.proofs.lemmas.Fmt.{decimal_injective}
use Rattle.redodb_history.proofs.read.session_of.Goals.{then-number-eq0-via-then-number-eq0, then-number-eq0-via-else-number-eq0+then-number-most}
use Rattle.redodb_history.proofs.read.session_of.Goals as goal

pub returns-then-number-eq0 : goal.returns-then-number-eq0
returns-then-number-eq0 c session is =
    let same : c.in_ok-number.number ≡ session + 1 =
    decimal_injective c.in_ok-number.number (session + 1) (omega arith) (omega arith)
    (sym c.in_ok-number.ensures ∙ is.1) in
    elim c.then-number-eq0.branch [
      | then-number-eq0-via-then-number-eq0 w ↦ omega arith
      | then-number-eq0-via-else-number-eq0+then-number-most w ↦ omega arith
    ]
