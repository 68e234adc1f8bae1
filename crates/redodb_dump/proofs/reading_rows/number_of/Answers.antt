use Rattle.std.proofs.Common.{◌∙◌, ◌<◌, ◌^◌, sym, ap, Some, arith}
use Rattle.redodb_dump.proofs.DumpWords.{same_number}
use Rattle.redodb_dump.proofs.reading_rows.number_of.Goals as goal

pub returns-then-n-least-clause-only : goal.returns-then-n-least-clause-only
returns-then-n-least-clause-only c = λ n e least below.
    let small : c.in_ok-n.n < 2 ^ 32 = omega arith in
    let same =
    same_number c.in_ok-n.n n (omega arith) (omega arith) (sym c.in_ok-n.ensures ∙ e) in
    absurd (omega arith)

pub returns-then-n-count-clause-only : goal.returns-then-n-count-clause-only
returns-then-n-count-clause-only c = λ n e least below.
    let small : c.in_ok-n.n < 2 ^ 32 = omega arith in
    let same =
    same_number c.in_ok-n.n n (omega arith) (omega arith) (sym c.in_ok-n.ensures ∙ e) in
    absurd (omega arith)

pub returns-clause-only : goal.returns-clause-only
returns-clause-only c = λ n e least below.
    ap Some (same_number c.in_ok-n.n n (omega arith) (omega arith) (sym c.in_ok-n.ensures ∙ e))
