use Rattle.std.proofs.Common.{◌≡◌, ◌∙◌, sym, ap, Some, drop, arith}
use Rattle.redodb_model.specs.State.{Builds}
use Rattle.redodb_dump.proofs.DumpWords.{same_number}
use Rattle.redodb_dump.proofs.reading_rows.mark_of.Goals as goal

pub returns-in_ok-read_number-in-98-clause-builds :
    goal.returns-in_ok-read_number-in-98-clause-builds
returns-in_ok-read_number-in-98-clause-builds c = λ builds few e.
    let rest : c.in_ok-letter.rest.now ≡ drop 1 c.args.word.now = grind arith in
    ap (λ b. Some (Builds b))
    (same_number c.in_ok-read_number-in-98.field-0 builds (omega arith) (omega arith)
    (sym c.in_ok-read_number-in-98.ensures ∙ rest ∙ ap (drop 1) e))
