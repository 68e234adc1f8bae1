use Rattle.std.proofs.Common.{◌≡◌, ◌<◌, ◌∙◌, get_or, length, sym, ap, arith, rules}
use Rattle.redodb_model.specs.Names.{Text}
use Rattle.redodb_text.proofs.Numerals.{printed_some, printed_zero, read_as}
use Rattle.redodb_text.proofs.numbers.read_number.Goals.{else-word-eq48-via-then-word-eq48+else-word-gt1, else-word-eq48-via-else-word-eq48}
use Rattle.redodb_text.proofs.numbers.read_number.Goals as goal

pub returns-then-is_empty : goal.returns-then-is_empty
returns-then-is_empty c n le e =
    let none : length c.args.word.now ≡ 0 = search rules in
    omega (arith, none, ap length e, printed_some n le)

pub returns-then-word-gt1 : goal.returns-then-word-gt1
returns-then-word-gt1 c n le e =
    let first : get_or c.args.word.now 0 0 ≡ 48 = omega arith in
    let long = printed_zero n le (sym (ap (λ (w : Text). get_or w 0 0) e) ∙ first) in
    omega (arith, ap length e, long)

pub returns : goal.returns
returns c =
    let word = c.args.word.now in
    let some : 0 < length word = search rules in
    let alone : get_or word 0 0 ≡ 48 → length word ≡ 1 = λ first. elim c.else-word-eq48.branch [
      | else-word-eq48-via-then-word-eq48+else-word-gt1 w ↦ omega arith
      | else-word-eq48-via-else-word-eq48 w ↦ absurd (omega (arith, first))
    ] in
    read_as word c.value_of.result some alone c.value_of.ensures
