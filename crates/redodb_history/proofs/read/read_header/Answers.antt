use Rattle.std.proofs.Common.{◌≡◌, ◌∙◌, sym, subst, arith, decimal, drop, length}
use Rattle.std.proofs.lemmas.Grind.{common_steps}
use Rattle.std.specs.Prelude.{Contains}
use Rattle.std.proofs.lemmas.Fmt.{decimal_injective}
use Rattle.redodb_model.specs.Names.{Text}
use Rattle.redodb_history.proofs.TextCuts.{header_words, header_parts, has_lf, no_lf_in_header, one_cut}
use Rattle.redodb_history.proofs.read.read_header.Goals.{in_default-read_number-via-in-Some-read_number+else-count-le-MOST_LINES, in_default-read_number-via-in_default-read_number}
use Rattle.redodb_history.proofs.read.read_header.Goals as goal

pub returns-in_default-clause-fault : goal.returns-in_default-clause-fault
returns-in_default-clause-fault c count rest few e =
    c.in_default.ensures (subst (λ (t : Text). Contains t 10) (sym (e ∙ header_parts count rest))
    (has_lf (header_words count) rest 10))

pub returns-in_default-read_number-clause-fault : goal.returns-in_default-read_number-clause-fault
returns-in_default-read_number-clause-fault c count rest few e =
    let header = one_cut c.in-Some.header.now (header_words count) c.in-Some.rest.now rest 10
    c.in-Some.ensures.1 (no_lf_in_header count (omega arith)) (sym c.in-Some.ensures.0 ∙ e
    ∙ header_parts count rest) in
    let word : c.in-Some-strip_prefix.word.now ≡ decimal count =
    c.in-Some-strip_prefix.ensures.cases.1
    ∙ (λ i. drop (length (c.as_slice.ensures i)) (header.0 i)) in
    elim c.in_default-read_number.branch [
      | in_default-read_number-via-in-Some-read_number+else-count-le-MOST_LINES w ↦
          let same : w.in-Some-read_number.count ≡ count =
          decimal_injective w.in-Some-read_number.count count (omega arith) (omega arith)
          (sym w.in-Some-read_number.ensures ∙ word) in
          omega arith
      | in_default-read_number-via-in_default-read_number w ↦
          w.in_default-read_number.ensures count (omega arith) word
    ]

pub returns-in-Some-read_number-clause-read : goal.returns-in-Some-read_number-clause-read
returns-in-Some-read_number-clause-read c = grind (arith, common_steps)
