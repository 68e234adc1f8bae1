use Rattle.std.proofs.Common.{◌≡◌, ◌∙◌, Bool, sym, ap, refl, arith, drop}
use Rattle.std.specs.Prelude.{bytes_eq, find}
use Rattle.redodb_model.specs.Names.{Text}
use Rattle.redodb_commands.specs.declared.kind.Kind.{Kind}
use Rattle.redodb_text.specs.Texts.{word_of}
use Rattle.redodb_text.specs.Questions.{all_kinds}
use Rattle.redodb_text.proofs.Steps.{find_past, find_here}
use Rattle.redodb_text.proofs.keywords.kind_of_word.Goals as goal

-- whether the word is that of the kind
abbrev is_of : Text → Kind → Bool
is_of word kind = bytes_eq word (word_of kind)

pub loop-kind-init : goal.loop-kind-init
loop-kind-init c = refl

pub loop-kind-preserved : goal.loop-kind-preserved
loop-kind-preserved c =
    c.loop-kind.invariant
    ∙ find_past (is_of c.args.word.now) all_kinds c.loop-kind.kind-index _
    c.loop-kind-test.true
    (ap (bytes_eq c.args.word.now) (sym c.keyword.ensures) ∙ sym c.if-eq.ensures)

pub returns-then-eq : goal.returns-then-eq
returns-then-eq c =
    sym (c.loop-kind.invariant
    ∙ find_here (is_of c.args.word.now) all_kinds c.loop-kind.kind-index _
    c.loop-kind-test.true
    (ap (bytes_eq c.args.word.now) (sym c.keyword.ensures) ∙ sym c.if-eq.ensures))

pub returns : goal.returns
returns c =
    let whole : c.loop-kind.kind-index ≡ 14 =
    omega (arith, c.loop-kind.auto.kind-index-end, c.loop-kind-test.false) in
    sym (c.loop-kind.invariant
    ∙ ap (λ i. find (is_of c.args.word.now) (drop i all_kinds)) whole)
