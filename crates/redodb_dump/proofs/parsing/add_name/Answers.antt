use Rattle.std.proofs.Common.{◌≡◌, ◌∙◌, ◌+◌, ◌<◌, ap, sym, true, List, Some, arith, length, slice_get, take}
use Rattle.std.proofs.lemmas.List.{length-take}
use Rattle.redodb_model.specs.Names.{Text}
use Rattle.redodb_names.specs.Names.{is_name, with_name}
use Rattle.redodb_dump.proofs.ReadLines.{number_is, one_more, own_cut, own_name}
use Rattle.redodb_dump.proofs.parsing.add_name.Goals as goal

pub returns-then-not-is_name-clause-only : goal.returns-then-not-is_name-clause-only
returns-then-not-is_name-clause-only c = λ all st more is below names whole.
    let cut =
    own_cut all st is c.args.n below more c.args.left.now c.in-Some.line.now c.in-Some.rest.now
    c.cut_at_space.result.0.now c.cut_at_space.result.1.now whole c.in-Some.ensures
    c.cut_at_space.ensures in
    let good : is_name c.cut_at_space.result.0.now ≡ true =
    ap is_name cut.1 ∙ own_name all st is c.args.n below in
    absurd cc

pub returns-in-Ok-clause-only : goal.returns-in-Ok-clause-only
returns-in-Ok-clause-only c = λ all st more is below names whole.
    let cut =
    own_cut all st is c.args.n below more c.args.left.now c.in-Some.line.now c.in-Some.rest.now
    c.cut_at_space.result.0.now c.cut_at_space.result.1.now whole c.in-Some.ensures
    c.cut_at_space.ensures in (
      cut.0,
      c.in-Ok.ensures.added ∙ (λ i. with_name (names i) (cut.1 i))
          ∙ one_more all c.args.n is.over.are_names.distinct below,
    )

pub returns-in-Ok-2-clause-only : goal.returns-in-Ok-2-clause-only
returns-in-Ok-2-clause-only c = λ all st more is below names whole.
    let cut =
    own_cut all st is c.args.n below more c.args.left.now c.in-Some.line.now c.in-Some.rest.now
    c.cut_at_space.result.0.now c.cut_at_space.result.1.now whole c.in-Some.ensures
    c.cut_at_space.ensures in
    let added : c.add.new.self ≡ take (c.args.n + 1) all =
    c.in-Ok.ensures.added ∙ (λ i. with_name (names i) (cut.1 i))
    ∙ one_more all c.args.n is.over.are_names.distinct below in
    let within : c.in-Ok.number < c.args.n + 1 =
    let least = c.in-Ok.ensures.within in
    let long = ap length added in
    omega (arith, length-take (c.args.n + 1) all, below) in
    absurd (c.if-number-n.false (number_is all is.over.are_names c.args.n below c.in-Ok.number
    within (ap (λ (ns : List Text). slice_get ns c.in-Ok.number) (sym added) ∙ c.in-Ok.ensures.number
    ∙ ap Some cut.1)))
