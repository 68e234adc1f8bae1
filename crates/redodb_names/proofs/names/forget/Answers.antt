use Rattle.std.proofs.Common.{◌≡◌, ◌∙◌, ℕ, suc, ◌-◌, ◌<◌, List, None, true, take, subst, arith}
use Rattle.std.proofs.lemmas.Map.Text.{hash_map_updates_text}
use Rattle.redodb_names.specs.Support.Names.{AreNumbered}
use Rattle.redodb_names.specs.Names.{is_name}
use Rattle.redodb_names.proofs.Ascii.{name_is_ascii}
use Rattle.redodb_names.proofs.Numbered.{AreNumbered-less, each-at, got-at, untaken}
use Rattle.redodb_names.proofs.names.forget.Goals as goal

pub ascii_text-requires : goal.ascii_text-requires
ascii_text-requires c =
    let texts = c.args.texts.now in
    let last = c.loop-number.number - 1 in
    let text = c.get.result.now in
    let numbered = c.loop-number.invariant.numbered in
    let less : last < c.loop-number.number = omega (arith, c.loop-number-test.true) in
    name_is_ascii text
    (each-at (λ (name : List ℕ). is_name name ≡ true) (take c.loop-number.number texts) last text
    numbered.are.each
    (untaken c.loop-number.number texts last text
    (got-at c.loop-number.number texts last text numbered.long less c.get.ensures) less))

pub loop-number-init : goal.loop-number-init
loop-number-init c = record { numbered = c.requires.numbered; from = c.requires.order }

pub loop-number-preserved : goal.loop-number-preserved
loop-number-preserved c =
    let texts = c.args.texts.now in
    let last = c.loop-number.number - 1 in
    let text = c.ascii_text.result.now in
    let numbered = c.loop-number.invariant.numbered in
    let after : c.loop-number.number ≡ suc last = omega (arith, c.loop-number-test.true) in
    record {
      numbered =
          AreNumbered-less c.loop-number.numbers c.remove.new.self last texts text
          (subst (λ (count : ℕ). AreNumbered c.loop-number.numbers count texts) after numbered)
          (got-at c.loop-number.number texts last text numbered.long
          (omega (arith, c.loop-number-test.true)) (c.ascii_text.ensures ∙ c.get.ensures))
          (hash_map_updates_text text c.loop-number.numbers c.remove.new.self None
          c.remove.ensures.updates);
      from = omega (arith, c.loop-number-test.true);
    }

pub returns : goal.returns
returns c =
    let is : c.loop-number.number ≡ c.args.first =
    omega (arith, c.loop-number.invariant.from, c.loop-number-test.false) in
    subst (λ (count : ℕ). AreNumbered c.loop-number.numbers count c.args.texts.now) is
    c.loop-number.invariant.numbered
