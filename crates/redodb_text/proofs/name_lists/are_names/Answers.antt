use Rattle.std.proofs.Common.{◌≡◌, ◌<◌, ◌≤◌, ◌∙◌, ◌&&◌, [], true, length, get_or, sym, ap, refl, arith}
use Rattle.std.specs.List.{list_all}
use Rattle.std.proofs.lemmas.List.{take_all}
use Rattle.std.proofs.lemmas.List.Folds.{list_all_at, list_all_more}
use Rattle.redodb_names.specs.Names.{is_name}
use Rattle.redodb_text.proofs.NameLists.{texts_of, text_of, length-texts}
use Rattle.redodb_text.proofs.name_lists.are_names.Goals as goal

pub returns-then-not-is_name : goal.returns-then-not-is_name
returns-then-not-is_name c =
    let words = c.args.words.now in
    let i = c.loop-word.word-index in
    let lt : i < length (texts_of words) = omega (arith, length-texts words) in
    sym (list_all_at is_name (texts_of words) i [] lt
    (ap is_name (text_of words i _ refl) ∙ sym c.is_name.ensures ∙ c.if-not-is_name.true))

pub loop-word-preserved : goal.loop-word-preserved
loop-word-preserved c =
    let words = c.args.words.now in
    let i = c.loop-word.word-index in
    let lt : i < length (texts_of words) = omega (arith, length-texts words) in
    let good : is_name (get_or (texts_of words) i []) ≡ true =
    ap is_name (text_of words i _ refl) ∙ sym c.is_name.ensures ∙ c.if-not-is_name.false in
    list_all_more is_name (texts_of words) i [] lt ∙ (λ j. c.loop-word.invariant j && good j)

pub returns : goal.returns
returns c =
    let words = c.args.words.now in
    let le : length (texts_of words) ≤ c.loop-word.word-index = omega (arith, length-texts words) in
    sym (ap (list_all is_name) (sym (take_all c.loop-word.word-index (texts_of words) le))
    ∙ c.loop-word.invariant)
