use Rattle.std.proofs.Common.{◌≡◌, ℕ, ◌+◌, ◌<◌, ◌≤◌, List, [], ◌∷◌, ◌++◌, map, length, get_or, take, true, refl, sym, subst, ◌∙◌, arith, Vec}
use Rattle.std.proofs.lemmas.Grind.{common_steps}
use Rattle.std.specs.Global.{Global}
use Rattle.std.proofs.lemmas.List.{map_push, take_more}
use Rattle.std.proofs.lemmas.Result.{err_from_is_err_and}
use Rattle.redodb_model.specs.Names.{text_at}
use Rattle.redodb_names.specs.Names.{is_name}
use Rattle.redodb_text.proofs.Added.{added_is, extends_then, all_below-Extends, texts-Extends}
use Rattle.redodb_text.proofs.Left.{prefix_left, prefix_kept, prefix_more}
use Rattle.redodb_text.proofs.NameLists.{texts_of, text_of, length-texts, all_at, AllBelow-push, fails_alike, rest_more, rest_none, rest_done}
use Rattle.redodb_text.proofs.name_lists.numbers_of.Goals as goal

pub number_of-requires-clause-name : goal.number_of-requires-clause-name
number_of-requires-clause-name c =
    let words = c.args.words.now in
    let i = c.loop-word.word-index in
    let lt : i < length (texts_of words) = omega (arith, length-texts words) in
    subst (λ (w : List ℕ). is_name w ≡ true) (text_of words i _ refl)
    (all_at is_name (texts_of words) i [] c.requires.names lt)

pub returns-in_err-number-clause-reads : goal.returns-in_err-number-clause-reads
returns-in_err-number-clause-reads c =
    let words = c.args.words.now in
    let i = c.loop-word.word-index in
    let lt : i < length (texts_of words) = omega (arith, length-texts words) in
    let p = err_from_is_err_and c.from_residual.result c.from_residual.ensures.1 in
    let none =
    rest_none _ c.args.names.now c.loop-word.names (texts_of words) i _ lt
    (text_of words i _ refl) c.loop-word.invariant.rest in
    rw (p.1, p.2) (fails_alike {X = ℕ} {Y = Vec ℕ Global} (λ n. c.number_of.new.names) (λ numbers.
    c.number_of.new.names) c.in_err-number.field-0.0 _ _ none c.in_err-number.ensures.reads)

pub returns-in_err-number-clause-left : goal.returns-in_err-number-clause-left
returns-in_err-number-clause-left c =
    let words = c.args.words.now in
    let p = err_from_is_err_and c.from_residual.result c.from_residual.ensures.1 in
    rw (p.1, p.2)
    (prefix_left _ c.args.names.now c.loop-word.names c.number_of.new.names (texts_of words)
    c.loop-word.word-index _ c.in_err-number.field-0.0 c.loop-word.invariant.prefix
    c.in_err-number.ensures.left c.in_err-number.ensures.reads)

pub returns-in_err-push-clause-left : goal.returns-in_err-push-clause-left
returns-in_err-push-clause-left c =
    let words = c.args.words.now in
    let i = c.loop-word.word-index in
    let lt : i < length (texts_of words) = omega (arith, length-texts words) in
    let so_far = c.loop-word.invariant in
    let p =
    err_from_is_err_and c.from_residual-in_err-push.result
    c.from_residual-in_err-push.ensures.1 in
    rw (p.1, p.2)
    (prefix_kept c.args.most c.args.names.now c.number_of.new.names (texts_of words) (i + 1)
    (prefix_more c.args.names.now c.loop-word.names c.number_of.new.names (texts_of words) i _
    so_far.few lt (text_of words i _ refl) c.in_ok-number.ensures.reads so_far.prefix))

pub loop-word-preserved : goal.loop-word-preserved
loop-word-preserved c =
    let words = c.args.words.now in
    let i = c.loop-word.word-index in
    let lt : i < length (texts_of words) = omega (arith, length-texts words) in
    let old = c.loop-word.names in
    let new = c.number_of.new.names in
    let before = c.loop-word.numbers.items in
    let n = c.in_ok-number.number in
    let so_far = c.loop-word.invariant in
    let kept : map (text_at new) before ≡ take i (texts_of words) =
    texts-Extends old new before c.in_ok-number.ensures.kept so_far.within ∙ so_far.numbers in
    let word : text_at new n ≡ get_or (texts_of words) i [] =
    c.in_ok-number.ensures.number ∙ sym (text_of words i _ refl) in
    record {
      rest = rest_more old (texts_of words) i _ new _ so_far.few lt
          (text_of words i _ refl) c.in_ok-number.ensures.reads so_far.rest;
      prefix = prefix_more c.args.names.now old new (texts_of words) i _ so_far.few lt
          (text_of words i _ refl) c.in_ok-number.ensures.reads so_far.prefix;
      few = (added_is old _ new so_far.few c.in_ok-number.ensures.reads).1;
      numbers = rw c.in_ok-push.ensures.items (map_push (text_at new) before n
          ∙ (λ j. kept j ++ word j ∷ []) ∙ sym (take_more (texts_of words) i [] lt));
      within = rw c.in_ok-push.ensures.items (AllBelow-push (length new) before n (all_below-Extends
          old new before c.in_ok-number.ensures.kept so_far.within) c.in_ok-number.ensures.within);
      kept = extends_then c.args.names.now old new so_far.kept c.in_ok-number.ensures.kept;
    }

pub returns-clause-reads : goal.returns-clause-reads
returns-clause-reads c =
    let words = c.args.words.now in
    let le : length (texts_of words) ≤ c.loop-word.word-index = omega (arith, length-texts words) in
    rest_done c.args.names.now c.loop-word.names
    (texts_of words) c.loop-word.word-index le c.loop-word.invariant.few c.loop-word.invariant.rest

pub returns-in_err-push-clause-kept : goal.returns-in_err-push-clause-kept
returns-in_err-push-clause-kept c =
    extends_then c.args.names.now c.loop-word.names c.number_of.new.names
    c.loop-word.invariant.kept c.in_ok-number.ensures.kept

pub returns-clause-numbers : goal.returns-clause-numbers
returns-clause-numbers c = grind (arith, common_steps)
