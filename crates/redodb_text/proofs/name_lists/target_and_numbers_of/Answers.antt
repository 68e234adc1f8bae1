use Rattle.std.proofs.Common.{◌≡◌, ◌∙◌, ap, sym, ℕ, map, Vec, arith}
use Rattle.std.proofs.lemmas.Grind.{common_steps}
use Rattle.std.specs.Global.{Global}
use Rattle.std.proofs.lemmas.Result.{err_from_is_err_and}
use Rattle.redodb_model.specs.Names.{text_at}
use Rattle.redodb_text.proofs.Added.{text_at-Extends}
use Rattle.redodb_text.proofs.Left.{some_left}
use Rattle.redodb_text.proofs.NameLists.{texts_of, fails_alike, form_without_target, form_without_names, form_with_names}
use Rattle.redodb_text.proofs.Numbered.{form_known}
use Rattle.redodb_text.proofs.name_lists.target_and_numbers_of.Goals as goal

pub returns-in-Some-clause-reads : goal.returns-in-Some-clause-reads
returns-in-Some-clause-reads c form =
    let words = rw c.in-Some.is at c.in_ok-known.ensures.words in
    let below = rw c.in-Some.is at c.in_ok-known.ensures.below in
    let count = rw c.in-Some.is at c.in_ok-known.ensures.count in
    rw (c.remember.ensures, c.in_ok-known.ensures.kept)
    (form_known _ form c.args.names.now _ c.in-Some.known.0 c.in-Some.known.1.items
    c.are_names.ensures c.requires.few below count.0 count.1 words)

pub returns-in_err-number-clause-reads : goal.returns-in_err-number-clause-reads
returns-in_err-number-clause-reads c form =
    let words = sym (ap texts_of c.deref.ensures.value ∙ c.in_ok-words.ensures) in
    let names = c.number_of.new.names in
    let p =
    err_from_is_err_and c.from_residual-in_err-number.result
    c.from_residual-in_err-number.ensures.1 in
    let none =
    form_without_target _ form c.args.names.now (texts_of c.deref.result.now) _ _
    c.in_ok-target.ensures.reads in
    rw (words, p.1, p.2)
    (fails_alike {X = ℕ} {Y = ℕ × Vec ℕ Global} (λ n. names)
    (λ x. (form (text_at names x.0) (map (text_at names) x.1.items), names))
    c.in_err-number.field-0.0 _ _ none
    (rw c.in_ok-known.ensures.kept at c.in_err-number.ensures.reads))

pub returns-in_err-numbers-clause-reads : goal.returns-in_err-numbers-clause-reads
returns-in_err-numbers-clause-reads c form =
    let words = sym (ap texts_of c.deref.ensures.value ∙ c.in_ok-words.ensures) in
    let names = c.numbers_of.new.names in
    let p =
    err_from_is_err_and c.from_residual-in_err-numbers.result
    c.from_residual-in_err-numbers.ensures.1 in
    let none =
    form_without_names form c.args.names.now (texts_of c.deref.result.now) _ _
    c.number_of.new.names c.requires.few c.in_ok-target.ensures.reads
    (rw c.in_ok-known.ensures.kept at c.in_ok-number.ensures.reads) in
    rw (words, p.1, p.2)
    (fails_alike {X = Vec ℕ Global} {Y = ℕ × Vec ℕ Global} (λ numbers. names)
    (λ x. (form (text_at names x.0) (map (text_at names) x.1.items), names))
    c.in_err-numbers.field-0.0 _ _ none c.in_err-numbers.ensures.reads)

pub returns-clause-reads : goal.returns-clause-reads
returns-clause-reads c form =
    let words = sym (ap texts_of c.deref.ensures.value ∙ c.in_ok-words.ensures) in
    let new = c.numbers_of.new.names in
    let t : text_at new c.in_ok-number.number ≡ c.in_ok-target.target.now =
    text_at-Extends c.number_of.new.names new c.in_ok-number.number c.numbers_of.ensures.kept
    c.in_ok-number.ensures.within ∙ c.in_ok-number.ensures.number in
    let ts = c.in_ok-numbers.ensures.numbers in
    rw (words, t, ts)
    (form_with_names form c.args.names.now (texts_of c.deref.result.now) _ _
    c.number_of.new.names new c.requires.few c.in_ok-target.ensures.reads
    (rw c.in_ok-known.ensures.kept at c.in_ok-number.ensures.reads) c.in_ok-numbers.ensures.reads)

pub returns-in_err-numbers-clause-left : goal.returns-in_err-numbers-clause-left
returns-in_err-numbers-clause-left c =
    let words = sym (ap texts_of c.deref.ensures.value ∙ c.in_ok-words.ensures) in
    let p =
    err_from_is_err_and c.from_residual-in_err-numbers.result
    c.from_residual-in_err-numbers.ensures.1 in
    rw (words, p.1, p.2)
    (some_left c.args.names.now c.number_of.new.names c.numbers_of.new.names
    (texts_of c.deref.result.now) _ _ c.in_err-numbers.field-0.0 c.requires.few
    c.in_ok-target.ensures.reads (rw c.in_ok-known.ensures.kept at c.in_ok-number.ensures.reads)
    c.in_err-numbers.ensures.left)

pub returns-clause-within : goal.returns-clause-within
returns-clause-within c = grind (arith, common_steps)
