use Rattle.std.proofs.lemmas.Result.{err_from_is_err_and}
use Rattle.redodb_text.specs.Support.Reading.{words_after}
use Rattle.redodb_text.proofs.Left.{words_left}
use Rattle.redodb_text.proofs.forms.form_of.Goals as goal

pub returns-in_err-target-in-Listing-clause-left :
    goal.returns-in_err-target-in-Listing-clause-left
returns-in_err-target-in-Listing-clause-left c =
    let p =
    err_from_is_err_and c.from_residual-in_err-target-in-Listing.result
    c.from_residual-in_err-target-in-Listing.ensures.1 in
    rw (p.1, p.2)
    (words_left _ c.args.names.now c.args.text.now _ (words_after c.in-Some.args)
    c.target_and_numbers_of.new.names c.in_err-target-in-Listing.field-0.0
    c.in-Some.ensures.words c.in_err-target-in-Listing.ensures.left)

pub returns-in_ok-target-in-Listing-clause-within :
    goal.returns-in_ok-target-in-Listing-clause-within
returns-in_ok-target-in-Listing-clause-within c =
    c.command-in-Listing.ensures.below _ c.in_ok-target-in-Listing.ensures.within

pub returns-in_ok-check_no_words-in-Bare-clause-within :
    goal.returns-in_ok-check_no_words-in-Bare-clause-within
returns-in_ok-check_no_words-in-Bare-clause-within c = c.command-in-Bare.ensures.below _
