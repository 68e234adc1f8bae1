use Rattle.std.proofs.Common.{◌≡◌, sym, ap, ◌∙◌, arith}
use Rattle.std.proofs.lemmas.Fmt.{decimal_injective}
use Rattle.redodb_text.specs.Support.ReplyReading.{grant_in}
use Rattle.redodb_text.proofs.ReplyWords.{grant_read, grant_refused, one_grant}
use Rattle.redodb_text.proofs.reply_words.grant_of.Goals as goal

pub returns-in-Some-read_number : goal.returns-in-Some-read_number
returns-in-Some-read_number c =
    rw (c.in-Some.is, one_grant c.in-Some.words.now) (ap grant_in c.in-Some-read_number.ensures
    ∙ grant_read c.in-Some-read_number.grant (omega arith, omega arith))

pub returns-in_default-read_number : goal.returns-in_default-read_number
returns-in_default-read_number c =
    rw (c.in-Some.is, one_grant c.in-Some.words.now) (grant_refused c.in-Some.words.now (λ g is e.
    let same : c.in-Some-read_number.grant ≡ g =
    decimal_injective c.in-Some-read_number.grant g (omega arith) (omega (arith, is.1))
    (sym c.in-Some-read_number.ensures ∙ e) in
    omega (arith, same, is.0)))

pub returns-in_default-read_number-2 : goal.returns-in_default-read_number-2
returns-in_default-read_number-2 c =
    rw (c.in-Some.is, one_grant c.in-Some.words.now) (grant_refused c.in-Some.words.now (λ g is e.
    c.in_default-read_number.ensures g is.1 e))
