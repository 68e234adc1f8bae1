-- Adding the names of a reply that was read.
use Rattle.std.proofs.Common.{◌≡◌, ◌+◌, ◌≤◌, Bool, true, false, cond, List, [], ◌∷◌, ◌++◌, length, Ok, Err, refl, sym, ◌∙◌, arith, eqb, leb, length-append, ℕ}
use Rattle.std.specs.Prelude.{bytes_eq}
use Rattle.std.proofs.lemmas.Bool.{le-leb}
use Rattle.std.proofs.lemmas.Bool.Decides.{nat_tests}
use Rattle.std.proofs.lemmas.Slice.Eq.{bytes_eq-Decides}
use Rattle.redodb_names.specs.Names.{has}
use Rattle.redodb_model.specs.Names.{Text}
use Rattle.redodb_model.specs.Reply.{Okay}
use Rattle.redodb_text.specs.declared.fault.LineFault.TheVariants.{TooManyNames}
use Rattle.redodb_text.specs.Support.Reading.{added, all_added}
use Rattle.redodb_text.specs.Support.ReplyReading.{reply_in, reply_words_in, reply_args_in}

pub none_added : {most : ℕ} (names : List Text) → length names ≤ most
    → all_added most names [] ≡ Ok names
unfolding all_added
none_added {most} names few =
    let room : leb (length names) most ≡ true = le-leb _ _ few in
    rw room refl

-- one name is added as it is alone
pub one_all_added : {most : ℕ} (names : List Text) (t : Text) → length names ≤ most
    → all_added most names (t ∷ []) ≡ added most names t
unfolding all_added
one_all_added {most} names t few = by (has names t) (eqb (length names) most) refl
  where
    longer : length (names ++ t ∷ []) ≡ length names + 1
    longer = length-append names (t ∷ [])

    by : (b d : Bool) → eqb (length names) most ≡ d
        → cond (leb (length (cond b names (names ++ t ∷ []))) most)
        (Ok (cond b names (names ++ t ∷ []))) (Err TooManyNames)
        ≡ cond b (Ok names) (cond d (Err TooManyNames) (Ok (names ++ t ∷ [])))
    by true d full =
        let room : leb (length names) most ≡ true = le-leb _ _ few in
        rw room refl
    by false true full =
        let over : leb (length (names ++ t ∷ [])) most ≡ false =
        grind (arith, nat_tests, longer, full) in
        rw over refl
    by false false full =
        let room : leb (length (names ++ t ∷ [])) most ≡ true =
        grind (arith, nat_tests, longer, full, few) in
        rw room refl

-- the shortest reply
pub okay_read : {most : ℕ} (names : List Text) (text okay : Text) → length names ≤ most
    → okay ≡ 111 ∷ 107 ∷ [] → true ≡ bytes_eq text okay
    → reply_in most names text ≡ Ok (Okay, names)
unfolding reply_in reply_words_in reply_args_in
okay_read {most} names text okay few ok same =
    let is : text ≡ 111 ∷ 107 ∷ [] = (bytes_eq-Decides text okay).0 (sym same) ∙ ok in
    let none : all_added most names [] ≡ Ok names = none_added names few in
    rw is (rw none refl)
