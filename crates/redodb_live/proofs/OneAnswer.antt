-- A line has one answer: its words are read back.
use Rattle.std.proofs.Common.{◌≡◌, ℕ, zero, suc, ◌+◌, ◌<◌, ◌≤◌, Bool, true, false, List, [], ◌∷◌, ◌++◌, length, get_or, drop, Option, Some, None, IfSome, refl, sym, ap, ◌∙◌, arith, if◌then◌else◌, append_assoc}
use Rattle.std.specs.Prelude.{codes, decimal, bytes_eq}
use Rattle.std.specs.List.{AllByRecursion, list_all}
use Rattle.std.specs.Str.{all_ascii_digits}
use Rattle.std.proofs.lemmas.Fmt.{decimal_digit, decimal_injective}
use Rattle.std.proofs.lemmas.List.{append_cancel_right}
use Rattle.redodb_names.specs.Names.{is_name}
use Rattle.redodb_model.specs.Names.{Text, is_visible}
use Rattle.redodb_model.specs.State.{TargetState, Idle, Building, Built, Failed}
use Rattle.redodb_model.specs.Deps as model
use Rattle.redodb_model.specs.Users.{Users}
use Rattle.redodb_model.specs.Why as whys
use Rattle.redodb_model.specs.Why.{Reason, end_of}
use Rattle.redodb_model.proofs.Members.{all_joined}
use Rattle.redodb_commands.specs.Stamp.{is_stamp}
use Rattle.redodb_text.specs.Texts.{spaced, stamp_word}
use Rattle.redodb_text.specs.Questions.{words_of}
use Rattle.redodb_text.specs.Inquiries.{inquiry_word}
use Rattle.redodb_text.specs.declared.inquiries.Inquiry.{Inquiry}
use Rattle.redodb_text.specs.declared.inquiries.Inquiry.TheVariants as inquiries
use Rattle.redodb_text.proofs.Numerals.{printed_digits}
use Rattle.redodb_text.proofs.ReplyWords.{grant_is_visible}
use Rattle.redodb_text.proofs.Spaced.{IsVisible, name_is_visible, stamp_is_visible, stamp_is_no_dash, words_of-spaced}
use Rattle.redodb_text.proofs.NameLists.{names_are_visible}
use Rattle.redodb_history.proofs.CutOnce.{same_prefix}
use Rattle.redodb_live.specs.Answers.{Answer, Cause, Rows, Uses, Standing, inquiry_of, answer_words, answer_line, reason_word, reason_name, why_words, counted, flag_word, deps_words, users_words, stage_words, holder_word}
use Rattle.redodb_live.specs.Support.AnswerForms.{HasReasonForm, AreCountedNames, HasStateForm, HasAnswerForm}

abbrev first_of : List Text → Text
first_of words = get_or words 0 []

-- numbers

number_is_visible : (n : ℕ) → n ≤ 4294967295 → IsVisible (decimal n)
number_is_visible zero le = ap (λ w. list_all is_visible w) (decimal_digit 0 (omega arith))
number_is_visible (suc n) le = grant_is_visible (suc n) (omega arith, le)

same_number : (m n : ℕ) → m ≤ 4294967295 → n ≤ 4294967295 → decimal m ≡ decimal n → m ≡ n
same_number m n first second e =
    decimal_injective m n (omega (arith, first)) (omega (arith, second)) e

same_session : (m n : ℕ) → m < 65536 → n < 65536 → decimal (m + 1) ≡ decimal (n + 1) → m ≡ n
same_session m n first second e =
    omega (arith, same_number (m + 1) (n + 1) (omega (arith, first)) (omega (arith, second)) e)

number_is_no_dash : (n : ℕ) → n ≤ 4294967295 → decimal n ≡ codes "-" → ⊥
number_is_no_dash n le e =
    let no_digit : false ≡ true = ap all_ascii_digits (sym e) ∙ printed_digits n le in
    absurd cc

-- why

abbrev reason_from : Text → Text → Reason Text
reason_from word name =
    if bytes_eq word (codes "building") then whys.Building
    else if bytes_eq word (codes "failed") then whys.Failed
    else if bytes_eq word (codes "edited") then whys.Edited
    else if bytes_eq word (codes "always") then whys.Always
    else if bytes_eq word (codes "appeared") then whys.Appeared name
    else whys.Changed name

reason_back : (t : Text) (reason : Reason Text)
    → reason_from (reason_word reason) (reason_name t reason) ≡ reason
reason_back t whys.Building = refl
reason_back t reason = refl

same_why : (t : Text) (found other : Option (whys.Why Text))
    → why_words t found ≡ why_words t other → found ≡ other
same_why t None None e = refl
same_why t None (Some why) e = absurd (omega (arith, ap length e))
same_why t (Some why) None e = absurd (omega (arith, ap length e))
same_why t (Some why) (Some other) e =
    let word : reason_word why.reason ≡ reason_word other.reason = ap first_of e in
    let name : reason_name (end_of t why.names) why.reason
    ≡ reason_name (end_of t other.names) other.reason = ap (λ ws. get_or ws 1 []) e in
    let names : why.names ≡ other.names = ap (drop 3) e in
    let reason : why.reason ≡ other.reason =
    sym (reason_back (end_of t why.names) why.reason)
    ∙ (λ i. reason_from (word i) (name i))
    ∙ reason_back (end_of t other.names) other.reason in
    λ i. Some (record { names = names i; reason = reason i })

-- rows

same_counted : (names others rest more : List Text) → length names ≤ 4294967295
    → length others ≤ 4294967295 → counted names ++ rest ≡ counted others ++ more
    → (names ≡ others) × (rest ≡ more)
same_counted names others rest more le le' e =
    same_prefix names others rest more
    (same_number (length names) (length others) le le' (ap first_of e)) (ap (drop 1) e)

pub same_flag : (a b : Bool) → flag_word a ≡ flag_word b → a ≡ b
same_flag true true e = refl
same_flag false false e = refl
same_flag true false e = ap (λ w. bytes_eq w (codes "1")) e
same_flag false true e = ap (λ w. bytes_eq w (codes "1")) e

same_deps : (deps other : model.Deps Text)
    → AreCountedNames deps.change → AreCountedNames deps.created
    → AreCountedNames other.change → AreCountedNames other.created
    → deps_words deps ≡ deps_words other → deps ≡ other
same_deps deps other change created other_change other_created e =
    let changes = same_counted deps.change other.change
    (codes "created" ∷ counted deps.created ++ tail deps.always)
    (codes "created" ∷ counted other.created ++ tail other.always)
    change.1 other_change.1
    (parted deps ∙ ap (drop 1) e ∙ sym (parted other)) in
    let createds = same_counted deps.created other.created (tail deps.always) (tail other.always)
    created.1 other_created.1 (ap (drop 1) changes.1) in
    let always : deps.always ≡ other.always =
    same_flag deps.always other.always (ap (λ ws. get_or ws 1 []) createds.1) in
    λ i. record { change = changes.0 i; created = createds.0 i; always = always i }
  where
    tail : Bool → List Text
    tail always = codes "always" ∷ flag_word always ∷ []

    parted : (deps : model.Deps Text)
        → counted deps.change ++ (codes "created" ∷ counted deps.created ++ tail deps.always)
        ≡ drop 1 (deps_words deps)
    parted deps =
        sym (append_assoc (counted deps.change) (codes "created" ∷ counted deps.created)
        (tail deps.always))

same_users : (users other : Users Text) → AreCountedNames users.change
    → AreCountedNames other.change → users_words users ≡ users_words other → users ≡ other
same_users users other change other_change e =
    let changes = same_counted users.change other.change
    (codes "created" ∷ counted users.created) (codes "created" ∷ counted other.created)
    change.1 other_change.1 (ap (drop 1) e) in
    let createds : users.created ≡ other.created = ap (drop 2) changes.1 in
    λ i. record { change = changes.0 i; created = createds i }

-- states

abbrev stage_for : Text → TargetState
stage_for word =
    if bytes_eq word (codes "idle") then Idle
    else if bytes_eq word (codes "built") then Built
    else Failed

same_stage : (a b : TargetState) (rest more : List Text) → HasStateForm a → HasStateForm b
    → length rest ≡ length more → stage_words a ++ rest ≡ stage_words b ++ more
    → (a ≡ b) × (rest ≡ more)
same_stage (Building s) (Building r) rest more form other same e =
    (ap Building (same_session s r form other (ap (λ ws. get_or ws 1 []) e)), ap (drop 2) e)
same_stage (Building s) b rest more form other same e =
    absurd (omega (arith, ap length e, same))
same_stage a (Building r) rest more form other same e =
    absurd (omega (arith, ap length e, same))
same_stage a b rest more form other same e =
    (ap (λ ws. stage_for (first_of ws)) e, ap (drop 1) e)

same_holder : (a b : Option ℕ) → IfSome a (λ s. s < 65536) → IfSome b (λ s. s < 65536)
    → holder_word a ≡ holder_word b → a ≡ b
same_holder None None form other e = refl
same_holder None (Some r) form other e =
    absurd (number_is_no_dash (r + 1) (omega (arith, other)) (sym e))
same_holder (Some s) None form other e =
    absurd (number_is_no_dash (s + 1) (omega (arith, form)) e)
same_holder (Some s) (Some r) form other e = ap Some (same_session s r form other e)

abbrev IsFileForm : Option Text → Type 0
IsFileForm file = IfSome file (λ stamp. is_stamp stamp ≡ true)

pub stamp_is_not_none : (stamp : Text) → is_stamp stamp ≡ true → stamp ≡ codes "-" → ⊥
stamp_is_not_none stamp is e =
    let no_dash : true ≡ false =
    sym (ap (λ word. bytes_eq word (codes "-")) e) ∙ stamp_is_no_dash stamp is in
    absurd cc

same_file : (a b : Option Text) → IsFileForm a → IsFileForm b → stamp_word a ≡ stamp_word b → a ≡ b
same_file None None form other e = refl
same_file None (Some stamp) form other e = absurd (stamp_is_not_none stamp other (sym e))
same_file (Some stamp) None form other e = absurd (stamp_is_not_none stamp form e)
same_file (Some stamp) (Some other_stamp) form other e = ap Some e

-- answers

same_answer : (name : Text) (answer other : Answer) → HasAnswerForm answer → HasAnswerForm other
    → inquiry_word (inquiry_of answer) ≡ inquiry_word (inquiry_of other)
    → answer_words name answer ≡ answer_words name other → answer ≡ other
same_answer name (Cause found) (Cause other) form other_form asked e =
    ap Cause (same_why name found other e)
same_answer name (Rows deps) (Rows other) form other_form asked e =
    ap Rows (same_deps deps other form.0 form.1 other_form.0 other_form.1 e)
same_answer name (Uses users) (Uses other) form other_form asked e =
    ap Uses (same_users users other form.0 other_form.0 e)
same_answer name (Standing a holder file) (Standing b other_holder other_file)
    form other_form asked e =
    let stage = same_stage a b
    (codes "lock" ∷ holder_word holder ∷ codes "file" ∷ stamp_word file ∷ [])
    (codes "lock" ∷ holder_word other_holder ∷ codes "file" ∷ stamp_word other_file ∷ [])
    form.0 other_form.0 refl e in
    let holders = same_holder holder other_holder form.1 other_form.1
    (ap (λ ws. get_or ws 1 []) stage.1) in
    let files = same_file file other_file form.2 other_form.2
    (ap (λ ws. get_or ws 3 []) stage.1) in
    λ i. Standing (stage.0 i) (holders i) (files i)
same_answer name (Uses users) (Standing state holder file) form other_form asked e =
    absurd (omega (arith, ap (λ w. get_or w 0 0) asked))
same_answer name (Standing state holder file) (Uses users) form other_form asked e =
    absurd (omega (arith, ap (λ w. get_or w 0 0) asked))
same_answer name answer other form other_form asked e = absurd (omega (arith, ap length asked))

-- their words are visible

end_visible : (t : Text) (ns : List Text) → IsVisible t → AllByRecursion IsVisible ns
    → IsVisible (end_of t ns)
end_visible t [] is all = is
end_visible t (n ∷ ns) is all = end_visible n ns all.0 all.1

reason_word_visible : (reason : Reason Text) → IsVisible (reason_word reason)
reason_word_visible whys.Building = refl
reason_word_visible reason = refl

reason_name_visible : (t : Text) (reason : Reason Text) → IsVisible t → HasReasonForm reason
    → IsVisible (reason_name t reason)
reason_name_visible t (whys.Appeared n) is form = name_is_visible n form
reason_name_visible t (whys.Changed n) is form = name_is_visible n form
reason_name_visible t reason is form = is

counted_visible : (names : List Text) → AreCountedNames names
    → AllByRecursion IsVisible (counted names)
counted_visible names form =
    (number_is_visible (length names) form.1, names_are_visible names form.0)

flag_visible : (flag : Bool) → IsVisible (flag_word flag)
flag_visible true = refl
flag_visible false = refl

stage_visible : (state : TargetState) → HasStateForm state
    → AllByRecursion IsVisible (stage_words state)
stage_visible (Building s) form = (refl, (number_is_visible (s + 1) (omega (arith, form)), tt))
stage_visible state form = (refl, tt)

holder_visible : (holder : Option ℕ) → IfSome holder (λ s. s < 65536)
    → IsVisible (holder_word holder)
holder_visible None form = refl
holder_visible (Some s) form = number_is_visible (s + 1) (omega (arith, form))

file_visible : (file : Option Text) → IsFileForm file → IsVisible (stamp_word file)
file_visible None form = refl
file_visible (Some stamp) form = stamp_is_visible stamp form

answer_visible : (name : Text) (answer : Answer) → IsVisible name → HasAnswerForm answer
    → AllByRecursion IsVisible (answer_words name answer)
answer_visible name (Cause None) is form = (refl, tt)
answer_visible name (Cause (Some why)) is form =
    let names = names_are_visible why.names form.0 in (
      reason_word_visible why.reason,
      (
        reason_name_visible (end_of name why.names) why.reason
            (end_visible name why.names is names) form.1,
        (is, names),
      ),
    )
answer_visible name (Rows deps) is form =
    all_joined IsVisible
    (codes "change" ∷ counted deps.change ++ codes "created" ∷ counted deps.created)
    (codes "always" ∷ flag_word deps.always ∷ [])
    (all_joined IsVisible (codes "change" ∷ counted deps.change)
    (codes "created" ∷ counted deps.created)
    (refl, counted_visible deps.change form.0) (refl, counted_visible deps.created form.1))
    (refl, (flag_visible deps.always, tt))
answer_visible name (Uses users) is form =
    all_joined IsVisible (codes "change" ∷ counted users.change)
    (codes "created" ∷ counted users.created)
    (refl, counted_visible users.change form.0) (refl, counted_visible users.created form.1)
answer_visible name (Standing state holder file) is form =
    all_joined IsVisible (stage_words state)
    (codes "lock" ∷ holder_word holder ∷ codes "file" ∷ stamp_word file ∷ [])
    (stage_visible state form.0)
    (refl, (holder_visible holder form.1, (refl, (file_visible file form.2, tt))))

pub asked_visible : (inquiry : Inquiry) → IsVisible (inquiry_word inquiry)
asked_visible inquiries.Why = refl
asked_visible inquiry = refl

-- a line's words, after the session
abbrev words_after : Text → Answer → List Text
words_after name answer =
    inquiry_word (inquiry_of answer) ∷ name ∷ codes "=>" ∷ answer_words name answer

words_in : (session : ℕ) (name : Text) (answer : Answer) → session < 65536 → is_name name ≡ true
    → HasAnswerForm answer
    → words_of (spaced (decimal (session + 1)) (words_after name answer))
    ≡ decimal (session + 1) ∷ words_after name answer
words_in session name answer below is form =
    let visible = name_is_visible name is in
    words_of-spaced (decimal (session + 1)) (words_after name answer)
    (number_is_visible (session + 1) (omega (arith, below)))
    (asked_visible (inquiry_of answer), (visible, (refl, answer_visible name answer visible form)))

-- a line gives at most one answer about at most one name to at most one session
pub one_answer : (session other_session : ℕ) (name other_name : Text) (answer other : Answer)
    → session < 65536 → other_session < 65536 → is_name name ≡ true → is_name other_name ≡ true
    → HasAnswerForm answer → HasAnswerForm other
    → answer_line session name answer ≡ answer_line other_session other_name other
    → (session ≡ other_session) × (name ≡ other_name) × (answer ≡ other)
one_answer session other_session name other_name answer other below other_below is other_is form
    other_form e =
    let words : decimal (session + 1) ∷ words_after name answer
    ≡ decimal (other_session + 1) ∷ words_after other_name other =
    sym (words_in session name answer below is form)
    ∙ ap words_of (append_cancel_right (spaced (decimal (session + 1)) (words_after name answer))
    (spaced (decimal (other_session + 1)) (words_after other_name other)) (10 ∷ []) e)
    ∙ words_in other_session other_name other other_below other_is other_form in
    let named : name ≡ other_name = ap (λ ws. get_or ws 2 []) words in
    let asked : inquiry_word (inquiry_of answer) ≡ inquiry_word (inquiry_of other) =
    ap (λ ws. get_or ws 1 []) words in
    let same_words : answer_words name answer ≡ answer_words name other =
    ap (drop 4) words ∙ ap (λ n. answer_words n other) (sym named) in (
      same_session session other_session below other_below (ap first_of words),
      named,
      same_answer name answer other form other_form asked same_words,
    )
