-- The questions about a line give the fault that its reading by steps ends with.
use Rattle.std.proofs.Common.{◌≡◌, ℕ, ◌%◌, ◌≤◌, Bool, true, false, cond, not, ◌&&◌, ◌||◌, List, [], ◌∷◌, ◌++◌, map, drop, length, Option, Some, None, Result, Ok, Err, refl, sym, ap, ◌∙◌, arith, eqb, ltb, leb}
use Rattle.std.specs.Prelude.{codes, bytes_eq}
use Rattle.std.specs.List.{list_all}
use Rattle.std.proofs.lemmas.Bool.{eq-eqb, eqb-true, ne_eqb, le-leb, ltb-false}
use Rattle.std.proofs.lemmas.Bool.Decides.{nat_tests}
use Rattle.std.proofs.lemmas.List.{length-map}
use Rattle.std.proofs.lemmas.List.Sums.{AllPass-from_list_all, list_all-from_AllPass}
use Rattle.hex.specs.Hex.{decode_of, is_hex_digit}
use Rattle.hex.specs.declared.error.FromHexError.{FromHexError}
use Rattle.hex.proofs.HexLemmas.{decode_of-ok, decode_of-digits}
use Rattle.redodb_names.specs.Names.{is_name}
use Rattle.redodb_model.specs.Names.{Text}
use Rattle.redodb_model.specs.Command.{Command, Item, File, Gone, Lock, Unlock, Start, IfChange, IfCreate, Always, Stamp, Done, Failed, Ood, Targets, Sources}
use Rattle.redodb_commands.specs.declared.kind.Kind.{Kind}
use Rattle.redodb_commands.specs.declared.kind.Kind.TheVariants as kinds
use Rattle.redodb_text.specs.declared.fault.LineFault.{LineFault}
use Rattle.redodb_text.specs.declared.fault.LineFault.TheVariants.{LineTooLong, BadByte, WrongWords, BadName, BadStamp, BadHex, TooManyLines, TooManyNames}
use Rattle.redodb_commands.specs.Stamp.{is_stamp}
use Rattle.redodb_text.specs.Grammar.{with_names, is_skipped}
use Rattle.redodb_text.specs.Questions.{Question, first_yes, Wanted, a_name, some_content, wanted, are_digits, is_it, word_questions, names_among, is_full, kind_named, form_questions, word_list_questions, words_of, has_bad_byte, is_too_long, text_questions, unguarded, line_fault, file_line_fault}
use Rattle.redodb_text.specs.Support.Reading.{◌>>=◌, Reading, some_content as content_or_fault, file_stamp_in, file_stamp_or_none_in, content_in, added, all_added, one_name_in, target_and_names_in, names_form_in, name_and_word_in, file_in, stamp_in, done_in, no_words_in, form_in, words_in, line_in, item_in, script_line_in}
use Rattle.redodb_text.proofs.Guards.{asked_unguarded}
use Rattle.redodb_text.proofs.ReplyNames.{none_added, one_all_added}
use Rattle.redodb_text.proofs.ScriptParts.{with_names-longer}
use Rattle.redodb_text.proofs.Steps.{both, read}

-- the fault that a reading ends with
abbrev pub fault_in : {A : Type 0} → Result A LineFault → Option LineFault
fault_in (Ok x) = None
fault_in (Err fault) = Some fault

-- a first fault, or else a later one
abbrev or_else : Option LineFault → Option LineFault → Option LineFault
or_else (Some fault) later = Some fault
or_else None later = later

fault_then : {A B : Type 0} (r : Result A LineFault) (f : A → Result B LineFault)
    (later : Option LineFault) → ((x : A) → fault_in (f x) ≡ later)
    → fault_in (r >>= f) ≡ or_else (fault_in r) later
fault_then (Ok x) f later each = each x
fault_then (Err fault) f later each = refl

or_asked : (b : Bool) (fault : LineFault) (qs : List Question)
    → or_else (first_yes ((b, fault) ∷ [])) (first_yes qs) ≡ first_yes ((b, fault) ∷ qs)
or_asked true fault qs = refl
or_asked false fault qs = refl

asked_full : (most : ℕ) (names ts : List Text)
    → fault_in (all_added most names ts) ≡ first_yes ((is_full most names ts, TooManyNames) ∷ [])
unfolding all_added
asked_full most names ts = by (leb (length (with_names names ts)) most) refl
  where
    by : (b : Bool) → leb (length (with_names names ts)) most ≡ b
        → fault_in (cond b (Ok (with_names names ts)) (Err TooManyNames))
        ≡ cond (ltb most (length (with_names names ts))) (Some TooManyNames) None
    by true room =
        let test : ltb most (length (with_names names ts)) ≡ false =
        grind (arith, nat_tests, room) in
        rw test refl
    by false room =
        let test : ltb most (length (with_names names ts)) ≡ true =
        grind (arith, nat_tests, room) in
        rw test refl

asked_one : {most : ℕ} (names : List Text) (t : Text) → length names ≤ most
    → fault_in (added most names t) ≡ first_yes ((is_full most names (t ∷ []), TooManyNames) ∷ [])
asked_one names t few = ap fault_in (sym (one_all_added names t few)) ∙ asked_full _ names (t ∷ [])

-- another number of words
another : (most : ℕ) (names : List Text) (kind : Kind) (args : List Text)
    → (length args ≡ length (wanted kind args) → ⊥)
    → Some WrongWords ≡ first_yes (form_questions most names (Some kind) args)
another most names kind args other =
    let e : eqb (length args) (length (wanted kind args)) ≡ false = ne_eqb _ _ other in
    rw e refl

-- the last step: a command, and the names after it
added_last : (r : Result (List Text) LineFault) (command : Command Text)
    → fault_in (r >>= λ after. read (command, after)) ≡ fault_in r
added_last (Ok x) command = refl
added_last (Err fault) command = refl

abbrev words_read : Text × List Text → Result (Text × List Text) LineFault
words_read x = Ok x

asked_name : {most : ℕ} (form : Text → Command Text) (names args : List Text) → length names ≤ most
    → fault_in (one_name_in most form names args)
    ≡ first_yes (form_questions most names (Some kinds.Gone) args)
unfolding one_name_in
asked_name {most} form names [] few = refl
asked_name {most} form names (n ∷ []) few = by (is_name n)
  where
    by : (b : Bool)
        → fault_in (cond b (Ok n) (Err BadName)
        >>= λ name. added most names name >>= λ after. read (form name, after))
        ≡ first_yes ((not b, BadName) ∷ (is_full most names (n ∷ []), TooManyNames) ∷ [])
    by true = added_last (added most names n) (form n) ∙ asked_one names n few
    by false = refl
asked_name {most} form names (n ∷ w ∷ ws) few =
    another _ names kinds.Gone (n ∷ w ∷ ws) (λ e. absurd (omega (arith, e)))

-- a form of a name and of another word, if a question tells the fault of that
asked_both : {X : Type 0} {most : ℕ} (reader : Text → Result X LineFault)
    (form : Text → X → Command Text) (names : List Text) (n w : Text) (wrong : Bool)
    (fault : LineFault) → length names ≤ most
    → fault_in (reader w) ≡ first_yes ((wrong, fault) ∷ [])
    → fault_in (name_and_word_in reader form most names (n ∷ w ∷ []))
    ≡ first_yes ((not (is_name n), BadName) ∷ (wrong, fault)
    ∷ (is_full most names (n ∷ []), TooManyNames) ∷ [])
unfolding name_and_word_in
asked_both {X} {most} reader form names n w wrong fault few asked = by (is_name n)
  where
    last : List Question
    last = (is_full most names (n ∷ []), TooManyNames) ∷ []

    by : (b : Bool)
        → fault_in (cond b (Ok n) (Err BadName) >>= λ name. reader w
        >>= λ x. added most names name >>= λ after. read (form name x, after))
        ≡ first_yes ((not b, BadName) ∷ (wrong, fault) ∷ last)
    by true =
        fault_then (reader w) (λ x. added most names n >>= λ after. read (form n x, after))
        (first_yes last) (λ x. added_last (added most names n) (form n x) ∙ asked_one names n few)
        ∙ ap (λ (o : Option LineFault). or_else o (first_yes last)) asked
        ∙ or_asked wrong fault last
    by false = refl

asked_file : {most : ℕ} (names args : List Text) → length names ≤ most
    → fault_in (file_in most names args)
    ≡ first_yes (form_questions most names (Some kinds.File) args)
unfolding name_and_word_in
asked_file {most} names (n ∷ s ∷ []) few =
    asked_both file_stamp_in File names n s (not (is_stamp s)) BadStamp few (by (is_stamp s))
  where
    by : (d : Bool) → fault_in (cond d (Ok s) (Err BadStamp)) ≡ first_yes ((not d, BadStamp) ∷ [])
    by true = refl
    by false = refl
asked_file {most} names (n ∷ s ∷ w ∷ ws) few =
    another _ names kinds.File (n ∷ s ∷ w ∷ ws) (λ e. absurd (omega (arith, e)))
asked_file {most} names args few = refl

asked_done : {most : ℕ} (names args : List Text) → length names ≤ most
    → fault_in (done_in most names args)
    ≡ first_yes (form_questions most names (Some kinds.Done) args)
unfolding name_and_word_in
asked_done {most} names (n ∷ s ∷ []) few =
    asked_both file_stamp_or_none_in Done names n s (not (bytes_eq s (codes "-") || is_stamp s))
    BadStamp few (by (bytes_eq s (codes "-")) (is_stamp s))
  where
    by : (dash d : Bool)
        → fault_in (cond dash (Ok None) (cond d (Ok s) (Err BadStamp) >>= λ x. Ok (Some x)))
        ≡ first_yes ((not (dash || d), BadStamp) ∷ [])
    by true d = refl
    by false true = refl
    by false false = refl
asked_done {most} names (n ∷ s ∷ w ∷ ws) few =
    another _ names kinds.Done (n ∷ s ∷ w ∷ ws) (λ e. absurd (omega (arith, e)))
asked_done {most} names args few = refl

-- no digits
none_are_digits : (c : Text) → length c ≡ 0 → are_digits c ≡ false
none_are_digits c none = grind (arith, nat_tests, none)

decoded_are_digits : (c content : Text) → decode_of c ≡ Ok content → 1 ≤ length content
    → are_digits c ≡ true
decoded_are_digits c content is some =
    let ok = decode_of-ok c content is in
    let two : leb 2 (length c) ≡ true = le-leb _ _ (omega (arith, ok.2, some)) in
    let even : eqb (length c % 2) 0 ≡ true = eq-eqb _ _ ok.0 in
    let digits : list_all is_hex_digit c ≡ true = list_all-from_AllPass is_hex_digit c ok.1 in
    λ i. two i && even i && digits i

undecoded : (c : Text) (fault : FromHexError) → decode_of c ≡ Err fault → are_digits c ≡ false
undecoded c fault is = by (are_digits c) refl
  where
    by : (b : Bool) → are_digits c ≡ b → b ≡ false
    by false e = refl
    by true e =
        let first = both (leb 2 (length c) && eqb (length c % 2) 0) (list_all is_hex_digit c) e in
        let even = both (leb 2 (length c)) (eqb (length c % 2) 0) first.0 in
        let ok = decode_of-digits c (eqb-true _ _ even.1)
        (AllPass-from_list_all is_hex_digit c first.1) in
        let read : decode_of c ≡ Ok ok.0 = ok.1 in
        absurd cc

-- a word of content
asked_content : (c : Text)
    → fault_in (content_in c) ≡ first_yes ((not (is_it some_content c), BadHex) ∷ [])
asked_content c = by (bytes_eq c (codes "-")) (decode_of c) refl
  where
    test : (b : Bool) → are_digits c ≡ b
        → cond (not b) (Some BadHex) None ≡ first_yes ((not (are_digits c), BadHex) ∷ [])
    test b e = ap (λ (good : Bool). cond (not good) (Some BadHex) None) (sym e)

    by : (dash : Bool) (decoded : Result Text FromHexError) → decode_of c ≡ decoded
        → fault_in (cond dash (Ok []) (content_or_fault decoded))
        ≡ first_yes ((not (dash || are_digits c), BadHex) ∷ [])
    by true decoded is = refl
    by false (Ok []) is = test false (none_are_digits c (decode_of-ok c [] is).2)
    by false (Ok (b ∷ bs)) is = test true (decoded_are_digits c (b ∷ bs) is (omega arith))
    by false (Err fault) is = test false (undecoded c fault is)

asked_stamp : {most : ℕ} (names args : List Text) → length names ≤ most
    → fault_in (stamp_in most names args)
    ≡ first_yes (form_questions most names (Some kinds.Stamp) args)
unfolding name_and_word_in
asked_stamp {most} names (n ∷ c ∷ []) few =
    asked_both content_in Stamp names n c (not (is_it some_content c)) BadHex few (asked_content c)
asked_stamp {most} names (n ∷ c ∷ w ∷ ws) few =
    another _ names kinds.Stamp (n ∷ c ∷ w ∷ ws) (λ e. absurd (omega (arith, e)))
asked_stamp {most} names args few = refl

abbrev all_names_wanted : List Text → List Wanted
all_names_wanted words = map (λ word. a_name) words

asked_names : (ws : List Text) (qs : List Question)
    → cond (not (list_all is_name ws)) (Some BadName) (first_yes qs)
    ≡ first_yes (word_questions (all_names_wanted ws) ws ++ qs)
asked_names [] qs = refl
asked_names (w ∷ ws) qs = by (is_name w) (asked_names ws qs)
  where
    others : Option LineFault
    others = first_yes (word_questions (all_names_wanted ws) ws ++ qs)

    by : (b : Bool) → cond (not (list_all is_name ws)) (Some BadName) (first_yes qs) ≡ others
        → cond (not (b && list_all is_name ws)) (Some BadName) (first_yes qs)
        ≡ cond (not b) (Some BadName) others
    by true e = e
    by false e = refl

own_names : (ws : List Text) → ws ≡ names_among (all_names_wanted ws) ws
own_names [] = refl
own_names (w ∷ ws) = ap (λ (others : List Text). w ∷ others) (own_names ws)

asked_list : {most : ℕ} (form : Text → List Text → Command Text) (names args : List Text)
    → length names ≤ most
    → fault_in (names_form_in most form names args)
    ≡ first_yes (form_questions most names (Some kinds.IfChange) args)
unfolding names_form_in target_and_names_in
asked_list {most} form names (t ∷ n ∷ ns) few =
    let all = t ∷ n ∷ ns in
    let count : eqb (length all) (length (all_names_wanted all)) ≡ true =
    eq-eqb _ _ (sym (length-map all (λ (w : Text). a_name))) in
    let full = λ (own : List Text). (is_full most names own, TooManyNames) ∷ [] in
    let words = λ (o : Option LineFault). cond (ltb 64 (length (n ∷ ns))) (Some TooManyNames) o in
    by (ltb 64 (length (n ∷ ns))) (list_all is_name all)
    ∙ ap words (asked_names all (full all)
    ∙ ap (λ (own : List Text). first_yes (word_questions (all_names_wanted all) all ++ full own))
    (own_names all))
    ∙ ap (λ (b : Bool). cond (not b) (Some WrongWords)
    (words (first_yes (word_questions (all_names_wanted all) all
    ++ full (names_among (all_names_wanted all) all))))) (sym count)
  where
    by : (many good : Bool)
        → fault_in
        (cond many (Err TooManyNames) (cond (not good) (Err BadName) (words_read (t, n ∷ ns)))
        >>= λ x. all_added most names (x.0 ∷ x.1) >>= λ after. read (form x.0 x.1, after))
        ≡ cond many (Some TooManyNames) (cond (not good) (Some BadName)
        (first_yes ((is_full most names (t ∷ n ∷ ns), TooManyNames) ∷ [])))
    by true good = refl
    by false false = refl
    by false true =
        added_last (all_added most names (t ∷ n ∷ ns)) (form t (n ∷ ns))
        ∙ asked_full _ names (t ∷ n ∷ ns)
asked_list {most} form names args few = refl

asked_alone : {most : ℕ} (form : Command Text) (names args : List Text) → length names ≤ most
    → fault_in (no_words_in form names args)
    ≡ first_yes (form_questions most names (Some kinds.Ood) args)
unfolding no_words_in
asked_alone form names [] few = sym (ap fault_in (none_added names few)) ∙ asked_full _ names []
asked_alone {most} form names (w ∷ ws) few =
    another _ names kinds.Ood (w ∷ ws) (λ e. absurd (omega (arith, e)))

asked_form : {most : ℕ} (kind : Option Kind) (names args : List Text) → length names ≤ most
    → fault_in (form_in most kind names args) ≡ first_yes (form_questions most names kind args)
unfolding form_in
asked_form {most} None names args few = refl
asked_form {most} (Some kinds.File) names args few = asked_file names args few
asked_form {most} (Some kinds.Gone) names args few = asked_name Gone names args few
asked_form {most} (Some kinds.Lock) names args few = asked_name Lock names args few
asked_form {most} (Some kinds.Unlock) names args few = asked_name Unlock names args few
asked_form {most} (Some kinds.Start) names args few = asked_name Start names args few
asked_form {most} (Some kinds.IfChange) names args few = asked_list IfChange names args few
asked_form {most} (Some kinds.IfCreate) names args few = asked_list IfCreate names args few
asked_form {most} (Some kinds.Always) names args few = asked_name Always names args few
asked_form {most} (Some kinds.Stamp) names args few = asked_stamp names args few
asked_form {most} (Some kinds.Done) names args few = asked_done names args few
asked_form {most} (Some kinds.Failed) names args few = asked_name Failed names args few
asked_form {most} (Some kinds.Ood) names args few = asked_alone Ood names args few
asked_form {most} (Some kinds.Targets) names args few = asked_alone Targets names args few
asked_form {most} (Some kinds.Sources) names args few = asked_alone Sources names args few

asked_words : {most : ℕ} (names words : List Text) → length names ≤ most
    → fault_in (words_in most names words) ≡ first_yes (word_list_questions most names words)
unfolding words_in
asked_words {most} names [] few = refl
asked_words {most} names (word ∷ args) few = asked_form (kind_named word) names args few

-- the fault of a line is that of its reading
pub asked_line : {most : ℕ} (names : List Text) (line : Text) → length names ≤ most
    → fault_in (line_in most names line) ≡ line_fault most names line
unfolding line_in line_fault
asked_line {most} names line few = by (is_too_long line) (has_bad_byte line)
  where
    by : (long bad : Bool)
        → fault_in (cond long (Err LineTooLong)
        (cond bad (Err BadByte) (words_in most names (words_of line))))
        ≡ cond long (Some LineTooLong) (cond bad (Some BadByte)
        (first_yes (word_list_questions most names (words_of line))))
    by true bad = refl
    by false true = refl
    by false false = asked_words names (words_of line) few

abbrev line_read : Option (Item Text) × List Text
    → Result (Option (Item Text) × List Text) LineFault
line_read x = Ok x

item_last : (line : Text) (r : Reading)
    → fault_in (r >>= λ x. line_read (Some (item_in line x.0), x.1)) ≡ fault_in r
item_last line (Ok x) = refl
item_last line (Err fault) = refl

-- and that of a line of a session file too
pub asked_file_line : (count : ℕ) (names : List Text) (line : Text) → length names ≤ 65536
    → fault_in (script_line_in count names line) ≡ file_line_fault count names line
unfolding script_line_in file_line_fault
asked_file_line count names line few =
    by (is_too_long line) (is_skipped line) (eqb count 4096) refl
  where
    ask : List Question
    ask = (has_bad_byte line, BadByte) ∷ word_list_questions 65536 names (words_of (unguarded line))

    by : (long skipped full : Bool) → is_too_long line ≡ long
        → fault_in (cond long (Err LineTooLong) (cond skipped (line_read (None, names))
        (cond full (Err TooManyLines) (line_in 65536 names (unguarded line)
        >>= λ x. line_read (Some (item_in line x.0), x.1)))))
        ≡ cond long (Some LineTooLong)
        (first_yes (cond skipped [] ((full, TooManyLines) ∷ ask)))
    by true skipped full short = refl
    by false true full short = refl
    by false false true short = refl
    by false false false short =
        item_last line (line_in 65536 names (unguarded line))
        ∙ asked_line names (unguarded line) few
        ∙ asked_unguarded names line short

pub succeeds : {A : Type 0} (r : Result A LineFault) → fault_in r ≡ None → (x : A) × (r ≡ Ok x)
succeeds (Ok x) e = (x, refl)
succeeds (Err fault) e = absurd cc

later : (question : Question) (qs : List Question) → first_yes (question ∷ qs) ≡ None
    → first_yes qs ≡ None
later (true, fault) qs e = absurd cc
later (false, fault) qs e = e

last_no : (qs : List Question) (b : Bool) (fault : LineFault)
    → first_yes (qs ++ (b, fault) ∷ []) ≡ None → b ≡ false
last_no [] true fault e = absurd cc
last_no [] false fault e = refl
last_no (question ∷ qs) b fault e =
    last_no qs b fault (later question (qs ++ (b, fault) ∷ []) e)

-- if no answer is "yes", there are not too many names before
pub few_before : {most : ℕ} (names : List Text) (line : Text) → line_fault most names line ≡ None
    → length names ≤ most
unfolding line_fault
few_before {most} names line e =
    by (words_of line)
    (later (has_bad_byte line, BadByte) (word_list_questions most names (words_of line))
    (later (is_too_long line, LineTooLong) (text_questions most names line) e))
  where
    of_kind : (kind : Option Kind) (words : List Text)
        → first_yes (form_questions most names kind words) ≡ None → length names ≤ most
    of_kind None words h = absurd cc
    of_kind (Some kind) words h =
        let own = names_among (wanted kind words) words in
        let count : Question =
        (not (eqb (length words) (length (wanted kind words))), WrongWords) in
        let many : Question = (ltb 64 (length (drop 1 words)), TooManyNames) in
        let rest : List Question =
        word_questions (wanted kind words) words ++ (is_full most names own, TooManyNames) ∷ [] in
        let room =
        last_no (word_questions (wanted kind words) words) (is_full most names own) TooManyNames
        (later many rest (later count (many ∷ rest) h)) in
        omega (arith, ltb-false _ _ room, with_names-longer names own)

    by : (words : List Text) → first_yes (word_list_questions most names words) ≡ None
        → length names ≤ most
    by [] h = absurd cc
    by (word ∷ words) h = of_kind (kind_named word) words h
