-- The words of a command are read as the command.
use Rattle.std.proofs.Common.{◌≡◌, ◌≤◌, List, [], ◌∷◌, length, Option, Some, None, Result, Ok, refl, sym, ap, lit≤, arith, ℕ}
use Rattle.std.specs.Prelude.{codes, IfSome, IsTrue}
use Rattle.std.specs.List.{AllByRecursion}
use Rattle.redodb_names.specs.Names.{is_name}
use Rattle.redodb_model.specs.Names.{Text}
use Rattle.redodb_model.specs.Command.{Command, File, Gone, Lock, Unlock, Start, IfChange, IfCreate, Always, Stamp, Done, Failed, Ood, Targets, Sources, names_in}
use Rattle.redodb_commands.specs.Stamp.{is_stamp}
use Rattle.redodb_text.specs.declared.fault.LineFault.{LineFault}
use Rattle.redodb_text.specs.Texts.{spaced, stamp_word}
use Rattle.redodb_text.specs.Grammar.{HasForm, IsNameList, IsSpelled, AddsNames}
use Rattle.redodb_text.specs.Support.Reading.{file_stamp_in, file_stamp_or_none_in, content_in, one_name_in, names_form_in, name_and_word_in, no_words_in, form_in, words_in}
use Rattle.redodb_text.proofs.Added.{one_fits}
use Rattle.redodb_text.proofs.Contents.{content_read, content_is_visible}
use Rattle.redodb_text.proofs.NameLists.{target_and_names_read, names_are_visible, all_fit}
use Rattle.redodb_text.proofs.Spaced.{IsVisible, name_is_visible, stamp_is_visible, stamp_is_no_dash}

-- the words of a line, the first of them apart, and that they are read as the command
pub record IsReadFrom (most : ℕ) (names : List Text) (line : Text) (command : Command Text)
    (after : List Text) : Type 0 where
  pub word : Text
  pub args : List Text
  pub text : line ≡ spaced word args
  pub visible : IsVisible word × AllByRecursion IsVisible args
  pub reads : words_in most names (word ∷ args) ≡ Ok (command, after)

one_name_read : {most : ℕ} (form : Text → Command Text) (names : List Text) (n : Text)
    (after : List Text)
    → names_in (form n) ≡ n ∷ [] → IsTrue (is_name n) → AddsNames most names (form n ∷ []) after
    → one_name_in most form names (n ∷ []) ≡ Ok (form n, after)
unfolding one_name_in
one_name_read {most} form names n after own good adds =
    let fits = one_fits names n (form n) after own adds in
    rw (good, fits) refl

names_form_read : {most : ℕ} (form : Text → List Text
    → Command Text) (names : List Text) (t : Text) (ns after : List Text) → names_in (form t ns)
    ≡ t ∷ ns → IsTrue (is_name t) → IsNameList ns → AddsNames most names (form t ns ∷ []) after
    → names_form_in most form names (t ∷ ns) ≡ Ok (form t ns, after)
unfolding names_form_in
names_form_read {most} form names t ns after own good list adds =
    let words = target_and_names_read t ns good list in
    let fit = all_fit names (t ∷ ns) (form t ns) after own adds in
    rw (words, fit) refl

name_and_word_read : {X : Type 0} {most : ℕ} (reader : Text → Result X LineFault)
    (form : Text → X → Command Text) (names : List Text) (n word : Text) (x : X) (after : List Text)
    → names_in (form n x) ≡ n ∷ [] → IsTrue (is_name n) → reader word ≡ Ok x
    → AddsNames most names (form n x ∷ []) after
    → name_and_word_in reader form most names (n ∷ word ∷ []) ≡ Ok (form n x, after)
unfolding name_and_word_in
name_and_word_read reader form names n word x after own good given adds =
    let fits = one_fits names n (form n x) after own adds in
    rw (good, given, fits) refl

given_stamp : (stamp : Text) → IsTrue (is_stamp stamp) → file_stamp_in stamp ≡ Ok stamp
given_stamp stamp known = rw known refl

file_stamp_read : (stamp : Option Text) → IfSome stamp (λ s. IsTrue (is_stamp s))
    → file_stamp_or_none_in (stamp_word stamp) ≡ Ok stamp
file_stamp_read None known = refl
file_stamp_read (Some s) known =
    let dash = stamp_is_no_dash s known in
    rw (dash, known) refl

stamp_word_is_visible : (stamp : Option Text) → IfSome stamp (λ s. IsTrue (is_stamp s))
    → IsVisible (stamp_word stamp)
stamp_word_is_visible None known = refl
stamp_word_is_visible (Some s) known = stamp_is_visible s known

from_words : {most : ℕ} {names : List Text} {line : Text} {command : Command Text}
    {after : List Text} (word : Text) (args : List Text) → line ≡ spaced word args
    → IsVisible word × AllByRecursion IsVisible args
    → words_in most names (word ∷ args) ≡ Ok (command, after)
    → IsReadFrom most names line command after
from_words word args text visible reads =
    record { word = word; args = args; text = text; visible = visible; reads = reads }

-- each command is read from a line of it
pub read_from_words : {most : ℕ} (names : List Text) (line : Text) (command : Command Text)
    (after : List Text)
    → HasForm command → IsSpelled line command → AddsNames most names (command ∷ []) after
    → IsReadFrom most names line command after
unfolding words_in form_in no_words_in
read_from_words {most} names line (File n stamp) after form spelled adds =
    from_words (codes "file") (n ∷ stamp ∷ []) spelled
    (refl, (name_is_visible n form.0, (stamp_is_visible stamp form.1, tt)))
    (name_and_word_read file_stamp_in File names n stamp stamp after refl form.0
    (given_stamp stamp form.1) adds)
read_from_words {most} names line (Gone n) after form spelled adds =
    from_words (codes "gone") (n ∷ []) spelled (refl, (name_is_visible n form, tt))
    (one_name_read Gone names n after refl form adds)
read_from_words {most} names line (Lock t) after form spelled adds =
    from_words (codes "lock") (t ∷ []) spelled (refl, (name_is_visible t form, tt))
    (one_name_read Lock names t after refl form adds)
read_from_words {most} names line (Unlock t) after form spelled adds =
    from_words (codes "unlock") (t ∷ []) spelled (refl, (name_is_visible t form, tt))
    (one_name_read Unlock names t after refl form adds)
read_from_words {most} names line (Start t) after form spelled adds =
    from_words (codes "start") (t ∷ []) spelled (refl, (name_is_visible t form, tt))
    (one_name_read Start names t after refl form adds)
read_from_words {most} names line (IfChange t ns) after form spelled adds =
    from_words (codes "ifchange") (t ∷ ns) spelled
    (refl, (name_is_visible t form.0, names_are_visible ns form.1.each))
    (names_form_read IfChange names t ns after refl form.0 form.1 adds)
read_from_words {most} names line (IfCreate t ns) after form spelled adds =
    from_words (codes "ifcreate") (t ∷ ns) spelled
    (refl, (name_is_visible t form.0, names_are_visible ns form.1.each))
    (names_form_read IfCreate names t ns after refl form.0 form.1 adds)
read_from_words {most} names line (Always t) after form spelled adds =
    from_words (codes "always") (t ∷ []) spelled (refl, (name_is_visible t form, tt))
    (one_name_read Always names t after refl form adds)
read_from_words {most} names line (Stamp t content) after form spelled adds =
    from_words (codes "stamp") (t ∷ spelled.0 ∷ []) spelled.1
    (refl, (name_is_visible t form.0, (content_is_visible spelled.0 content spelled.2, tt)))
    (name_and_word_read content_in Stamp names t spelled.0 content after refl form.0
    (content_read spelled.0 content spelled.2) adds)
read_from_words {most} names line (Done t stamp) after form spelled adds =
    from_words (codes "done") (t ∷ stamp_word stamp ∷ []) spelled
    (refl, (name_is_visible t form.0, (stamp_word_is_visible stamp form.1, tt)))
    (name_and_word_read file_stamp_or_none_in Done names t (stamp_word stamp) stamp after refl form.0
    (file_stamp_read stamp form.1) adds)
read_from_words {most} names line (Failed t) after form spelled adds =
    from_words (codes "failed") (t ∷ []) spelled (refl, (name_is_visible t form, tt))
    (one_name_read Failed names t after refl form adds)
read_from_words {most} names line Ood after form spelled adds =
    from_words (codes "ood") [] spelled (refl, tt)
    (ap (λ (l : List Text). Ok (Ood, l)) (sym adds.0))
read_from_words {most} names line Targets after form spelled adds =
    from_words (codes "targets") [] spelled (refl, tt)
    (ap (λ (l : List Text). Ok (Targets, l)) (sym adds.0))
read_from_words {most} names line Sources after form spelled adds =
    from_words (codes "sources") [] spelled (refl, tt)
    (ap (λ (l : List Text). Ok (Sources, l)) (sym adds.0))

few_listed : (t : Text) (ns : List Text) → IsNameList ns → length (t ∷ ns) ≤ 65536
few_listed t ns list =
    let few : length ns ≤ 64 = list.few in
    omega arith

-- a command has few names
pub few_names : (command : Command Text) → HasForm command → length (names_in command) ≤ 65536
few_names (IfChange t ns) form = few_listed t ns form.1
few_names (IfCreate t ns) form = few_listed t ns form.1
few_names x form = lit≤ tt
