-- What is read as a form is what the form says.
use Rattle.std.proofs.Common.{◌≡◌, ◌≤◌, Bool, true, false, cond, List, [], ◌∷◌, ◌++◌, length, Option, Some, None, Result, Ok, refl, sym, ap, subst, ℕ}
use Rattle.std.specs.Prelude.{codes, bytes_eq, IfSome, IsTrue}
use Rattle.std.proofs.lemmas.Slice.Eq.{bytes_eq-Decides}
use Rattle.redodb_names.specs.Names.{is_name}
use Rattle.redodb_model.specs.Names.{Text}
use Rattle.redodb_model.specs.Command.{Command, File, Gone, Lock, Unlock, Start, IfChange, IfCreate, Always, Stamp, Done, Failed, Ood, Targets, Sources, names_in}
use Rattle.redodb_text.specs.declared.fault.LineFault.{LineFault}
use Rattle.redodb_text.specs.declared.fault.LineFault.TheVariants.{BadName, BadStamp}
use Rattle.redodb_commands.specs.declared.kind.Kind.{Kind}
use Rattle.redodb_commands.specs.declared.kind.Kind.TheVariants as kinds
use Rattle.redodb_commands.specs.Stamp.{is_stamp}
use Rattle.redodb_text.specs.Texts.{spaced, stamp_word, word_of}
use Rattle.redodb_text.specs.Grammar.{HasForm, IsNameList, IsSpelled, with_names, AddsNames}
use Rattle.redodb_text.specs.Questions.{kind_named}
use Rattle.redodb_text.specs.Support.Reading.{◌>>=◌, name_in, file_stamp_in, file_stamp_or_none_in, content_in, added, one_name_in, target_and_names_in, all_added, names_form_in, name_and_word_in, no_words_in, form_in, words_in}
use Rattle.redodb_text.proofs.FirstWords.{word_is}
use Rattle.redodb_text.proofs.Steps.{bind_ok, guard_ok, read, same_given}
use Rattle.redodb_text.proofs.Added.{one_added}
use Rattle.redodb_text.proofs.Contents.{content_says}
use Rattle.redodb_text.proofs.NameLists.{target_and_names_found, all_adds}

-- the words say the command, and its names are added
pub record SaysCommand (most : ℕ) (names : List Text) (word : Text) (args : List Text)
    (command : Command Text)
    (after : List Text) : Type 0 where
  pub form : HasForm command
  pub spelled : IsSpelled (spaced word args) command
  pub adds : AddsNames most names (command ∷ []) after

-- the same for a pair
abbrev SaysRead : ℕ → List Text → Text → List Text → Command Text × List Text → Type 0
SaysRead most names word args x = SaysCommand most names word args x.0 x.1

says_read : {most : ℕ} (names : List Text) (word : Text) (args : List Text)
    (x y : Command Text × List Text)
    → SaysRead most names word args x → read x ≡ read y → SaysRead most names word args y
says_read {most} names word args x y says e = subst (SaysRead most names word args)
    (same_given x y e) says

-- what is read as a form of one name
one_name_says : {most : ℕ} (form : Text → Command Text) (word : Text)
    → ((n : Text) → IsTrue (is_name n) → HasForm (form n))
    → ((n : Text) → IsSpelled (spaced word (n ∷ [])) (form n))
    → ((n : Text) → names_in (form n) ≡ n ∷ [])
    → (names args : List Text) (x : Command Text × List Text) → length names ≤ most
    → one_name_in most form names args ≡ Ok x → SaysRead most names word args x
unfolding one_name_in
one_name_says {most} form word has spelled own names (n ∷ []) x few e =
    let a = bind_ok (name_in n)
    (λ name. added most names name >>= λ after. Ok (form name, after)) x e in
    let b = bind_ok (added most names a.0) (λ after. Ok (form a.0, after)) x a.2 in
    let g = guard_ok (is_name n) BadName n a.0 a.1 in
    says_read names word (n ∷ []) (form a.0, b.0) x (record {
      form = has a.0 (subst (λ (t : Text). is_name t ≡ true) g.1 g.0);
      spelled =
          subst (λ (t : Text). IsSpelled (spaced word (t ∷ [])) (form a.0)) (sym g.1) (spelled a.0);
      adds = one_added names a.0 (form a.0) b.0 few (own a.0) b.1;
    }) b.2
one_name_says {most} form word has spelled own names args x few e = absurd cc

-- what is read as a form of a name and of another word
name_and_word_says : {X : Type 0} {most : ℕ} (reader : Text → Result X LineFault)
    (form : Text → X → Command Text) (word : Text)
    → ((n w : Text) (x : X) → IsTrue (is_name n) → reader w ≡ Ok x
    → HasForm (form n x) × IsSpelled (spaced word (n ∷ w ∷ [])) (form n x))
    → ((n : Text) (x : X) → names_in (form n x) ≡ n ∷ [])
    → (names args : List Text) (x : Command Text × List Text) → length names ≤ most
    → name_and_word_in reader form most names args ≡ Ok x → SaysRead most names word args x
unfolding name_and_word_in
name_and_word_says {X} {most} reader form word says own names (n ∷ w ∷ []) x few e =
    let a =
    bind_ok (name_in n) (λ name. reader w >>= λ y. added most names name >>= λ after.
    Ok (form name y, after)) x e in
    let b =
    bind_ok (reader w) (λ y. added most names a.0 >>= λ after. Ok (form a.0 y, after)) x a.2 in
    let d = bind_ok (added most names a.0) (λ after. Ok (form a.0 b.0, after)) x b.2 in
    let g = guard_ok (is_name n) BadName n a.0 a.1 in
    let said = says a.0 w b.0 (subst (λ (t : Text). is_name t ≡ true) g.1 g.0) b.1 in
    says_read names word (n ∷ w ∷ []) (form a.0 b.0, d.0) x (record {
      form = said.0;
      spelled = subst (λ (t : Text). IsSpelled (spaced word (t ∷ w ∷ [])) (form a.0 b.0)) (sym g.1)
          said.1;
      adds = one_added names a.0 (form a.0 b.0) d.0 few (own a.0 b.0) d.1;
    }) d.2
name_and_word_says reader form word says own names args x few e = absurd cc

file_says : (n w stamp : Text) → IsTrue (is_name n) → file_stamp_in w ≡ Ok stamp
    → HasForm (File n stamp) × IsSpelled (spaced (codes "file") (n ∷ w ∷ [])) (File n stamp)
file_says n w stamp good given =
    let k = guard_ok (is_stamp w) BadStamp w stamp given in (
      (good, subst (λ (t : Text). is_stamp t ≡ true) k.1 k.0),
      λ i. spaced (codes "file") (n ∷ k.1 i ∷ []),
    )

-- the word is that of the stamp, or stands for none
record IsFileStampWord (word : Text) (stamp : Option Text) : Type 0 where
  is : word ≡ stamp_word stamp
  good : IfSome stamp (λ s. IsTrue (is_stamp s))

file_stamp_says : (word : Text) (stamp : Option Text) → file_stamp_or_none_in word ≡ Ok stamp
    → IsFileStampWord word stamp
file_stamp_says word stamp e = by (bytes_eq word (codes "-")) refl e
  where
    stamp_read : Option Text → Result (Option Text) LineFault
    stamp_read s = Ok s

    by : (b : Bool) → bytes_eq word (codes "-") ≡ b
        → cond b (Ok None) (file_stamp_in word >>= λ s. Ok (Some s)) ≡ Ok stamp
        → IsFileStampWord word stamp
    by true same h =
        let none : None ≡ stamp = cc in
        subst (IsFileStampWord word) none
        (record { is = (bytes_eq-Decides word (codes "-")).0 same; good = tt })
    by false same h =
        let a = bind_ok (file_stamp_in word) (λ s. Ok (Some s)) stamp h in
        let k = guard_ok (is_stamp word) BadStamp word a.0 a.1 in
        let some : Some a.0 ≡ stamp = cc in
        subst (IsFileStampWord word) some
        (record { is = k.1; good = subst (λ (t : Text). is_stamp t ≡ true) k.1 k.0 })

stamp_says : (n w content : Text) → IsTrue (is_name n) → content_in w ≡ Ok content
    → HasForm (Stamp n content)
    × IsSpelled (spaced (codes "stamp") (n ∷ w ∷ [])) (Stamp n content)
stamp_says n w content good given =
    let k = content_says w content given in ((good, k.bytes), (w, refl, k.word_is))

done_says : (n w : Text) (stamp : Option Text) → IsTrue (is_name n)
    → file_stamp_or_none_in w ≡ Ok stamp
    → HasForm (Done n stamp) × IsSpelled (spaced (codes "done") (n ∷ w ∷ [])) (Done n stamp)
done_says n w stamp good given =
    let k = file_stamp_says w stamp given in
    ((good, k.good), λ i. spaced (codes "done") (n ∷ k.is i ∷ []))

-- what is read as a form of a target and of names
names_form_says : {most : ℕ} (form : Text → List Text → Command Text) (word : Text)
    → ((t : Text) (ns : List Text) → IsTrue (is_name t) → IsNameList ns → HasForm (form t ns))
    → ((t : Text) (ns : List Text) → IsSpelled (spaced word (t ∷ ns)) (form t ns))
    → ((t : Text) (ns : List Text) → names_in (form t ns) ≡ t ∷ ns)
    → (names args : List Text) (x : Command Text × List Text) → length names ≤ most
    → names_form_in most form names args ≡ Ok x → SaysRead most names word args x
unfolding names_form_in
names_form_says {most} form word has spelled own names args x few e =
    let a =
    bind_ok (target_and_names_in args)
    (λ w. all_added most names (w.0 ∷ w.1) >>= λ after. Ok (form w.0 w.1, after)) x e in
    let t = a.0.0 in
    let ns = a.0.1 in
    let b = bind_ok (all_added most names (t ∷ ns)) (λ after. Ok (form t ns, after)) x a.2 in
    let g = target_and_names_found args t ns a.1 in
    says_read names word args (form t ns, b.0) x (record {
      form = has t ns g.target g.list;
      spelled = subst (λ (l : List Text). IsSpelled (spaced word l) (form t ns)) (sym g.words)
          (spelled t ns);
      adds = all_adds names (t ∷ ns) (form t ns) b.0 (own t ns) b.1;
    }) b.2

-- what is read as a form without words
no_words_says : {most : ℕ} (form : Command Text) (word : Text) → HasForm form
    → IsSpelled (spaced word []) form
    → names_in form ≡ [] → (names args : List Text) (x : Command Text × List Text)
    → length names ≤ most → no_words_in form names args ≡ Ok x → SaysRead most names word args x
unfolding no_words_in
no_words_says {most} form word has spelled own names [] x few e =
    let adds : AddsNames most names (form ∷ []) names =
    (ap (λ (l : List Text). with_names names (l ++ [])) (sym own), few) in
    says_read names word [] (
      form,
      names,
    ) x (record { form = has; spelled = spelled; adds = adds }) e
no_words_says {most} form word has spelled own names (w ∷ ws) x few e = absurd cc

-- what is read as the form of a kind
form_says : {most : ℕ} (kind : Kind) (names args : List Text) (x : Command Text × List Text)
    → length names ≤ most → form_in most (Some kind) names args ≡ Ok x
    → SaysRead most names (word_of kind) args x
unfolding form_in
form_says {most} kinds.File =
    name_and_word_says file_stamp_in File (codes "file") file_says (λ n stamp. refl)
form_says {most} kinds.Gone = one_name_says Gone (codes "gone") (λ n good. good) (λ n. refl)
    (λ n. refl)
form_says {most} kinds.Lock = one_name_says Lock (codes "lock") (λ n good. good) (λ n. refl)
    (λ n. refl)
form_says {most} kinds.Unlock =
    one_name_says Unlock (codes "unlock") (λ n good. good) (λ n. refl) (λ n. refl)
form_says {most} kinds.Start = one_name_says Start (codes "start") (λ n good. good) (λ n. refl)
    (λ n. refl)
form_says {most} kinds.IfChange =
    names_form_says IfChange (codes "ifchange") (λ t ns good list. (good, list)) (λ t ns. refl)
    (λ t ns. refl)
form_says {most} kinds.IfCreate =
    names_form_says IfCreate (codes "ifcreate") (λ t ns good list. (good, list)) (λ t ns. refl)
    (λ t ns. refl)
form_says {most} kinds.Always =
    one_name_says Always (codes "always") (λ n good. good) (λ n. refl) (λ n. refl)
form_says {most} kinds.Stamp =
    name_and_word_says content_in Stamp (codes "stamp") stamp_says (λ n content. refl)
form_says {most} kinds.Done =
    name_and_word_says file_stamp_or_none_in Done (codes "done") done_says (λ n stamp. refl)
form_says {most} kinds.Failed =
    one_name_says Failed (codes "failed") (λ n good. good) (λ n. refl) (λ n. refl)
form_says {most} kinds.Ood = no_words_says Ood (codes "ood") tt refl refl
form_says {most} kinds.Targets = no_words_says Targets (codes "targets") tt refl refl
form_says {most} kinds.Sources = no_words_says Sources (codes "sources") tt refl refl

-- what is read by the first word is what the words say
pub words_say : {most : ℕ} (names : List Text) (word : Text) (args : List Text)
    (command : Command Text)
    (after : List Text) → length names ≤ most
    → words_in most names (word ∷ args) ≡ Ok (command, after)
    → SaysCommand most names word args command after
unfolding words_in form_in
words_say {most} names word args command after few e = by (kind_named word) refl e
  where
    by : (found : Option Kind) → kind_named word ≡ found
        → form_in most found names args ≡ Ok (command, after)
        → SaysCommand most names word args command after
    by None named h = absurd cc
    by (Some kind) named h =
        subst (λ (w : Text). SaysRead most names w args (command, after))
        (sym (word_is word kind named))
        (form_says kind names args (command, after) few h)
