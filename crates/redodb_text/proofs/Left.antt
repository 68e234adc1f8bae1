-- The names after an error.
use Rattle.std.proofs.Common.{◌≡◌, ℕ, ◌+◌, ◌<◌, ◌≤◌, true, false, List, [], ◌∷◌, ◌++◌, length, get_or, take, drop, Result, Ok, Err, refl, sym, ap, subst, ◌∙◌, inl, inr, take-append-drop}
use Rattle.std.specs.Prelude.{IfErr, OnErr}
use Rattle.std.specs.List.{list_all}
use Rattle.std.proofs.lemmas.List.{take_more}
use Rattle.redodb_names.specs.Names.{is_name, with_name}
use Rattle.redodb_model.specs.Names.{Text}
use Rattle.redodb_commands.specs.declared.kind.Kind.{Kind}
use Rattle.redodb_commands.specs.declared.kind.Kind.TheVariants as kinds
use Rattle.redodb_text.specs.declared.fault.LineFault.{LineFault}
use Rattle.redodb_text.specs.declared.fault.LineFault.TheVariants.{TooManyNames}
use Rattle.redodb_text.specs.declared.fault.Unread.{Unread}
use Rattle.redodb_text.specs.declared.fault.Unread.TheVariants as unread
use Rattle.redodb_text.specs.declared.fault.ReadFault.{ReadFault}
use Rattle.redodb_text.specs.declared.fault.ReadFault.TheVariants as faults
use Rattle.redodb_text.specs.Texts.{word_of}
use Rattle.redodb_text.specs.Grammar.{with_names}
use Rattle.redodb_text.specs.Questions.{words_of, has_bad_byte}
use Rattle.redodb_text.specs.Support.Faults.{AddsPrefix, LeavesNames}
use Rattle.redodb_text.specs.Support.Reading.{Reads, added, target_and_names_in, LeavesPrefix, LeavesSome, LeavesWords}
use Rattle.redodb_text.proofs.Added.{added_is}
use Rattle.redodb_text.proofs.NameLists.{full_at, target_and_names_found, all_names, each_name, names_are_visible}
use Rattle.redodb_text.proofs.ScriptParts.{with_names-append}
use Rattle.redodb_text.proofs.Spaced.{IsVisible, line_is_spaced, spaced_is_text}

-- the names with the first words, and with one more
pub prefix_more : {most : ℕ} (start names after ws : List Text) (i : ℕ) (w : Text)
    → length names ≤ most
    → i < length ws → get_or ws i [] ≡ w → added most names w ≡ Ok after
    → names ≡ with_names start (take i ws) → after ≡ with_names start (take (i + 1) ws)
prefix_more {most} start names after ws i w few lt at e prefix =
    (added_is names w after few e).0
    ∙ ap (λ (l : List Text). with_name l w) prefix
    ∙ sym (with_names-append start (take i ws) (w ∷ []))
    ∙ ap (with_names start) (ap (λ (t : Text). take i ws ++ t ∷ []) (sym at)
    ∙ sym (take_more ws i [] lt))

prefix_at : (start after ws : List Text) (i : ℕ) → after ≡ with_names start (take i ws)
    → AddsPrefix start ws after
prefix_at start after ws i prefix = record {
  own = take i ws;
  rest = drop i ws;
  words_are = sym (take-append-drop i ws);
  adds = prefix;
}

-- one word is not added: those before it are
pub prefix_left : (most : ℕ) (start names after ws : List Text) (i : ℕ) (w : Text) (why : Unread)
    → names ≡ with_names start (take i ws) → after ≡ names
    → Reads {X = ℕ} {Y = List Text} (λ n. after) (Err why) (added most names w)
    → LeavesPrefix most start ws after why
prefix_left most start names after ws i w unread.Memory prefix same reads =
    (prefix_at start after ws i (same ∙ prefix), tt)
prefix_left most start names after ws i w (unread.Fault fault) prefix same reads =
    let full = full_at names w fault reads in
    (prefix_at start after ws i (same ∙ prefix), (full.0, ap length same ∙ full.1))

-- the words before it, and it, are added, and then memory runs out
pub prefix_kept : (most : ℕ) (start after ws : List Text) (i : ℕ)
    → after ≡ with_names start (take i ws)
    → LeavesPrefix most start ws after unread.Memory
prefix_kept most start after ws i prefix = (prefix_at start after ws i prefix, tt)

-- after a target, some of the names are added
pub some_left : {most : ℕ} (names mid after args : List Text) (t : Text) (ns : List Text)
    (why : Unread)
    → length names ≤ most → target_and_names_in args ≡ Ok (t, ns) → added most names t ≡ Ok mid
    → LeavesPrefix most mid ns after why → LeavesSome most names args after why
some_left {most} names mid after args t ns why few words e left =
    let found = target_and_names_found args t ns words in
    let is : mid ≡ with_name names t = (added_is names t mid few e).0 in
    let prefix = left.0 in
    let each : list_all is_name args ≡ true =
    ap (list_all is_name) found.words ∙ all_names (t ∷ ns) (found.target, found.list.each) in
    let longer : AddsPrefix names args after = record {
      own = t ∷ prefix.own;
      rest = prefix.rest;
      words_are = found.words ∙ ap (λ (l : List Text). t ∷ l) prefix.words_are;
      adds = prefix.adds ∙ ap (λ (l : List Text). with_names l prefix.own) is;
    } in
    inr (each, (longer, left.1))

word_is_visible : (kind : Kind) → IsVisible (word_of kind)
word_is_visible kinds.File = refl
word_is_visible x = refl

-- of a text that begins with a command's word
pub words_left : (most : ℕ) (names : List Text) (text : Text) (kind : Kind) (args after : List Text)
    (why : Unread) → words_of text ≡ word_of kind ∷ args → LeavesSome most names args after why
    → LeavesWords most names text after why
words_left most names text kind args after why words left =
    elim left [
      | inl same ↦ inl same
      | inr some ↦ inr (
        good some.0,
        subst (λ (l : List Text). LeavesPrefix most names l after why)
            (sym (ap (drop 1) words)) some.1,
      )
    ]
  where
    good : list_all is_name args ≡ true → has_bad_byte text ≡ false
    good all =
        ap has_bad_byte (line_is_spaced text (word_of kind) args words)
        ∙ spaced_is_text (word_of kind) args (word_is_visible kind)
        (names_are_visible args (each_name args all))

-- if nothing is added
pub same_left : (most : ℕ) {X : Type 0} (result : Result X Unread) (names : List Text) (text : Text)
    (after : List Text) → after ≡ names → IfErr result (LeavesWords most names text after)
same_left most (Ok x) names text after same = tt
same_left most (Err why) names text after same = inl same

pub same_left_on : (most : ℕ) {X : Type 0} (result : Result X Unread) (names : List Text)
    (text : Text)
    (after : List Text) → OnErr result (after ≡ names)
    → IfErr result (LeavesWords most names text after)
same_left_on most (Ok x) names text after same = tt
same_left_on most (Err why) names text after same = inl same

none_added : (names words : List Text) → AddsPrefix names words names
none_added names words = record { own = []; rest = words; words_are = refl; adds = refl }

-- the names after the error of a line that is read alone
pub names_left : (most : ℕ) (names : List Text) (line : Text) (after : List Text) (why : Unread)
    (result : ReadFault) → LeavesWords most names line after why
    → (why ≡ unread.Memory → result ≡ faults.Memory)
    → ((fault : LineFault) → why ≡ unread.Fault fault → result ≡ faults.Line 1 fault)
    → LeavesNames most names line after result
names_left most names line after unread.Memory result left memory of_line =
    subst (LeavesNames most names line after) (sym (memory refl)) (by left)
  where
    by : LeavesWords most names line after unread.Memory
        → LeavesNames most names line after faults.Memory
    by (inl same) =
        subst (λ (l : List Text). AddsPrefix names (drop 1 (words_of line)) l) (sym same)
        (none_added names (drop 1 (words_of line)))
    by (inr some) = some.1.0
names_left most names line after (unread.Fault fault) result left memory of_line =
    subst (LeavesNames most names line after) (sym (of_line fault refl)) (by fault left)
  where
    by : (f : LineFault) → LeavesWords most names line after (unread.Fault f)
        → LeavesNames most names line after (faults.Line 1 f)
    by TooManyNames (inl same) = inl same
    by TooManyNames (inr some) = inr (some.1.0, some.1.1.1)
    by f (inl same) = same
    by f (inr some) = let other : f ≡ TooManyNames = some.1.1.0 in absurd cc
