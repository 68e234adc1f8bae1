-- Names that are known by their numbers.
use Rattle.std.proofs.Common.{◌≡◌, ℕ, zero, suc, ◌<◌, Bool, true, false, cond, ◌||◌, ◌==◌, List, [], ◌∷◌, ◌++◌, ◌≤◌, ◌&&◌, length, map, arith, Some, slice_get, Ok, Err, refl, sym, ap, subst, ◌∙◌, append-nil, take, drop, take-append-drop, not}
use Rattle.std.specs.Prelude.{bytes_eq}
use Rattle.std.specs.List.{list_all}
use Rattle.std.proofs.lemmas.Bool.{not-false, or_right}
use Rattle.std.proofs.lemmas.List.{length-map}
use Rattle.std.proofs.lemmas.Option.{get_or_from_slice_get, slice_get_within, slice_get-get_or}
use Rattle.std.proofs.lemmas.Slice.Eq.{bytes_eq-Decides}
use Rattle.redodb_names.specs.Names.{is_name, has, AreAllNames}
use Rattle.redodb_names.specs.Support.Names.{AreNames}
use Rattle.redodb_model.specs.Names.{Text, text_at}
use Rattle.redodb_model.specs.Command.{Command}
use Rattle.redodb_text.specs.declared.fault.LineFault.TheVariants.{TooManyNames}
use Rattle.redodb_model.specs.Renaming.{AllBelow}
use Rattle.redodb_text.specs.Grammar.{with_names}
use Rattle.redodb_text.specs.Questions.{words_of}
use Rattle.redodb_text.specs.Support.Reading.{IsNumbered, added, all_added, one_name_in, names_form_in}
use Rattle.redodb_text.specs.Support.ReplyReading.{names_in_words, with_its_names}
use Rattle.redodb_text.proofs.NameLists.{all_added-fits, each_name, target_and_names_read}
use Rattle.redodb_text.proofs.Spaced.{name_is_visible, words_of-first, words_of-spaced}
use Rattle.redodb_text.proofs.Steps.{same_found}

-- a name with a number is among the names
pub has_at : (names : List Text) (n : ℕ) (t : Text) → slice_get names n ≡ Some t
    → has names t ≡ true
has_at [] n t e = absurd cc
has_at (x ∷ xs) zero t e =
    let is : bytes_eq t x ≡ true = (bytes_eq-Decides t x).1 (sym (same_found x t e)) in
    ap (λ (b : Bool). b || has xs t) is
has_at (x ∷ xs) (suc n) t e = or_right (bytes_eq t x) (has xs t) (has_at xs n t e)

each_at : (names : List Text) (n : ℕ) (t : Text) → AreAllNames names
    → slice_get names n ≡ Some t → is_name t ≡ true
each_at [] n t each e = absurd cc
each_at (x ∷ xs) zero t each e = subst (λ (w : Text). is_name w ≡ true) (same_found x t e) each.0
each_at (x ∷ xs) (suc n) t each e = each_at xs n t each.1 e

pub numbered : (names : List Text) (t : Text) (n : ℕ) → AreNames names → slice_get names n ≡ Some t
    → IsNumbered names t n
numbered names t n are e = record { at = e; name = each_at names n t are.each e }

pub text_at_known : (names : List Text) (t : Text) (n : ℕ) → IsNumbered names t n
    → text_at names n ≡ t
text_at_known names t n is = get_or_from_slice_get names n t [] is.at

pub below_known : (names : List Text) (t : Text) (n : ℕ) → IsNumbered names t n → n < length names
below_known names t n is = slice_get_within names n t is.at

-- such a name is known already
pub added_known : (most : ℕ) (names : List Text) (t : Text) (n : ℕ) → IsNumbered names t n
    → added most names t ≡ Ok names
added_known most names t n is =
    let new = cond (length names == most) (Err TooManyNames) (Ok (names ++ t ∷ [])) in
    ap (λ (b : Bool). cond b (Ok names) new) (has_at names n t is.at)

-- a name is one word
pub one_name : (t : Text) → is_name t ≡ true → words_of t ≡ t ∷ []
one_name t is = ap words_of (sym (append-nil t)) ∙ words_of-spaced t [] (name_is_visible t is) tt

empty : (rest : Text) → length rest ≡ 0 → rest ≡ []
empty [] e = refl
empty (b ∷ bs) e = absurd (omega (arith, e))

-- a text that begins with a name, by what comes after it
begins : (name text first rest : Text)
    → (first ≡ take (length name) text) × (rest ≡ drop (length name) text)
    → false ≡ not (bytes_eq first name) → text ≡ name ++ rest
begins name text first rest parts same =
    let is : first ≡ name = (bytes_eq-Decides first name).0 (not-false (bytes_eq first name) (sym same)) in
    sym (take-append-drop (length name) text)
    ∙ (λ i. (sym parts.0 ∙ is) i ++ sym parts.1 i)

pub name_alone : (name text first rest : Text) → is_name name ≡ true
    → (first ≡ take (length name) text) × (rest ≡ drop (length name) text)
    → false ≡ not (bytes_eq first name) → length rest ≡ 0 → words_of text ≡ name ∷ []
name_alone name text first rest is parts same none =
    ap words_of (begins name text first rest parts same
    ∙ ap (λ (r : Text). name ++ r) (empty rest none) ∙ append-nil name) ∙ one_name name is

pub name_before_space : (name text first rest others : Text) (b : ℕ) → is_name name ≡ true
    → (first ≡ take (length name) text) × (rest ≡ drop (length name) text)
    → false ≡ not (bytes_eq first name) → rest ≡ b ∷ others → b ≡ 32
    → words_of text ≡ name ∷ words_of others
name_before_space name text first rest others b is parts same cut space =
    ap words_of (begins name text first rest parts same
    ∙ ap (λ (r : Text). name ++ r) (cut ∙ ap (λ (x : ℕ). x ∷ others) space))
    ∙ words_of-first name others (name_is_visible name is)

pub one_name_known : (most : ℕ) (form : Text → Command Text) (names args : List Text) (t : Text)
    (n : ℕ)
    → args ≡ t ∷ [] → IsNumbered names t n
    → one_name_in most form names args ≡ Ok (form (text_at names n), names)
unfolding one_name_in
one_name_known most form names args t n alone is =
    let name : is_name t ≡ true = is.name in
    let there : added most names t ≡ Ok names = added_known _ names t n is in
    let text : text_at names n ≡ t = text_at_known names t n is in
    rw (alone, name, there, text) refl

-- the texts of numbers of names are names, and are known already
all_known : (names : List Text) (ns : List ℕ) → AreNames names → AllBelow (length names) ns
    → list_all is_name (map (text_at names) ns) ≡ true
all_known names [] are below = refl
all_known names (n ∷ ns) are below =
    let first : is_name (text_at names n) ≡ true =
    (numbered names (text_at names n) n are (slice_get-get_or names n [] below.0)).name in
    let others = all_known names ns are below.1 in
    λ i. first i && others i

with_known : (names : List Text) (ns : List ℕ) → AllBelow (length names) ns
    → with_names names (map (text_at names) ns) ≡ names
with_known names [] below = refl
with_known names (n ∷ ns) below =
    let there = has_at names n (text_at names n) (slice_get-get_or names n [] below.0) in
    let others = map (text_at names) ns in
    ap (λ (b : Bool). with_names (cond b names (names ++ text_at names n ∷ [])) others) there
    ∙ with_known names ns below.1

all_added_known : (most : ℕ) (names : List Text) (ns : List ℕ) → length names ≤ most
    → AllBelow (length names) ns
    → all_added most names (map (text_at names) ns) ≡ Ok names
all_added_known most names ns few below =
    all_added-fits names (map (text_at names) ns) names (sym (with_known names ns below)) few

pub listed_known : (most : ℕ) (names args : List Text) (ns : List ℕ) → AreNames names
    → length names ≤ most → AllBelow (length names) ns → args ≡ map (text_at names) ns
    → with_its_names most (λ ts. ts) names (names_in_words args)
    ≡ Ok (map (text_at names) ns, names)
listed_known most names args ns are few below is =
    let all = all_known names ns are below in
    let there = all_added_known _ names ns few below in
    rw (is, all, there) refl

pub form_known : (most : ℕ) (form : Text → List Text → Command Text)
    → (names args : List Text) (t : ℕ) (ns : List ℕ)
    → AreNames names → length names ≤ most → AllBelow (length names) (t ∷ ns)
    → 1 ≤ length ns → length ns ≤ 64
    → args ≡ text_at names t ∷ map (text_at names) ns
    → names_form_in most form names args
    ≡ Ok (form (text_at names t) (map (text_at names) ns), names)
unfolding names_form_in
form_known most form names args t ns are room below some few is =
    let each =
    each_name (text_at names t ∷ map (text_at names) ns) (all_known names (t ∷ ns) are below) in
    let count = length-map ns (text_at names) in
    let words =
    target_and_names_read (text_at names t) (map (text_at names) ns) each.0
    (record { some = omega (arith, count); few = omega (arith, count); each = each.1 }) in
    let there = all_added_known _ names (t ∷ ns) room below in
    rw (is, words, there) refl
