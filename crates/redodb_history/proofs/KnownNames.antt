-- Names that are read one after another: which are known, and stay known.
use Rattle.std.proofs.Common.{◌≡◌, ◌||◌, Bool, true, false, cond, List, [], ◌∷◌, ◌++◌, get_or, refl, sym, ap, ◌∙◌, subst}
use Rattle.std.specs.Prelude.{IsTrue, bytes_eq}
use Rattle.std.specs.List.{AllByRecursion, Contains}
use Rattle.std.proofs.lemmas.Bool.{false≢true, or_left, or_right}
use Rattle.std.proofs.lemmas.List.Elements.{All-contains, All-from_recursion, Contains-get_or, recursion_from_All}
use Rattle.std.proofs.lemmas.Slice.Eq.{bytes_eq-Decides}
use Rattle.std.proofs.lemmas.List.Folds.{list_any-append}
use Rattle.redodb_names.specs.Names.{has, with_name, is_name}
use Rattle.redodb_model.specs.Names.{Text}
use Rattle.redodb_text.specs.Grammar.{with_names}
use Rattle.redodb_text.specs.Replies.{AreAllNames}

-- the name is one of these
abbrev pub IsKnown : List Text → Text → Type 0
IsKnown names n = has names n ≡ true

abbrev pub AreKnown : List Text → List Text → Type 0
AreKnown names ns = AllByRecursion (IsKnown names) ns

known_in_prefix : (names more : List Text) (n : Text) → IsKnown names n → IsKnown (names ++ more) n
known_in_prefix names more n known = list_any-append (bytes_eq n) names more
    ∙ or_left (has names n) (has more n) known

known_last : (names : List Text) (n : Text) → IsKnown (names ++ n ∷ []) n
known_last names n = list_any-append (bytes_eq n) names (n ∷ [])
    ∙ or_right (has names n) (has (n ∷ []) n)
    (or_left (bytes_eq n n) false ((bytes_eq-Decides n n).1 refl))

known-with_name : (names : List Text) (t n : Text) → IsKnown names n → IsKnown (with_name names t) n
known-with_name names t n known = by (has names t)
  where
    by : (b : Bool) → IsKnown (cond b names (names ++ t ∷ [])) n
    by true = known
    by false = known_in_prefix names (t ∷ []) n known

itself-with_name : (names : List Text) (t : Text) → IsKnown (with_name names t) t
itself-with_name names t = by (has names t) refl
  where
    by : (b : Bool) → has names t ≡ b → IsKnown (cond b names (names ++ t ∷ [])) t
    by true e = e
    by false e = known_last names t

-- what was known stays known
pub known-with_names : (names ts : List Text) (n : Text) → IsKnown names n
    → IsKnown (with_names names ts) n
known-with_names names [] n known = known
known-with_names names (t ∷ ts) n known =
    known-with_names (with_name names t) ts n (known-with_name names t n known)

-- and what is added is known
pub added_are_known : (names ts : List Text) → AreKnown (with_names names ts) ts
added_are_known names [] = tt
added_are_known names (t ∷ ts) = (
  known-with_names (with_name names t) ts t (itself-with_name names t),
  added_are_known (with_name names t) ts,
)

-- adding a known name changes nothing
pub with_names-known : (names ts : List Text) → AreKnown names ts → with_names names ts ≡ names
with_names-known names [] known = refl
with_names-known names (t ∷ ts) known =
    let same : with_name names t ≡ names = ap (λ b. cond b names (names ++ t ∷ [])) known.0 in
    ap (λ prefix. with_names prefix ts) same ∙ with_names-known names ts known.1

one_more_name : (names : List Text) (t : Text) → AreAllNames names → IsTrue (is_name t)
    → AreAllNames (names ++ t ∷ [])
one_more_name [] t each is = (is, tt)
one_more_name (n ∷ names) t each is = (each.0, one_more_name names t each.1 is)

each-with_name : (names : List Text) (t : Text) → AreAllNames names → IsTrue (is_name t)
    → AreAllNames (with_name names t)
each-with_name names t each is = by (has names t)
  where
    by : (b : Bool) → AreAllNames (cond b names (names ++ t ∷ []))
    by true = each
    by false = one_more_name names t each is

-- each of them is a name, with the new ones too
pub each-with_names : (names ts : List Text) → AreAllNames names → AreAllNames ts
    → AreAllNames (with_names names ts)
each-with_names names [] each are = each
each-with_names names (t ∷ ts) each are =
    each-with_names (with_name names t) ts (each-with_name names t each are.0) are.1

first_or_later : (names : List Text) (m n : Text) (b : Bool) → bytes_eq n m ≡ b → IsTrue (is_name m)
    → (IsKnown names n → IsTrue (is_name n)) → (b || has names n) ≡ true → IsTrue (is_name n)
first_or_later names m n true e first later known =
    subst (λ (t : Text). IsTrue (is_name t)) (sym ((bytes_eq-Decides n m).0 e)) first
first_or_later names m n false e first later known = later known

known_is_name : (names : List Text) (n : Text) → AreAllNames names → IsKnown names n
    → IsTrue (is_name n)
known_is_name [] n each known = absurd (false≢true known)
known_is_name (m ∷ names) n each known = first_or_later names m n (bytes_eq n m) refl each.0
    (known_is_name names n each.1) known

-- what is among names is a name
pub known_are_names : (names ns : List Text) → AreAllNames names → AreKnown names ns
    → AreAllNames ns
known_are_names names [] each known = tt
known_are_names names (n ∷ ns) each known =
    (known_is_name names n each known.0, known_are_names names ns each known.1)

-- what is true of each member, one by one
pub all_members : {X : Type 0} (P : X → Type 0) (xs : List X) → ((x : X) → Contains xs x → P x)
    → AllByRecursion P xs
all_members P xs of =
    recursion_from_All P xs (λ k d below. of (get_or xs k d) (Contains-get_or xs k d below))

pub member_of_all : {X : Type 0} (P : X → Type 0) (xs : List X) (y : X) → AllByRecursion P xs
    → Contains xs y → P y
member_of_all P xs y all = All-contains P xs y (All-from_recursion P xs all)
