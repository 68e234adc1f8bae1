-- Distinct names are at most as many as the names that they are among.
use Rattle.std.proofs.Common.{◌≡◌, ◌≤◌, Bool, true, false, cond, List, [], ◌∷◌, ◌++◌, length, refl, sym, ◌∙◌, subst, inl, inr}
use Rattle.std.specs.Prelude.{bytes_eq}
use Rattle.std.specs.List.{IsDistinct}
use Rattle.std.proofs.lemmas.Bool.{false≢true, or_cases}
use Rattle.std.proofs.lemmas.Cmp.{nat_list_eq_equiv}
use Rattle.std.proofs.lemmas.List.Folds.{list_any-append}
use Rattle.std.proofs.lemmas.Map.Keys.{IsDistinct-push}
use Rattle.std.proofs.lemmas.Map.Made.{length-le_from_is_member}
use Rattle.std.proofs.lemmas.Slice.Eq.{bytes_eq-Decides}
use Rattle.redodb_names.specs.Names.{has, with_name}
use Rattle.redodb_names.proofs.NameLists.{AreNames-none}
use Rattle.redodb_model.specs.Names.{Text}
use Rattle.redodb_text.specs.Grammar.{with_names}
use Rattle.redodb_history.proofs.KnownNames.{IsKnown, AreKnown}

-- with one name more, which is known
with_one : (names prefix : List Text) (t q : Text) → (IsKnown prefix q → IsKnown names q)
    → IsKnown names t → IsKnown (with_name prefix t) q → IsKnown names q
with_one names prefix t q among known = by (has prefix t)
  where
    by : (b : Bool) → IsKnown (cond b prefix (prefix ++ t ∷ [])) q → IsKnown names q
    by true h = among h
    by false h =
        elim (or_cases (has prefix q) (has (t ∷ []) q)
        (sym (list_any-append (bytes_eq q) prefix (t ∷ [])) ∙ h)) [
          | inl k ↦ among k
          | inr k ↦ elim (or_cases (bytes_eq q t) false k) [
            | inl e ↦ subst (IsKnown names) (sym ((bytes_eq-Decides q t).0 e)) known
            | inr e ↦ absurd (false≢true e)
          ]
        ]

with_all : (names prefix ts : List Text) (q : Text) → (IsKnown prefix q → IsKnown names q)
    → AreKnown names ts → IsKnown (with_names prefix ts) q → IsKnown names q
with_all names prefix [] q among known h = among h
with_all names prefix (t ∷ ts) q among known h =
    with_all names (with_name prefix t) ts q (with_one names prefix t q among known.0) known.1 h

distinct_one : (prefix : List Text) (t : Text) → IsDistinct bytes_eq prefix
    → IsDistinct bytes_eq (with_name prefix t)
distinct_one prefix t distinct = by (has prefix t) refl
  where
    by : (b : Bool) → has prefix t ≡ b → IsDistinct bytes_eq (cond b prefix (prefix ++ t ∷ []))
    by true e = distinct
    by false e = IsDistinct-push nat_list_eq_equiv prefix t distinct e

distinct_all : (prefix ts : List Text) → IsDistinct bytes_eq prefix
    → IsDistinct bytes_eq (with_names prefix ts)
distinct_all prefix [] distinct = distinct
distinct_all prefix (t ∷ ts) distinct =
    distinct_all (with_name prefix t) ts (distinct_one prefix t distinct)

pub few_known : (names ts : List Text) → AreKnown names ts
    → length (with_names [] ts) ≤ length names
few_known names ts known =
    length-le_from_is_member nat_list_eq_equiv (with_names [] ts) names
    (distinct_all [] ts AreNames-none.distinct)
    (λ q h. with_all names [] ts q (λ none. absurd (false≢true none)) known h)
