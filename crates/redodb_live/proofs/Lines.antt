-- Lines that are legal, one by one, and facts about all elements of lists.
use Rattle.std.proofs.Common.{◌≡◌, ◌+◌, ◌<◌, ℕ, false, suc, List, [], ◌∷◌, ◌++◌, sym, ap, ◌∙◌, subst, map, take, drop, get_or, length}
use Rattle.std.specs.Prelude.{nat_eq}
use Rattle.std.specs.List.{AllByRecursion, Contains, IsDistinct}
use Rattle.std.proofs.Math.Seq.{drop-cons}
use Rattle.std.proofs.lemmas.Bool.{ne_eqb}
use Rattle.std.proofs.lemmas.List.{map-append, take-append-drop, take_more}
use Rattle.std.proofs.lemmas.Map.Keys.{IsDistinct-head, IsDistinct-tail, IsDistinct-cons}
use Rattle.redodb_model.specs.Names.{Naming}
use Rattle.redodb_model.specs.State.{State}
use Rattle.redodb_model.specs.History.{Line, LegalFrom, left_by}
use Rattle.redodb_model.specs.Step.{Answers, after}
use Rattle.redodb_model.proofs.Members.{contains_first, contains_later}
use Rattle.redodb_model.proofs.OneMore.{left_by-append}
use Rattle.redodb_history.proofs.KnownNames.{all_members}

pub all_both : {X : Type 0} (P : X → Type 0) (xs ys : List X) → AllByRecursion P xs
    → AllByRecursion P ys → AllByRecursion P (xs ++ ys)
all_both P [] ys h k = k
all_both P (x ∷ xs) ys h k = (h.0, all_both P xs ys h.1 k)

pub all_from_map : {X Y : Type 0} (f : X → Y) (P : Y → Type 0) (xs : List X)
    → AllByRecursion P (map f xs) → AllByRecursion (λ x. P (f x)) xs
all_from_map f P [] h = tt
all_from_map f P (x ∷ xs) h = (h.0, all_from_map f P xs h.1)

-- numbers of which each differs from all others
pub distinct_both : (us ts : List ℕ) → IsDistinct nat_eq us → IsDistinct nat_eq ts
    → ((u : ℕ) → Contains us u → Contains ts u → ⊥) → IsDistinct nat_eq (us ++ ts)
distinct_both [] ts once other apart = other
distinct_both (u ∷ us) ts once other apart =
    IsDistinct-cons nat_eq u (us ++ ts)
    (all_both (λ t. nat_eq u t ≡ false) us ts (IsDistinct-head nat_eq u us once)
    (all_members (λ t. nat_eq u t ≡ false) ts (λ t there.
    ne_eqb u t (λ same. apart u (contains_first u us) (subst (Contains ts) (sym same) there)))))
    (distinct_both us ts (IsDistinct-tail nat_eq u us once) other
    (λ t here there. apart t (contains_later u us t here) there))

module _ {N : Type 0} (naming : Naming N) where
  pub legal_rest : (st : State N) (lines more : List (Line N))
      → LegalFrom naming st (lines ++ more) → LegalFrom naming (left_by naming st lines) more
  legal_rest st [] more h = h
  legal_rest st (line ∷ lines) more h =
      legal_rest (after naming st line.session line.command) lines more h.1

  module _ {X : Type 0} (f : X → Line N) (st : State N) (xs : List X) (i : ℕ) (d : X)
      (within : i < length xs)
    where
      cut : map f xs
          ≡ map f (take i xs) ++ (f (get_or xs i d) ∷ map f (drop (suc i) xs))
      cut =
          ap (map f) (sym (take-append-drop i xs))
          ∙ map-append f (take i xs) (drop i xs)
          ∙ ap (λ (rest : List X). map f (take i xs) ++ map f rest) (drop-cons xs i d within)

      pub answer_at : LegalFrom naming st (map f xs) → Answers naming
          (left_by naming st (map f (take i xs))) (f (get_or xs i d)).session
          (f (get_or xs i d)).command (f (get_or xs i d)).reply
      answer_at legal =
          (legal_rest st (map f (take i xs)) (f (get_or xs i d) ∷ map f (drop (suc i) xs))
          (subst (LegalFrom naming st) cut legal)).0

      pub left_more : left_by naming st (map f (take (i + 1) xs))
          ≡ after naming (left_by naming st (map f (take i xs))) (f (get_or xs i d)).session
          (f (get_or xs i d)).command
      left_more =
          ap (λ (prefix : List X). left_by naming st (map f prefix)) (take_more xs i d within)
          ∙ ap (left_by naming st) (map-append f (take i xs) (get_or xs i d ∷ []))
          ∙ left_by-append naming st (map f (take i xs)) (f (get_or xs i d) ∷ [])
