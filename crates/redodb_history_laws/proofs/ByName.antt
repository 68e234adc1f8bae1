-- Placed histories over numbers, under the names that they stand for.
use Rattle.std.proofs.Common.{◌≡◌, ◌↔◌, ℕ, ◌<◌, Bool, true, false, cond, eqb, List, [], ◌∷◌, ◌++◌, count_by, map, refl, sym, ap, ◌∙◌, subst, inl, inr, arith, eq-eqb, eqb-true}
use Rattle.std.specs.List.{AllByRecursion}
use Rattle.std.specs.declared.cmp.Ordering.{Ordering}
use Rattle.std.proofs.lemmas.Bool.{cases_Bool, false≢true}
use Rattle.std.proofs.lemmas.List.Sums.{sum_by-cons}
use Rattle.std.proofs.lemmas.List.{map_push}
use Rattle.redodb_model.specs.Names.{Naming, numbers}
use Rattle.redodb_model.specs.Support.Names.{IsNaming}
use Rattle.redodb_model.specs.Command.{Command, Lock, Unlock}
use Rattle.redodb_model.specs.Reply.{Reply, Okay}
use Rattle.redodb_model.specs.Renaming.{named_command, named_reply}
use Rattle.redodb_model.specs.Support.Renaming.{Renaming, IsRenaming}
use Rattle.redodb_model.proofs.RepliesByName.{one_number}
use Rattle.redodb_model.specs.Placed.{Place, Row, Granted, Busy, Released, PlacedLine, is_claim, Fits, part_of, is_row, rows_in, is_grant, is_release, grants_in, releases_in, Follows, IsPlacedAfter, IsPlaced}
use Rattle.redodb_model.specs.Journals.{IsJointOrder}
use Rattle.redodb_history_laws.specs.Named.{named_place, named_placed_line, named_journals, IsPlaceBelow, IsPlacedBelow}
use Rattle.redodb_history_laws.proofs.Counts.{one_if}

count_map : {A B : Type 0} (f : A → B) (p : B → Bool) (q : A → Bool) (P : A → Type 0)
    → ((x : A) → P x → p (f x) ≡ q x) → (xs : List A) → AllByRecursion P xs
    → count_by p (map f xs) ≡ count_by q xs
count_map f p q P same [] all = refl
count_map f p q P same (x ∷ xs) all =
    let a = sum_by-cons (λ y. one_if (p y)) (f x) (map f xs) in
    let b = sum_by-cons (λ y. one_if (q y)) x xs in
    omega (arith, ap one_if (same x all.0), count_map f p q P same xs all.1)

pub all_push : {A : Type 0} (P : A → Type 0) (xs : List A) (x : A) → AllByRecursion P xs → P x
    → AllByRecursion P (xs ++ x ∷ [])
all_push P [] x all h = (h, tt)
all_push P (y ∷ ys) x all h = (all.0, all_push P ys x all.1 h)

pub kept_map : {A B : Type 0} (f : A → B) (b : Bool) (x : A) (xs : List A) (ys : List B)
    → ys ≡ map f xs → cond b (f x ∷ ys) ys ≡ map f (cond b (x ∷ xs) xs)
kept_map f true x xs ys e = ap (λ zs. f x ∷ zs) e
kept_map f false x xs ys e = e

pub part_map : {N M : Type 0} (name : N → M) (s : ℕ) (lines : List (PlacedLine N))
    → part_of s (map (named_placed_line name) lines)
    ≡ map (named_placed_line name) (part_of s lines)
part_map name s [] = refl
part_map name s (line ∷ lines) =
    kept_map (named_placed_line name) (eqb line.session s) line (part_of s lines)
    (part_of s (map (named_placed_line name) lines)) (part_map name s lines)

module _ {A B : Type 0} (name : A → B) where
  lock_claim : (t : A) (reply : Reply A)
      → is_claim (Lock (name t)) (named_reply name reply) ≡ is_claim (Lock t) reply
  lock_claim t Okay = refl
  lock_claim t reply = refl

  unlock_claim : (t : A) (reply : Reply A)
      → is_claim (Unlock (name t)) (named_reply name reply) ≡ is_claim (Unlock t) reply
  unlock_claim t Okay = refl
  unlock_claim t reply = refl

  claim_kept : (command : Command A) (reply : Reply A)
      → is_claim (named_command name command) (named_reply name reply) ≡ is_claim command reply
  claim_kept (Lock t) reply = lock_claim t reply
  claim_kept (Unlock t) reply = unlock_claim t reply
  claim_kept x reply = refl

  pub fits_kept : (place : Place A) (command : Command A) (reply : Reply A)
      → Fits place command reply
      → Fits (named_place name place) (named_command name command) (named_reply name reply)
  fits_kept (Row r) command reply h = claim_kept command reply ∙ h
  fits_kept place command reply h = (ap (named_command name) h.0, ap (named_reply name) h.1)

module _ {M : Type 0} {to : Renaming M} (law : IsRenaming to) {naming : Naming M}
    (good : IsNaming naming) (order : ℕ → ℕ → Ordering) where
  same_by_name : (k m : ℕ) → k < to.count → m < to.count
      → naming.same (to.name k) (to.name m) ≡ eqb k m
  same_by_name k m a b = elim (cases_Bool (eqb k m)) [
    | inl e ↦ (good.decides (to.name k) (to.name m)).1 (ap to.name (eqb-true k m e)) ∙ sym e
    | inr e ↦ elim (cases_Bool (naming.same (to.name k) (to.name m))) [
      | inl f
          ↦ absurd
          (false≢true
          (sym e
          ∙ eq-eqb k m
          (one_number law k m a b ((good.decides (to.name k) (to.name m)).0 f))))
      | inr f ↦ f ∙ sym e
    ]
  ]

  grant_by_name : (t : ℕ) → t < to.count → (place : Place ℕ) → IsPlaceBelow to.count place
      → is_grant naming (to.name t) (named_place to.name place) ≡ is_grant (numbers order) t place
  grant_by_name t a (Granted u g) b = same_by_name u t b a
  grant_by_name t a place b = refl

  release_by_name : (t : ℕ) → t < to.count → (place : Place ℕ) → IsPlaceBelow to.count place
      → is_release naming (to.name t) (named_place to.name place)
      ≡ is_release (numbers order) t place
  release_by_name t a (Released u g) b = same_by_name u t b a
  release_by_name t a place b = refl

  row_by_name : (place : Place ℕ) → is_row (named_place to.name place) ≡ is_row place
  row_by_name (Row r) = refl
  row_by_name place = refl

  grants_by_name : (lines : List (PlacedLine ℕ)) → AllByRecursion (IsPlacedBelow to.count) lines
      → (t : ℕ) → t < to.count
      → grants_in naming (map (named_placed_line to.name) lines) (to.name t)
      ≡ grants_in (numbers order) lines t
  grants_by_name lines all t a =
      count_map (named_placed_line to.name) (λ line. is_grant naming (to.name t) line.place)
      (λ line. is_grant (numbers order) t line.place) (IsPlacedBelow to.count)
      (λ line h. grant_by_name t a line.place h.place) lines all

  releases_by_name : (lines : List (PlacedLine ℕ)) → AllByRecursion (IsPlacedBelow to.count) lines
      → (t : ℕ) → t < to.count
      → releases_in naming (map (named_placed_line to.name) lines) (to.name t)
      ≡ releases_in (numbers order) lines t
  releases_by_name lines all t a =
      count_map (named_placed_line to.name) (λ line. is_release naming (to.name t) line.place)
      (λ line. is_release (numbers order) t line.place) (IsPlacedBelow to.count)
      (λ line h. release_by_name t a line.place h.place) lines all

  rows_by_name : (lines : List (PlacedLine ℕ)) → AllByRecursion (IsPlacedBelow to.count) lines
      → rows_in (map (named_placed_line to.name) lines) ≡ rows_in lines
  rows_by_name lines all =
      count_map (named_placed_line to.name) (λ line. is_row line.place) (λ line. is_row line.place)
      (IsPlacedBelow to.count) (λ line h. row_by_name line.place) lines all

  pub follows_by_name : (lines : List (PlacedLine ℕ))
      → AllByRecursion (IsPlacedBelow to.count) lines → (place : Place ℕ)
      → IsPlaceBelow to.count place
      → Follows (numbers order) lines place
      ↔ Follows naming (map (named_placed_line to.name) lines) (named_place to.name place)
  follows_by_name lines all (Row r) b = let e = rows_by_name lines all in
      (λ h. e ∙ h, λ h. sym e ∙ h)
  follows_by_name lines all (Granted t g) b =
      let e = grants_by_name lines all t b in
      let f = releases_by_name lines all t b in
      (λ h. (omega (arith, h.0), omega (arith, h.1)), λ h. (omega (arith, h.0), omega (arith, h.1)))
  follows_by_name lines all (Busy t g) b =
      let e = grants_by_name lines all t b in
      let f = releases_by_name lines all t b in
      (λ h. (omega (arith, h.0), omega (arith, h.1)), λ h. (omega (arith, h.0), omega (arith, h.1)))
  follows_by_name lines all (Released t g) b =
      let e = grants_by_name lines all t b in
      let f = releases_by_name lines all t b in
      (λ h. (omega (arith, h.0), omega (arith, h.1)), λ h. (omega (arith, h.0), omega (arith, h.1)))

  placed_after_by_name : (before lines : List (PlacedLine ℕ))
      → AllByRecursion (IsPlacedBelow to.count) before
      → AllByRecursion (IsPlacedBelow to.count) lines → IsPlacedAfter (numbers order) before lines
      → IsPlacedAfter naming (map (named_placed_line to.name) before)
      (map (named_placed_line to.name) lines)
  placed_after_by_name before [] all more h = tt
  placed_after_by_name before (line ∷ lines) all more h = (
    fits_kept to.name line.place line.command line.reply h.0,
    (follows_by_name before all line.place more.0.place).0 h.1,
    subst
        (λ (bs : List (PlacedLine M)). IsPlacedAfter naming bs
        (map (named_placed_line to.name) lines))
        (map_push (named_placed_line to.name) before line)
        (placed_after_by_name (before ++ line ∷ []) lines
        (all_push (IsPlacedBelow to.count) before line all more.0) more.1 h.2),
  )

  pub placed_by_name : (lines : List (PlacedLine ℕ)) → AllByRecursion (IsPlacedBelow to.count) lines
      → IsPlaced (numbers order) lines → IsPlaced naming (map (named_placed_line to.name) lines)
  placed_by_name lines all h = placed_after_by_name [] lines tt all h

  -- a joint order over numbers, under their names, is one over the names
  pub joint_by_name : (journals : ℕ → List (PlacedLine ℕ)) (lines : List (PlacedLine ℕ))
      → AllByRecursion (IsPlacedBelow to.count) lines
      → IsJointOrder (numbers order) journals lines
      → IsJointOrder naming (named_journals to.name journals)
      (map (named_placed_line to.name) lines)
  joint_by_name journals lines all joint = (
    λ s. part_map to.name s lines ∙ ap (map (named_placed_line to.name)) (joint.0 s),
    placed_by_name lines all joint.1,
  )
