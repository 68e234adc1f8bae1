-- The parts of a database that is being made keep their invariant.
use Rattle.std.proofs.Common.{◌≡◌, ◌≤◌, ◌<◌, ◌∙◌, ◌^◌, ℕ, zero, suc, Bool, false, List, [], ◌∷◌, Option, Some, None, is_some, IsTrue, IsSome, ◌↔◌, length, get_or, sym, ap, subst, arith}
use Rattle.std.proofs.Math.ListN.{set, length-set, replicate, length-replicate}
use Rattle.redodb_model.specs.State.{Cell, Building, empty, idle, no_rows}
use Rattle.redodb_model.proofs.MorePlaces.{same_everywhere}
use Rattle.redodb_records.specs.Cells.{cell_at}
use Rattle.redodb_records.specs.Rows.{rows_count, rows_of}
use Rattle.redodb_database.specs.Support.Parts.{Parts, AreParts, parts_count, state_made}
use Rattle.redodb_database.proofs.Holding.{no_holders}
use Rattle.redodb_database.proofs.Kept.{each_set}

-- what is true of two lists at every place still is after a write to both that keeps it
both_set : {X Y : Type 0} (P : X → Y → Type 0) (xs : List X) (ys : List Y) (i : ℕ) (x d : X)
    (y e : Y) → i < length xs → i < length ys → ((k : ℕ) → P (get_or xs k d) (get_or ys k e))
    → P x y → (k : ℕ) → P (get_or (set xs i x) k d) (get_or (set ys i y) k e)
both_set P [] ys i x d y e in_x in_y all here k = absurd (omega (arith, in_x))
both_set P (a ∷ xs) [] i x d y e in_x in_y all here k = absurd (omega (arith, in_y))
both_set P (a ∷ xs) (b ∷ ys) zero x d y e in_x in_y all here zero = here
both_set P (a ∷ xs) (b ∷ ys) zero x d y e in_x in_y all here (suc k) = all (suc k)
both_set P (a ∷ xs) (b ∷ ys) (suc i) x d y e in_x in_y all here zero = all zero
both_set P (a ∷ xs) (b ∷ ys) (suc i) x d y e in_x in_y all here (suc k) =
    both_set P xs ys i x d y e (omega (arith, in_x)) (omega (arith, in_y))
    (λ j. all (suc j)) here k

-- a flag is true exactly where there is a holder
flag_right : (holder : Option ℕ) → IsTrue (is_some holder) ↔ IsSome holder
flag_right holder = (λ is. is, λ is. is)

-- at first nothing is known
pub parts_first : (count : ℕ) (parts : Parts) (held : List Bool) → count < 2 ^ 32
    → parts.cells ≡ replicate count idle → rows_count parts.rows ≡ count
    → parts.holders ≡ replicate count None → parts.grants ≡ replicate count 0
    → held ≡ replicate count false → parts.most ≡ 0 → AreParts parts held
parts_first count parts held few cells rows holders grants flags none =
    let counted : parts_count parts ≡ count =
    ap length cells ∙ length-replicate count idle in
    let cell : (n : ℕ) → cell_at parts.cells n ≡ idle =
    λ n. ap (λ (cs : List Cell). get_or cs n idle) cells ∙ same_everywhere count n idle in
    let grant : (n : ℕ) → get_or parts.grants n 0 ≡ 0 =
    λ n. ap (λ (gs : List ℕ). get_or gs n 0) grants ∙ same_everywhere count n 0 in
    record {
      rows_for_each = rows ∙ sym counted;
      holder_for_each = ap length holders ∙ length-replicate count None ∙ sym counted;
      grants_for_each = ap length grants ∙ length-replicate count 0 ∙ sym counted;
      held_for_each = ap length flags ∙ length-replicate count false ∙ sym counted;
      held_right = no_holders count parts.holders held holders flags;
      few_names = subst (λ (n : ℕ). n < 2 ^ 32) (sym counted) few;
      few_builds = λ n. let is = ap (λ (c : Cell). c.builds) (cell n) in omega (arith, is);
      few_grants = λ n. let is = grant n in omega (arith, is);
      builders = λ t s is. let at = sym (ap (λ (c : Cell). c.state) (cell t)) ∙ is in
          absurd (cc);
    }

pub made_first : (count : ℕ) (parts : Parts) → parts.cells ≡ replicate count idle
    → rows_of parts.rows ≡ no_rows → parts.holders ≡ replicate count None
    → parts.grants ≡ replicate count 0 → state_made parts ≡ empty
made_first count parts cells rows holders grants = λ i. record {
  records = record { cell = λ n. cell n i; rows = rows i };
  locks = record { holder = λ t. held t i; grants = λ t. granted t i };
}
  where
    cell : (n : ℕ) → cell_at parts.cells n ≡ idle
    cell n = ap (λ (cs : List Cell). get_or cs n idle) cells ∙ same_everywhere count n idle

    held : (t : ℕ) → get_or parts.holders t None ≡ None
    held t = ap (λ (hs : List (Option ℕ)). get_or hs t None) holders ∙ same_everywhere count t None

    granted : (t : ℕ) → get_or parts.grants t 0 ≡ 0
    granted t = ap (λ (gs : List ℕ). get_or gs t 0) grants ∙ same_everywhere count t 0

-- a name's cell, holder and grants are written
pub parts_set : (parts : Parts) (held : List Bool) (n : ℕ) (c : Cell) (holder : Option ℕ)
    (grants most : ℕ) → AreParts parts held → n < parts_count parts
    → ((s : ℕ) → c.state ≡ Building s → holder ≡ Some s) → parts.most ≤ most → c.builds ≤ most
    → grants ≤ most → AreParts (record {
      cells = set parts.cells n c;
      rows = parts.rows;
      holders = set parts.holders n holder;
      grants = set parts.grants n grants;
      most = most;
    }) (set held n (is_some holder))
parts_set parts held n c holder grants most are below builder more builds granted =
    let counted = length-set parts.cells n c in
    let in_holders : n < length parts.holders = omega (arith, below, are.holder_for_each) in
    let in_held : n < length held = omega (arith, below, are.held_for_each) in
    record {
      rows_for_each = are.rows_for_each ∙ sym counted;
      holder_for_each = length-set parts.holders n holder ∙ are.holder_for_each ∙ sym counted;
      grants_for_each = length-set parts.grants n grants ∙ are.grants_for_each ∙ sym counted;
      held_for_each = length-set held n (is_some holder) ∙ are.held_for_each ∙ sym counted;
      held_right = both_set (λ (b : Bool) (o : Option ℕ). IsTrue b ↔ IsSome o) held parts.holders n
          (is_some holder) false holder None in_held in_holders are.held_right
          (flag_right holder);
      few_names = subst (λ (m : ℕ). m < 2 ^ 32) (sym counted) are.few_names;
      few_builds = each_set (λ (d : Cell). d.builds ≤ most) parts.cells n c idle
          (λ k. let few = are.few_builds k in omega (arith, few, more)) builds;
      few_grants = each_set (λ (g : ℕ). g ≤ most) parts.grants n grants 0
          (λ k. let few = are.few_grants k in omega (arith, few, more)) granted;
      builders = both_set
          (λ (d : Cell) (o : Option ℕ). (s : ℕ) → d.state ≡ Building s → o ≡ Some s) parts.cells
          parts.holders n c idle holder None below in_holders are.builders builder;
    }
