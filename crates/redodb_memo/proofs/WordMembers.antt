-- The members of a set, found one after the other in its words.
use Rattle.std.proofs.Common.{◌≡◌, ◌∙◌, ◌↔◌, ℕ, ◌<◌, ◌≤◌, ◌+◌, ◌-◌, ◌*◌, ◌/◌, ◌%◌, ◌^◌, Bool, false, List, ◌∷◌, [], ◌++◌, eqb, length, get_or, sym, ap, subst, inl, inr, arith, eq-eqb, eqb-true, w64}
use Rattle.std.specs.Int.{bit_at, trailing_zeros}
use Rattle.std.proofs.lemmas.Bool.{cases_lt}
use Rattle.std.proofs.lemmas.List.{get_or_default}
use Rattle.std.proofs.lemmas.Nat.{shr-shr}
use Rattle.std.proofs.lemmas.Nat.Bits.{bit_at-zero, bit_at_above, bit_at-trailing_zeros}
use Rattle.redodb_memo.specs.Bits.{IsSet}
use Rattle.redodb_memo.specs.Support.Bits.{IsListedBelow}
use Rattle.redodb_memo.specs.Support.KeptBits.{has_bit, bits_below, HasNonePast, flags_of, KeepsBits}
use Rattle.redodb_memo.specs.declared.bits.Bits.TheInside.{Inside}
use Rattle.redodb_model.proofs.Listing.{listed_with}
use Rattle.redodb_memo.proofs.Marking.{marked_below}
use Rattle.redodb_memo.proofs.Words.{flag_at, below_count}

-- the numbers of the set from `next` up to `end` are those whose bits are left, and no other bit is
-- left
pub record AreLeft (flags : List Bool) (left next end : ℕ) : Type 0 where
  pub within : next ≤ end
  pub each : (j : ℕ) → next + j < end → bit_at left j ≡ 1 ↔ IsSet flags (next + j)
  pub none : (j : ℕ) → end ≤ next + j → bit_at left j ≡ 0

-- none of the set is passed over
listed_up_to : (flags : List Bool) (from to : ℕ) (ts : List ℕ) → from ≤ to
    → ((t : ℕ) → from ≤ t → t < to → IsSet flags t → ⊥)
    → IsListedBelow flags from ts → IsListedBelow flags to ts
listed_up_to flags from to ts further none h = (
  h.0,
  λ t. (
    λ c. (let o = (h.1 t).0 c in (omega (arith, o.0, further), o.1)),
    λ x. elim (cases_lt t from) [
      | inl less ↦ (h.1 t).1 (less, x.1)
      | inr past ↦ absurd (none t past x.0 x.1)
    ],
  ),
)

-- whether the number is in the set is whether its bit is there
module _ {flags : List Bool} {left next end : ℕ} (are : AreLeft flags left next end) where
  -- no bit is left below one that is the lowest
  none_between : (z : ℕ) → next + z ≤ end → ((i : ℕ) → i < z → bit_at left i ≡ 0) → (t : ℕ)
      → next ≤ t → t < next + z → IsSet flags t → ⊥
  none_between z inside low t past before on =
      let j : ℕ = t - next in
      let is : next + j ≡ t = omega (arith, past) in
      let bit : bit_at left j ≡ 1 =
      (are.each j (omega (arith, is, before, inside))).1 (subst (IsSet flags) (sym is) on) in
      omega (arith, bit, low j (omega (arith, is, before)))

  -- if no bit is left, all of the word are listed
  pub none_left : left ≡ 0 → (ts : List ℕ) → IsListedBelow flags next ts
      → IsListedBelow flags end ts
  none_left empty ts h = listed_up_to flags next end ts are.within
      (λ t past before on.
      let z : ℕ = end - next in
      let is : next + z ≡ end = omega (arith, are.within) in
      none_between z (omega (arith, is))
      (λ i low. ap (λ w. bit_at w i) empty ∙ bit_at-zero i) t past (omega (arith, is, before)) on)
      h

  module _ (some : 0 < left) (fits : left < 2 ^ 64) where
    abbrev pub lowest : ℕ
    lowest = trailing_zeros w64 left

    pub lowest_small : lowest < 64
    lowest_small = (bit_at-trailing_zeros w64 left some fits).0

    lowest_bit : bit_at left lowest ≡ 1
    lowest_bit = (bit_at-trailing_zeros w64 left some fits).1

    pub lowest_inside : next + lowest < end
    lowest_inside = elim (cases_lt (next + lowest) end) [
      | inl less ↦ less
      | inr past ↦ absurd (omega (arith, lowest_bit, are.none lowest past))
    ]

    pub lowest_member : IsSet flags (next + lowest)
    lowest_member = (are.each lowest lowest_inside).0 lowest_bit

    pub lowest_below : {inside : Inside} → KeepsBits inside → flags_of inside ≡ flags
        → next + lowest < inside.count
    lowest_below keeps is = below_count (next + lowest) keeps is
        (marked_below flags (next + lowest) lowest_member)

    -- the lowest bit is passed
    passed : (j : ℕ) → bit_at (left / 2 ^ lowest / 2 ^ 1) j ≡ bit_at left (lowest + 1 + j)
    passed j =
        ap (λ w. w % 2) (ap (λ w. w / 2 ^ j) (shr-shr left lowest 1) ∙ shr-shr left (lowest + 1) j)

    pub fewer_left : AreLeft flags (left / 2 ^ lowest / 2 ^ 1) (next + (lowest + 1)) end
    fewer_left = record {
      within = omega (arith, lowest_inside);
      each = λ j before.
          let is : next + (lowest + 1 + j) ≡ next + (lowest + 1) + j = omega arith in
          let e = are.each (lowest + 1 + j) (omega (arith, is, before)) in (
            λ bit. subst (IsSet flags) is (e.0 (sym (passed j) ∙ bit)),
            λ on. passed j ∙ e.1 (subst (IsSet flags) (sym is) on),
          );
      none = λ j past. passed j ∙ are.none (lowest + 1 + j) (omega (arith, past));
    }

    pub one_more_listed : (ts : List ℕ) → IsListedBelow flags next ts
        → IsListedBelow flags (next + (lowest + 1)) (ts ++ (next + lowest) ∷ [])
    one_more_listed ts h =
        let t : ℕ = next + lowest in
        let up = listed_up_to flags next t ts (omega arith)
        (none_between lowest (omega (arith, lowest_inside))
        (bit_at-trailing_zeros w64 left some fits).2) h in
        let more = listed_with (IsSet flags) t ts lowest_member up in
        subst (λ n. IsListedBelow flags n (ts ++ t ∷ [])) (omega arith) more

-- a whole word is left
pub word_left : (words : List ℕ) (flags : List Bool) (count k w : ℕ) → HasNonePast words count
    → bits_below words count ≡ flags → k < length words → w ≡ get_or words k w → w < 2 ^ 64
    → AreLeft flags w (k * 64) (k * 64 + 64)
unfolding has_bit
word_left words flags count k w none is in' read fits =
    let flag : (j : ℕ) → j < 64 → get_or flags (k * 64 + j) false ≡ eqb (bit_at w j) 1 = λ j small.
    let quotient : (k * 64 + j) / 64 ≡ k = omega arith in
    let rest : (k * 64 + j) % 64 ≡ j = omega arith in
    sym (ap (λ (fs : List Bool). get_or fs (k * 64 + j) false) is)
    ∙ flag_at words count (k * 64 + j) none
    ∙ ap (λ i. eqb (bit_at (get_or words i 0) ((k * 64 + j) % 64)) 1) quotient
    ∙ ap (λ i. eqb (bit_at (get_or words k 0) i) 1) rest
    ∙ ap (λ v. eqb (bit_at v j) 1) (sym (read ∙ get_or_default words k w 0 in')) in
    record {
      within = omega arith;
      each = λ j before.
          let e = flag j (omega (arith, before)) in (
            λ bit. e ∙ eq-eqb (bit_at w j) 1 bit,
            λ on. eqb-true (bit_at w j) 1 (sym e ∙ on),
          );
      none = λ j past. bit_at_above w 64 j fits (omega (arith, past));
    }
