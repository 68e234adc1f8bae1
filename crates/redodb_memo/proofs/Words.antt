-- Bits of words, as flags.
use Rattle.std.proofs.Common.{◌≡◌, ◌∙◌, ℕ, ◌<◌, ◌≤◌, ◌+◌, ◌*◌, ◌/◌, ◌%◌, ◌^◌, Bool, true, false, List, ◌++◌, eqb, length, get_or, set, take, replicate, refl, sym, ap, inl, inr, arith, w64}
use Rattle.std.specs.Prelude.{bit_and, bit_or}
use Rattle.std.specs.Int.{bit_at, bit_not}
use Rattle.std.proofs.lemmas.Bool.{cases_eq, cases_lt}
use Rattle.std.proofs.lemmas.List.{same_lists, length-set, get_or-set_same, get_or-set_other, get_or_past, get_or_default, get_or-replicate, length-replicate, take_all}
use Rattle.std.proofs.lemmas.List.FromFn.{get_or-map-range_with_len, length-map-range_with_len}
use Rattle.std.proofs.lemmas.Nat.Bits.{bit_at-zero, shr_and_one, bit_at_set_same, bit_at_set_other, bit_at_clear_same, bit_at_clear_other}
use Rattle.redodb_model.proofs.MorePlaces.{get_or-extended}
use Rattle.redodb_memo.specs.Support.KeptBits.{has_bit, bits_below, HasNonePast, flags_of, KeepsBits}
use Rattle.redodb_memo.specs.declared.bits.Bits.TheInside.{Inside}

pub bits_sized : (words : List ℕ) (count : ℕ) → length (bits_below words count) ≡ count
bits_sized words count = length-map-range_with_len (has_bit words) 0 count

pub bit_below : (words : List ℕ) (count t : ℕ) (d : Bool) → t < count
    → get_or (bits_below words count) t d ≡ has_bit words t
bit_below words count t d below =
    get_or-map-range_with_len (has_bit words) 0 count t t d below (omega arith)

-- the flag of a number is its bit
pub flag_at : (words : List ℕ) (count t : ℕ) → HasNonePast words count
    → get_or (bits_below words count) t false ≡ has_bit words t
flag_at words count t none = elim (cases_lt t count) [
  | inl below ↦ bit_below words count t false below
  | inr past ↦
      get_or_past (bits_below words count) t false (omega (arith, past, bits_sized words count))
      ∙ sym (none t past)
]

-- no bit but that of one number changes
pub record IsChangedAt (old new : List ℕ) (t : ℕ) (b : Bool) : Type 0 where
  pub sized : length new ≡ length old
  pub here : has_bit new t ≡ b
  pub others : (u : ℕ) → (u ≡ t → ⊥) → has_bit new u ≡ has_bit old u

-- a word is written of which one bit may be another
changed_word : (words : List ℕ) (t w v : ℕ) (b : Bool) → t / 64 < length words
    → w ≡ get_or words (t / 64) w → eqb (bit_at v (t % 64)) 1 ≡ b
    → ((i : ℕ) → i < 64 → (i ≡ t % 64 → ⊥) → bit_at v i ≡ bit_at w i)
    → IsChangedAt words (set words (t / 64) v) t b
unfolding has_bit
changed_word words t w v b in' read here others = record {
  sized = length-set words (t / 64) v;
  here = ap (λ x. eqb (bit_at x (t % 64)) 1) (get_or-set_same words (t / 64) v 0 in') ∙ here;
  others = λ u other. elim (cases_eq (u / 64) (t / 64)) [
    | inl e ↦
        let apart : u % 64 ≡ t % 64 → ⊥ = λ f. other (omega (arith, e, f)) in
        ap (λ k. eqb (bit_at (get_or (set words (t / 64) v) k 0) (u % 64)) 1) e
        ∙ ap (λ x. eqb (bit_at x (u % 64)) 1) (get_or-set_same words (t / 64) v 0 in')
        ∙ ap (λ x. eqb x 1) (others (u % 64) (omega arith) apart)
        ∙ ap (λ x. eqb (bit_at x (u % 64)) 1) (read ∙ get_or_default words (t / 64) w 0 in')
        ∙ ap (λ k. eqb (bit_at (get_or words k 0) (u % 64)) 1) (sym e)
    | inr far ↦
        ap (λ x. eqb (bit_at x (u % 64)) 1) (get_or-set_other words (t / 64) (u / 64) v 0 far)
  ];
}

-- a number below the end of the flags has a bit in a word
module _ {inside : Inside} {flags : List Bool} (t : ℕ) (keeps : KeepsBits inside)
    (is : flags_of inside ≡ flags) (in' : t < length flags) where
  pub below_count : t < inside.count
  below_count = omega (arith, in', sym (bits_sized inside.words.items inside.count) ∙ ap length is)

  pub word_within : (k : ℕ) → t / 64 ≡ k → k < length inside.words.items
  word_within k at = omega (arith, keeps.enough, at, below_count)

  module _ {w : ℕ} (read : w ≡ get_or inside.words.items (t / 64) w) where
    within : t % 64 < 64
    within = omega arith

    word_in : t / 64 < length inside.words.items
    word_in = word_within (t / 64) refl

    pub bit_read : eqb (bit_and (w / 2 ^ (t % 64)) 1) 1 ≡ get_or flags t false
    unfolding has_bit
    bit_read =
        ap (λ b. eqb b 1) (shr_and_one w (t % 64))
        ∙ ap (λ v. eqb (bit_at v (t % 64)) 1)
        (read ∙ get_or_default inside.words.items (t / 64) w 0 word_in)
        ∙ sym (flag_at inside.words.items inside.count t keeps.none_past)
        ∙ ap (λ (fs : List Bool). get_or fs t false) is

    pub bit_put : IsChangedAt inside.words.items
        (set inside.words.items (t / 64) (bit_or w (1 * 2 ^ (t % 64) % 2 ^ 64))) t true
    bit_put = changed_word inside.words.items t w (bit_or w (1 * 2 ^ (t % 64) % 2 ^ 64)) true
        word_in read (ap (λ x. eqb x 1) (bit_at_set_same w64 w (t % 64) within))
        (λ i small other. bit_at_set_other w64 w (t % 64) within i other)

    pub bit_removed : IsChangedAt inside.words.items
        (set inside.words.items (t / 64) (bit_and w (bit_not w64 (1 * 2 ^ (t % 64) % 2 ^ 64)))) t
        false
    bit_removed = changed_word inside.words.items t w
        (bit_and w (bit_not w64 (1 * 2 ^ (t % 64) % 2 ^ 64))) false word_in read
        (ap (λ x. eqb x 1) (bit_at_clear_same w64 w (t % 64) within))
        (λ i small other. bit_at_clear_other w64 w (t % 64) within i small other)

  module _ {new : List ℕ} {b : Bool} (changed : IsChangedAt inside.words.items new t b) where
    pub none_past_still : HasNonePast new inside.count
    none_past_still u past =
        changed.others u (λ e. absurd (omega (arith, e, past, below_count))) ∙ keeps.none_past u past

    pub flag_changed : bits_below new inside.count ≡ set flags t b
    flag_changed = same_lists (bits_below new inside.count) (set flags t b)
        (bits_sized new inside.count ∙ sym (length-set flags t b ∙ sym (ap length is)
        ∙ bits_sized inside.words.items inside.count))
        (λ k d within.
        let under : k < inside.count = omega (arith, within, bits_sized new inside.count) in
        bit_below new inside.count k d under ∙ elim (cases_eq k t) [
          | inl e ↦ ap (has_bit new) e ∙ changed.here
              ∙ sym (ap (λ i. get_or (set flags t b) i d) e ∙ get_or-set_same flags t b d in')
          | inr other ↦ changed.others k other
              ∙ sym (bit_below inside.words.items inside.count k d under)
              ∙ ap (λ (fs : List Bool). get_or fs k d) is
              ∙ sym (get_or-set_other flags t k b d other)
        ])

-- words without a bit
module _ (size : ℕ) where
  zeros_have : (t : ℕ) → ◌≡◌ {A = ℕ} (get_or (replicate size 0) t 0) 0
  zeros_have t = elim (cases_lt t size) [
    | inl below ↦ get_or-replicate {A = ℕ} size t 0 0 below
    | inr past ↦ get_or_past {X = ℕ} (replicate size 0) t 0
        (omega (arith, length-replicate {A = ℕ} size 0, past))
  ]

  pub none_set : (words : List ℕ) → words ≡ replicate size 0 → (t : ℕ) → has_bit words t ≡ false
  unfolding has_bit
  none_set words is t =
      ap (λ (ws : List ℕ). eqb (bit_at (get_or ws (t / 64) 0) (t % 64)) 1) is
      ∙ ap (λ w. eqb (bit_at w (t % 64)) 1) (zeros_have (t / 64))
      ∙ ap (λ x. eqb x 1) (bit_at-zero (t % 64))

  pub none_flagged : (words : List ℕ) (count : ℕ) → words ≡ replicate size 0
      → bits_below words count ≡ replicate count false
  none_flagged words count is = same_lists (bits_below words count) (replicate count false)
      (bits_sized words count ∙ sym (length-replicate count false))
      (λ k d in'.
      let under : k < count = omega (arith, in', bits_sized words count) in
      bit_below words count k d under ∙ none_set words is k
      ∙ sym (get_or-replicate count k false d under))

-- words that were copied, and filled up with words without a bit
pub filled_up : (old words new : List ℕ) (n more : ℕ) → words ≡ old → length old ≤ n
    → new ≡ take n words ++ replicate more 0 → (k : ℕ) → get_or new k 0 ≡ get_or old k 0
filled_up old words new n more copied fits is k =
    ap (λ (ws : List ℕ). get_or ws k 0)
    (is ∙ ap (λ (ws : List ℕ). take n ws ++ replicate more 0) copied
    ∙ ap (λ (ws : List ℕ). ws ++ replicate more 0) (take_all n old fits))
    ∙ get_or-extended old more k 0

-- more words with the same bits
module _ (old new : List ℕ) (count : ℕ) (none : HasNonePast old count)
    (same : (k : ℕ) → get_or new k 0 ≡ get_or old k 0) where
  same_bit : (t : ℕ) → has_bit new t ≡ has_bit old t
  unfolding has_bit
  same_bit t = ap (λ w. eqb (bit_at w (t % 64)) 1) (same (t / 64))

  pub none_past_grown : (more : ℕ) → count ≤ more → HasNonePast new more
  none_past_grown more longer t past = same_bit t ∙ none t (omega (arith, longer, past))

  pub same_flag : (more t : ℕ) → count ≤ more
      → get_or (bits_below new more) t false ≡ get_or (bits_below old count) t false
  same_flag more t longer = flag_at new more t (none_past_grown more longer)
      ∙ same_bit t ∙ sym (flag_at old count t none)
