-- Texts and their cuts are decidable.
use Rattle.std.proofs.Common.{◌≡◌, ◌≢◌, ℕ, zero, suc, ◌+◌, ◌<◌, ◌⊎◌, inl, inr, ◌==◌, [], ◌∷◌, ◌++◌, length, drop, take, position, Option, Some, None, refl, ap, subst, arith, decimal, length-append, ◌-◌}
use Rattle.std.specs.Prelude.{Contains}
use Rattle.std.proofs.lemmas.Bool.{cases_lt, cases_eq}
use Rattle.redodb_model.specs.Names.{Text}
use Rattle.redodb_history.specs.HistoryFaults.{IsCutAtSpace, IsCutAtArrow, HasNoArrow, IsSessionWord, arrow}
use Rattle.redodb_history.proofs.TextCuts.{not_placed, cut_at_place, cut_at_first, after_prefix}

-- the first number below the bound that has it, or none there has it
abbrev pub First : (ℕ → Type 0) → ℕ → Type 0
First P bound =
    (n : ℕ) × (n < bound) × P n × ((k : ℕ) → k < n → ¬ (P k))

pub first_below : (P : ℕ → Type 0) → ((n : ℕ) → P n ⊎ ¬ (P n)) → (bound : ℕ)
    → First P bound ⊎ ((n : ℕ) → n < bound → ¬ (P n))
first_below P decide zero = inr (λ n lt p. absurd (omega arith))
first_below P decide (suc bound) = elim (first_below P decide bound) [
  | inl h ↦ inl (h.0, omega (arith, h.1), h.2, h.3)
  | inr none ↦ elim (decide bound) [
    | inl p ↦ inl (bound, omega arith, p, none)
    | inr not ↦ inr (λ n lt p. elim (cases_lt n bound) [
      | inl before ↦ none n before p
      | inr le ↦
          let same : n ≡ bound = omega arith in
          not (subst P same p)
    ])
  ]
]

-- the text begins with this, and goes on so, or it doesn't
begins : (prefix text : Text)
    → ((rest : Text) × (text ≡ prefix ++ rest)) ⊎ ((rest : Text) → text ≢ prefix ++ rest)
begins [] text = inl (text, refl)
begins (x ∷ prefix) [] = inr (λ rest e. absurd (omega (arith, ap length e)))
begins (x ∷ prefix) (y ∷ text) = elim (cases_eq y x) [
  | inl same ↦ elim (begins prefix text) [
    | inl h ↦ inl (h.0, λ i. same i ∷ h.1 i)
    | inr not ↦ inr (λ rest e. let tail : text ≡ prefix ++ rest = cc in not rest tail)
  ]
  | inr other ↦ inr (λ rest e. let head : y ≡ x = cc in other head)
]

pub has_rest : (prefix text : Text)
    → ((rest : Text) × (text ≡ prefix ++ rest)) ⊎ ¬ ((rest : Text) × (text ≡ prefix ++ rest))
has_rest prefix text = elim (begins prefix text) [
  | inl h ↦ inl h
  | inr not ↦ inr (λ h. not h.0 h.1)
]

is_it : (text other : Text) → (text ≡ other) ⊎ (text ≢ other)
is_it [] [] = inl refl
is_it [] (y ∷ other) = inr (λ e. absurd (omega (arith, ap length e)))
is_it (x ∷ text) [] = inr (λ e. absurd (omega (arith, ap length e)))
is_it (x ∷ text) (y ∷ other) = elim (cases_eq x y) [
  | inl same ↦ elim (is_it text other) [
    | inl h ↦ inl (λ i. same i ∷ h i)
    | inr not ↦ inr (λ e. let tail : text ≡ other = cc in not tail)
  ]
  | inr differs ↦ inr (λ e. let head : x ≡ y = cc in differs head)
]

-- a text is cut at the first such byte, or has none
pub cut_at_byte : (byte : ℕ) (text : Text)
    → ((prefix : Text) × (rest : Text) × (text ≡ prefix ++ byte ∷ rest) × ¬ (Contains prefix byte))
    ⊎ ¬ (Contains text byte)
cut_at_byte byte text = by (position (λ b. b == byte) text) refl
  where
    by : (place : Option ℕ) → position (λ b. b == byte) text ≡ place
        → ((prefix : Text) × (rest : Text) × (text ≡ prefix ++ byte ∷ rest)
        × ¬ (Contains prefix byte))
        ⊎ ¬ (Contains text byte)
    by None e = inr (not_placed text byte e)
    by (Some at) e =
        let cut = cut_at_place text byte at e in
        inl (take at text, take (length text - (at + 1)) (drop (at + 1) text), cut.0, cut.1)

pub cut_at_space : (line : Text) → (prefix : Text) × (rest : Text) × IsCutAtSpace line prefix rest
cut_at_space line = elim (cut_at_byte 32 line) [
  | inl h ↦ (h.0, h.1, record { free = h.3; parts = inl h.2 })
  | inr none ↦ (line, [], record { free = none; parts = inr (refl, refl) })
]

pub session_of : (word : Text)
    → ((session : ℕ) × IsSessionWord 64 word session)
    ⊎ ((session : ℕ) → ¬ (IsSessionWord 64 word session))
session_of word =
    elim (first_below (λ n. word ≡ decimal (n + 1)) (λ n. is_it word (decimal (n + 1))) 64) [
      | inl h ↦ inl (h.0, (h.1, h.2))
      | inr none ↦ inr (λ session is. none session is.0 is.1)
    ]

-- a text is cut at its first arrow, or has none
pub cut_at_arrow : (rest : Text)
    → ((command : Text) × (reply : Text) × IsCutAtArrow rest command reply) ⊎ HasNoArrow rest
cut_at_arrow rest =
    elim (first_below Here (λ n. has_rest arrow (drop n rest)) (length rest + 1)) [
      | inl h ↦
          inl (
            take h.0 rest,
            h.2.0,
            cut_at_first rest h.2.0 h.0 (omega (arith, h.1)) (λ k back lt e.
                h.3 k lt (back, e)) h.2.1,
          )
      | inr none ↦ inr (λ prefix back e. none (length prefix) (omega (
        arith,
        ap length e,
        length-append (prefix ++ arrow) back,
        length-append prefix arrow,
      )) (back, after_prefix rest prefix back e))
    ]
  where
    Here : ℕ → Type 0
    Here n = (back : Text) × (drop n rest ≡ arrow ++ back)
