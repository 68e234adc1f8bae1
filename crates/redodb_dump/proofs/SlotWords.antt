-- The words of a target's slots, in their order, are those of its rows on all names.
use Rattle.std.proofs.Common.{◌≡◌, ◌≢◌, ℕ, zero, suc, ◌+◌, ◌<◌, ◌≤◌, false, List, [], ◌∷◌, ◌++◌, length, get_or, take, cond, None, Option, eq-eqb, ne_eqb, refl, sym, ap, ◌∙◌, inl, inr, arith, is_some, IsTrue, IfSome, subst, Some, Bool, true, ◌||◌, decimal}
use Rattle.std.specs.List.{flat_map, range_with_len}
use Rattle.std.proofs.lemmas.Bool.{cases_eq, cases_lt, false≢true, true≢false}
use Rattle.std.proofs.lemmas.Grind.{flat_map-append}
use Rattle.std.proofs.lemmas.List.{append-nil, map-id, take_more}
use Rattle.std.proofs.lemmas.List.FromFn.{map-range_with_len_more}
use Rattle.redodb_model.specs.Names.{Text, text_at}
use Rattle.redodb_model.specs.State.{State, Mark, mark_of}
use Rattle.redodb_records.specs.Rows.{Slot, slot_at}
use Rattle.redodb_records.specs.Target.{Ascending}
use Rattle.redodb_records.specs.Support.Target.{blank, name_at}
use Rattle.redodb_records.proofs.Slots.{slot_found, slot_named}
use Rattle.redodb_text.specs.Texts.{after_space}
use Rattle.redodb_dump.specs.Dumps.{HasMarkForm, change_word, created_word, numbers_of, row_words, row_words_at}
use Rattle.redodb_dump.specs.Support.Slots.{has_rows, slot_words}

-- no slot has a smaller name
abbrev StartsAt : ℕ → List Slot → Type 0
StartsAt least slots = (k : ℕ) → k < length slots → least ≤ name_at slots k

later : (s : Slot) (ss : List Slot) → Ascending (s ∷ ss) → Ascending ss
later s ss ascending j k d before in' =
    ascending (suc j) (suc k) d (omega arith) (omega (arith, in'))

above : (s : Slot) (ss : List Slot) → Ascending (s ∷ ss) → StartsAt (s.name + 1) ss
above s ss ascending k in' =
    omega (arith, ascending zero (suc k) (blank 0) (omega arith) (omega (arith, in')))

first : (s : Slot) (ss : List Slot) → slot_at (s ∷ ss) s.name ≡ s
first s ss = ap (λ b. cond b s (slot_at ss s.name)) (eq-eqb s.name s.name refl)

after : (s : Slot) (ss : List Slot) (n : ℕ) → s.name ≢ n → slot_at (s ∷ ss) n ≡ slot_at ss n
after s ss n off = ap (λ b. cond b s (slot_at ss n)) (ne_eqb s.name n off)

-- a smaller name has no slot
absent : (slots : List Slot) (n : ℕ) → StartsAt (n + 1) slots → slot_at slots n ≡ blank n
absent [] n start = refl
absent (s ∷ ss) n start =
    let off : s.name ≢ n = λ e. omega (arith, e, start zero (omega arith)) in
    after s ss n off ∙ absent ss n (λ k in'. start (suc k) (omega (arith, in')))

module _ (words : Slot → List Text) (none : (n : ℕ) → words (blank n) ≡ []) where
  -- none has rows
  past : (least : ℕ) (slots : List Slot) → Ascending slots → StartsAt least slots
      → ((n : ℕ) → least ≤ n → words (slot_at slots n) ≡ []) → flat_map words slots ≡ []
  past least [] ascending start bare = refl
  past least (s ∷ ss) ascending start bare =
      let from : least ≤ s.name = start zero (omega arith) in
      let here : words s ≡ [] = ap words (sym (first s ss)) ∙ bare s.name from in
      ap (λ ws. ws ++ flat_map words ss) here
      ∙ past (s.name + 1) ss (later s ss ascending) (above s ss ascending)
      (λ n more. ap words (sym (after s ss n (λ e. omega arith))) ∙ bare n (omega arith))

  -- the words of the slots are those at the numbers from `least` on
  by_number : (count least : ℕ) (slots : List Slot) (at : ℕ → List Text) → Ascending slots
      → StartsAt least slots
      → ((n : ℕ) → least ≤ n → n < least + count → at n ≡ words (slot_at slots n))
      → ((n : ℕ) → least + count ≤ n → words (slot_at slots n) ≡ [])
      → flat_map words slots ≡ flat_map at (range_with_len least count)
  by_number zero least slots at ascending start here beyond =
      past least slots ascending start (λ n from. beyond n (omega arith))
  by_number (suc count) least [] at ascending start here beyond =
      let bare : at least ≡ [] = here least (omega arith) (omega arith) ∙ none least in
      by_number count (least + 1) [] at ascending (λ k in'. absurd (omega (arith, in')))
      (λ n from below. here n (omega arith) (omega arith)) (λ n more. beyond n (omega arith))
      ∙ sym (ap (λ ws. ws ++ flat_map at (range_with_len (least + 1) count)) bare)
  by_number (suc count) least (s ∷ ss) at ascending start here beyond =
      elim (cases_eq s.name least) [
        | inl e ↦
            let own : at least ≡ words s =
            here least (omega arith) (omega arith)
            ∙ ap (λ n. words (slot_at (s ∷ ss) n)) (sym e) ∙ ap words (first s ss) in
            let others =
            by_number count (least + 1) ss at (later s ss ascending)
            (λ k in'. omega (arith, e, above s ss ascending k in'))
            (λ n from below. here n (omega arith) (omega arith)
            ∙ ap words (after s ss n (λ same. omega (arith, e, same))))
            (λ n more. ap words (sym (after s ss n (λ same. omega (arith, e, same))))
            ∙ beyond n (omega arith)) in
            ap (λ ws. ws ++ flat_map words ss) (sym own) ∙ ap (λ ws. at least ++ ws) others
        | inr off ↦
            let after_least : least + 1 ≤ s.name =
            omega (arith, off, start zero (omega arith)) in
            let start_later : StartsAt (least + 1) (s ∷ ss) =
            from_next s ss least after_least ascending in
            let bare : at least ≡ [] =
            here least (omega arith) (omega arith)
            ∙ ap words (absent (s ∷ ss) least start_later) ∙ none least in
            by_number count (least + 1) (s ∷ ss) at ascending start_later
            (λ n from below. here n (omega arith) (omega arith))
            (λ n more. beyond n (omega arith))
            ∙ sym (ap (λ ws. ws ++ flat_map at (range_with_len (least + 1) count)) bare)
      ]
    where
      from_next : (s : Slot) (ss : List Slot) (n : ℕ) → n + 1 ≤ s.name → Ascending (s ∷ ss)
          → StartsAt (n + 1) (s ∷ ss)
      from_next s ss n from ascending zero in' = from
      from_next s ss n from ascending (suc k) in' =
          omega (arith, from, above s ss ascending k (omega (arith, in')))

-- the name of a slot with a row is a number of the names
pub is_on_name : (count : ℕ) (slots : List Slot) (k : ℕ) (slot : Slot) → Ascending slots
    → k < length slots → slot ≡ get_or slots k slot
    → ((n : ℕ) → count ≤ n → (slot_at slots n).change ≡ None)
    → ((n : ℕ) → count ≤ n → (slot_at slots n).created ≡ false)
    → IsTrue (has_rows slot) → slot.name < count
is_on_name count slots k slot ascending in' is no_change no_created rows =
    elim (cases_lt slot.name count) [
      | inl below ↦ below
      | inr beyond ↦
          let bare : has_rows (slot_at slots slot.name) ≡ false =
          λ i. no_created slot.name beyond i || is_some (no_change slot.name beyond i) in
          absurd (false≢true (sym bare ∙ ap has_rows found ∙ rows))
    ]
  where
    found : slot_at slots slot.name ≡ slot
    found =
        ap (λ (s : Slot). slot_at slots s.name) is ∙ (slot_found slots k slot ascending in').0
        ∙ sym is

module _ (names : List Text) (st : State Text) (t : Text) (slots : List Slot) where
  pub words_of_rows : Ascending slots
      → ((n : ℕ) → n < length names
      → (slot_at slots n).change ≡ st.records.rows.change t (text_at names n))
      → ((n : ℕ) → n < length names
      → (slot_at slots n).created ≡ st.records.rows.created t (text_at names n))
      → ((n : ℕ) → length names ≤ n → (slot_at slots n).change ≡ None)
      → ((n : ℕ) → length names ≤ n → (slot_at slots n).created ≡ false)
      → flat_map (slot_words names st) slots
      ≡ flat_map (row_words_at names st t) (numbers_of names)
  words_of_rows ascending change created no_change no_created =
      let now : ℕ → Mark = λ n. mark_of st.records (text_at names n) in
      by_number (slot_words names st) (λ n. refl) (length names) 0 slots (row_words_at names st t)
      ascending (λ k in'. omega arith)
      (λ n from below i. row_words (sym (slot_named slots n) i) (now (sym (slot_named slots n) i))
      (sym (change n (omega (arith, below))) i) (sym (created n (omega (arith, below))) i))
      (λ n beyond i. row_words (slot_at slots n).name (now (slot_at slots n).name)
      (no_change n (omega (arith, beyond)) i) (no_created n (omega (arith, beyond)) i))

-- the rows of a slot are one word
pub one_word : (number : ℕ) (now : Mark) (change : Option Mark) (created : Bool)
    → (created || is_some change) ≡ true
    → row_words number now change created
    ≡ (created_word created ++ decimal number ++ change_word now change) ∷ []
one_word number now (Some mark) created row = refl
one_word number now None true row = refl
one_word number now None false row = absurd (false≢true row)

pub no_word : (number : ℕ) (now : Mark) (change : Option Mark) (created : Bool)
    → (created || is_some change) ≡ false → row_words number now change created ≡ []
no_word number now None false none = refl
no_word number now (Some mark) true none = absurd (true≢false none)
no_word number now change created none = absurd (true≢false none)

-- one more number
pub numbers_more : (f : ℕ → Text) (n : ℕ)
    → flat_map f (range_with_len 0 (n + 1)) ≡ flat_map f (range_with_len 0 n) ++ f n
numbers_more f n =
    ap (flat_map f) more ∙ flat_map-append f (range_with_len 0 n) (n ∷ [])
    ∙ ap (λ text. flat_map f (range_with_len 0 n) ++ text) (append-nil (f n))
  where
    more : range_with_len 0 (n + 1) ≡ range_with_len 0 n ++ n ∷ []
    more =
        sym (map-id (range_with_len 0 (n + 1)))
        ∙ map-range_with_len_more (λ k. k) 0 n n (omega arith)
        ∙ ap (λ ns. ns ++ n ∷ []) (map-id (range_with_len 0 n))

-- the words of one more slot
pub words_more : (words : Slot → List Text) (slots : List Slot) (k : ℕ) (slot : Slot)
    → k < length slots → slot ≡ get_or slots k slot
    → flat_map after_space (flat_map words (take (k + 1) slots))
    ≡ flat_map after_space (flat_map words (take k slots)) ++ flat_map after_space (words slot)
words_more words slots k slot in' is =
    ap (flat_map after_space) (more ∙ flat_map-append words (take k slots) (slot ∷ [])
    ∙ ap (λ ws. flat_map words (take k slots) ++ ws) (append-nil (words slot)))
    ∙ flat_map-append after_space (flat_map words (take k slots)) (words slot)
  where
    more : flat_map words (take (k + 1) slots) ≡ flat_map words (take k slots ++ slot ∷ [])
    more =
        ap (flat_map words) (take_more slots k slot in'
        ∙ ap (λ (s : Slot). take k slots ++ s ∷ []) (sym is))

-- what holds of the change row of each slot holds of that on each name
pub slot_form : (slots : List Slot)
    → ((k : ℕ) → k < length slots → IfSome (get_or slots k (blank 0)).change HasMarkForm)
    → (n : ℕ) → IfSome (slot_at slots n).change HasMarkForm
slot_form [] each n = tt
slot_form (s ∷ ss) each n = elim (cases_eq s.name n) [
  | inl e ↦
      let here : slot_at (s ∷ ss) n ≡ s = ap (slot_at (s ∷ ss)) (sym e) ∙ first s ss in
      subst (λ (x : Slot). IfSome x.change HasMarkForm) (sym here) (each zero (omega arith))
  | inr off ↦
      subst (λ (x : Slot). IfSome x.change HasMarkForm) (sym (after s ss n off))
      (slot_form ss (λ k in'. each (suc k) (omega (arith, in'))) n)
]
