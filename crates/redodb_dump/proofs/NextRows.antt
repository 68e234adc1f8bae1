-- The next word of a line of rows, and the next line of rows.
use Rattle.std.proofs.Common.{◌≡◌, ℕ, ◌+◌, ◌-◌, ◌<◌, ◌≤◌, Bool, true, false, List, [], ◌∷◌, ◌++◌, length, get_or, None, refl, sym, ap, ◌∙◌, subst, arith, length-append}
use Rattle.std.specs.Prelude.{Contains, decimal}
use Rattle.std.specs.List.{AllByRecursion, flat_map, range_with_len}
use Rattle.std.proofs.lemmas.Fmt.{decimal_is_IsNumeral_wide}
use Rattle.redodb_model.specs.Names.{Text, text_at}
use Rattle.redodb_model.specs.State.{State, mark_of}
use Rattle.redodb_text.specs.Texts.{after_space, spaced}
use Rattle.redodb_history.specs.Histories.{ended}
use Rattle.redodb_history.specs.HistoryFaults.{IsCutAtSpace}
use Rattle.redodb_history.specs.Support.HistoryFaults.{IsCutAt}
use Rattle.redodb_live.specs.Answers.{flag_word}
use Rattle.redodb_dump.specs.Dumps.{IsDumped, change_word, created_word, row_words_at}
use Rattle.redodb_dump.specs.Support.Read.{joined}
use Rattle.redodb_dump.proofs.DumpLines.{IsLine, lines_at, one_line, rows_at, rows_lines, rows_lines_are}
use Rattle.redodb_dump.proofs.DumpMarks.{one_row, rows_are_words}
use Rattle.redodb_dump.proofs.DumpWords.{IsWord}
use Rattle.redodb_dump.proofs.ReadLines.{line_cut, line_there}
use Rattle.redodb_dump.proofs.ReadRows.{next_piece, no_row, nothing_left, row_is}
use Rattle.redodb_dump.proofs.ReadWords.{cut_word}

-- the state has no rows of t on the name with this number
abbrev pub HasNone : List Text → State Text → Text → ℕ → Type 0
HasNone names st t n =
    (st.records.rows.change t (text_at names n) ≡ None)
    × (st.records.rows.created t (text_at names n) ≡ false)

module _ (names : List Text) (st : State Text) (is : IsDumped names st) where
  module _ (t : Text) where
    -- the words of the rows on the names from this number on
    abbrev pub words_from : ℕ → List Text
    words_from least =
        flat_map (row_words_at names st t) (range_with_len least (length names - least))

    one : (k : ℕ) → length (row_words_at names st t k) ≤ 1
    one k =
        let name = text_at names k in
        one_row k (mark_of st.records name) (st.records.rows.change t name)
        (st.records.rows.created t name)

    none_at : (k : ℕ) → row_words_at names st t k ≡ [] → HasNone names st t k
    none_at k e =
        let name = text_at names k in
        no_row k (mark_of st.records name) (st.records.rows.change t name)
        (st.records.rows.created t name) e

    word_at : (k : ℕ) (word : Text) → k < length names → row_words_at names st t k ≡ word ∷ []
        → IsWord word
    word_at k word below here =
        let name = text_at names k in
        let few = is.few in
        (subst (AllByRecursion IsWord) here
        (rows_are_words k (mark_of st.records name) (st.records.rows.change t name)
        (st.records.rows.created t name) (omega arith) (is.over.marks t name))).0

    some_word : (k : ℕ) (word : Text) → k < length names
        → row_words_at names st t k ≡ word ∷ [] → 0 < length word
    some_word k word below here =
        let name = text_at names k in
        let few = is.few in
        let rest = change_word (mark_of st.records name) (st.records.rows.change t name) in
        let plus = created_word (st.records.rows.created t name) in
        let parts =
        row_is k (mark_of st.records name) (st.records.rows.change t name)
        (st.records.rows.created t name) word here in
        let some = (decimal_is_IsNumeral_wide k (omega (arith, few, below))).0.0 in
        omega (
          arith,
          ap length parts,
          some,
          length-append (plus ++ decimal k) rest,
          length-append plus (decimal k),
        )

    -- the first word is that of the rows on the name with the number k
    pub record IsNextRow (least k : ℕ) (word rest : Text) : Type 0 where
      pub from : least ≤ k
      pub below : k < length names
      pub none : (j : ℕ) → least ≤ j → j < k → HasNone names st t j
      pub row : row_words_at names st t k ≡ word ∷ []
      pub rest_is : rest ≡ joined (words_from (k + 1))

    pub next_row : (least : ℕ) (left word rest : Text) → least ≤ length names
        → left ≡ joined (words_from least) → 0 < length left → IsCutAtSpace left word rest
        → (k : ℕ) × IsNextRow least k word rest
    next_row least left word rest within whole some cut =
        by (words_from least) refl whole
      where
        sum : least + (length names - least) ≡ length names
        sum = omega arith

        by : (words : List Text) → words_from least ≡ words → left ≡ joined words
            → (k : ℕ) × IsNextRow least k word rest
        by [] e whole = absurd (omega (arith, some, ap length whole))
        by (w ∷ words) e whole =
            let found =
            next_piece (row_words_at names st t) one (length names - least) least (length names) w
            words sum e in
            let next = found.1 in
            let parts =
            cut_word w words left word rest (word_at found.0 w next.below next.here) whole cut in (
              found.0,
              record {
                from = next.least;
                below = next.below;
                none = λ j least below. none_at j (next.none j least below);
                row = next.here ∙ ap (λ v. v ∷ []) (sym parts.0);
                rest_is = parts.1 ∙ ap joined next.rest;
              },
            )

    pub no_next_row : (least : ℕ) (left : Text) → least ≤ length names
        → left ≡ joined (words_from least) → length left ≡ 0
        → (k : ℕ) → least ≤ k → k < length names → HasNone names st t k
    no_next_row least left within whole none k from below =
        none_at k (by (words_from least) refl whole)
      where
        sum : least + (length names - least) ≡ length names
        sum = omega arith

        by : (words : List Text) → words_from least ≡ words → left ≡ joined words
            → row_words_at names st t k ≡ []
        by [] e whole =
            nothing_left (row_words_at names st t) (length names - least) least (length names) sum e
            k from below
        by (w ∷ words) e whole =
            let found =
            next_piece (row_words_at names st t) one (length names - least) least (length names) w
            words sum e in
            let some = some_word found.0 w found.1.below found.1.here in
            absurd (omega (
              arith,
              none,
              some,
              ap length whole,
              length-append w (flat_map after_space words),
            ))

  -- lines

  -- the lines of the targets from this number on
  abbrev pub lines_left : ℕ → List Text
  lines_left least = flat_map (lines_at names st) (range_with_len least (length names - least))

  -- the state has no rows of the target with this number
  pub record HasNoneOf (u : ℕ) : Type 0 where
    pub always : st.records.rows.always (text_at names u) ≡ false
    pub rows : (k : ℕ) → k < length names → HasNone names st (text_at names u) k

  no_lines : (number : ℕ) (always : Bool) (rows : List Text) → rows_lines number always rows ≡ []
      → (always ≡ false) × (rows ≡ [])
  no_lines number false [] e = (refl, refl)
  no_lines number false (r ∷ rows) e = absurd (omega (arith, ap length e))
  no_lines number true rows e = absurd (omega (arith, ap length e))

  line_is : (number : ℕ) (always : Bool) (rows : List Text) (line : Text)
      → rows_lines number always rows ≡ line ∷ []
      → line ≡ spaced (decimal number) (flag_word always ∷ rows)
  line_is number false [] line e = absurd (omega (arith, ap length e))
  line_is number false (r ∷ rows) line e = sym (ap (λ ls. get_or ls 0 []) e)
  line_is number true rows line e = sym (ap (λ ls. get_or ls 0 []) e)

  none_of : (u : ℕ) → lines_at names st u ≡ [] → HasNoneOf u
  none_of u e =
      let t = text_at names u in
      let both = no_lines u (st.records.rows.always t) (rows_at names st t) e in
      record {
        always = both.0;
        rows = λ k below. none_at t k (nothing_left (row_words_at names st t) (length names) 0
            (length names) (omega arith) both.1 k (omega arith) below);
      }

  one_at : (u : ℕ) → length (lines_at names st u) ≤ 1
  one_at u =
      one_line u (st.records.rows.always (text_at names u)) (rows_at names st (text_at names u))

  -- the first line is that of the target u
  pub record IsNextTarget (least u : ℕ) (line rest : Text) : Type 0 where
    pub from : least ≤ u
    pub below : u < length names
    pub none : (j : ℕ) → least ≤ j → j < u → HasNoneOf j
    pub line_says : line ≡ spaced (decimal u)
        (flag_word (st.records.rows.always (text_at names u)) ∷ rows_at names st (text_at names u))
    pub rest_is : rest ≡ flat_map ended (lines_left (u + 1))

  pub next_target : (least : ℕ) (left line rest : Text) → least ≤ length names
      → left ≡ flat_map ended (lines_left least) → IsCutAt 10 left line rest
      → (u : ℕ) × IsNextTarget least u line rest
  next_target least left line rest within whole cut = by (lines_left least) refl whole
    where
      sum : least + (length names - least) ≡ length names
      sum = omega arith

      by : (lines : List Text) → lines_left least ≡ lines → left ≡ flat_map ended lines
          → (u : ℕ) × IsNextTarget least u line rest
      by [] e whole =
          absurd (omega (arith, ap length (sym cut.0 ∙ whole), length-append line (10 ∷ rest)))
      by (l ∷ lines) e whole =
          let found =
          next_piece (lines_at names st) one_at (length names - least) least (length names) l lines
          sum e in
          let next = found.1 in
          let few = is.few in
          let free =
          (subst (AllByRecursion IsLine) next.here
          (rows_lines_are names st is.over found.0 (omega (arith, few, next.below)))).0.0 in
          let parts = line_cut l (flat_map ended lines) left line rest free whole cut in (
            found.0,
            record {
              from = next.least;
              below = next.below;
              none = λ j least below. none_of j (next.none j least below);
              line_says = parts.0
                  ∙ line_is found.0 (st.records.rows.always (text_at names found.0))
                  (rows_at names st (text_at names found.0)) l next.here;
              rest_is = parts.1 ∙ ap (flat_map ended) next.rest;
            },
          )

  pub no_next_target : (least : ℕ) (left : Text) → least ≤ length names
      → left ≡ flat_map ended (lines_left least) → ¬ (Contains left 10)
      → (u : ℕ) → least ≤ u → u < length names → HasNoneOf u
  no_next_target least left within whole none u from below =
      by (lines_left least) refl whole
    where
      sum : least + (length names - least) ≡ length names
      sum = omega arith

      by : (lines : List Text) → lines_left least ≡ lines → left ≡ flat_map ended lines
          → HasNoneOf u
      by [] e whole =
          none_of u (nothing_left (lines_at names st) (length names - least) least (length names)
          sum e u from below)
      by (l ∷ lines) e whole = absurd (line_there l (flat_map ended lines) left whole none)
