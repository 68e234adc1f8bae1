-- The lines of a dump's body, and what they say.
use Rattle.std.proofs.Common.{◌≡◌, ℕ, ◌<◌, ◌≤◌, ◌^◌, Bool, true, false, List, [], ◌∷◌, ◌++◌, map, length, get_or, drop, refl, sym, ap, ◌∙◌, arith, append-nil, length-append}
use Rattle.std.specs.Prelude.{decimal}
use Rattle.std.specs.List.{AllByRecursion, flat_map}
use Rattle.std.proofs.lemmas.List.{length-map}
use Rattle.std.proofs.lemmas.List.Concat.{flat_map-append}
use Rattle.std.proofs.lemmas.List.Folds.{flat_map-map}
use Rattle.redodb_names.specs.Names.{AreAllNames}
use Rattle.redodb_model.specs.Names.{Text, text_at}
use Rattle.redodb_model.specs.State.{State, mark_of}
use Rattle.redodb_text.specs.Texts.{spaced}
use Rattle.redodb_text.specs.Questions.{words_of}
use Rattle.redodb_text.proofs.Spaced.{IsVisible, words_of-spaced}
use Rattle.redodb_history.specs.Histories.{ended}
use Rattle.redodb_history.proofs.CutOnce.{Without}
use Rattle.redodb_live.specs.Answers.{flag_word}
use Rattle.redodb_dump.specs.Dumps.{IsStateOver, cell_words, row_words_at, rows_text, rows_line, numbers_of, body_of}
use Rattle.redodb_dump.specs.Support.Forms.{IsToldCell}
use Rattle.redodb_dump.proofs.DumpMarks.{rows_are_words, one_row}
use Rattle.redodb_dump.proofs.DumpCells.{AreAlike, cell_are_words, few_cell_words, same_cell}
use Rattle.redodb_live.proofs.OneAnswer.{same_flag}
use Rattle.redodb_dump.proofs.DumpWords.{IsWord, flag_is_word, name_is_word, number_is_word}
use Rattle.redodb_live.proofs.Lines.{all_both}
use Rattle.redodb_dump.proofs.Pieces.{all_then, all_flat, few_pieces, line_is_free, IsShortLine, line_is_short, lines_are_short}

abbrev pub first_of : List Text → Text
first_of words = get_or words 0 []

pub words_back : (w : Text) (ws : List Text) → IsWord w → AllByRecursion IsWord ws
    → words_of (spaced w ws) ≡ w ∷ ws
words_back w ws is all =
    words_of-spaced w ws is.0 (all_then IsWord IsVisible ws (λ x word. word.0) all)

-- a line that is whole and short
abbrev pub IsLine : Text → Type 0
IsLine line = Without 10 line × IsShortLine line

-- cells

abbrev pub words_at : State Text → Text → List Text
words_at st name =
    cell_words (st.records.cell name) (st.locks.grants name) (st.locks.holder name)

abbrev pub cell_text : State Text → Text → Text
cell_text st name = spaced name (words_at st name)

-- the same is known of the name but rows
abbrev pub IsAlike : State Text → State Text → Text → Type 0
IsAlike st su name = AreAlike (st.records.cell name) (su.records.cell name) (st.locks.grants name)
    (su.locks.grants name) (st.locks.holder name) (su.locks.holder name)

abbrev pub AreTold : State Text → Type 0
AreTold st = (name : Text)
    → IsToldCell (st.records.cell name) (st.locks.grants name) (st.locks.holder name)

pub told : (names : List Text) (st : State Text) → IsStateOver names st → AreTold st
told names st is name = record {
  form = is.cells name;
  grants = is.grants name;
  holder = is.holders name;
  builder = is.builders name;
}

cells_are_lines : (st : State Text) → AreTold st → (names : List Text) → AreAllNames names
    → AllByRecursion IsLine (map (cell_text st) names)
cells_are_lines st are [] all = tt
cells_are_lines st are (n ∷ names) all =
    let is = name_is_word n all.0 in
    let words =
    cell_are_words (st.records.cell n) (st.locks.grants n) (st.locks.holder n) (are n) in
    let few = few_cell_words (st.records.cell n) (st.locks.grants n) (st.locks.holder n) in (
      (
        line_is_free n (words_at st n) is words,
        line_is_short n (words_at st n) is words (omega arith),
      ),
      cells_are_lines st are names all.1,
    )

pub same_cells : (st su : State Text) → AreTold st → AreTold su → (xs ys : List Text)
    → AreAllNames xs → AreAllNames ys → map (cell_text st) xs ≡ map (cell_text su) ys
    → (xs ≡ ys) × AllByRecursion (IsAlike st su) xs
same_cells st su p q [] [] all others e = (refl, tt)
same_cells st su p q [] (b ∷ ys) all others e = absurd (omega (arith, ap length e))
same_cells st su p q (a ∷ xs) [] all others e = absurd (omega (arith, ap length e))
same_cells st su p q (a ∷ xs) (b ∷ ys) all others e =
    let words : a ∷ words_at st a ≡ b ∷ words_at su b =
    sym (words_back a (words_at st a) (name_is_word a all.0)
    (cell_are_words (st.records.cell a) (st.locks.grants a) (st.locks.holder a) (p a)))
    ∙ ap (λ lines. words_of (first_of lines)) e
    ∙ words_back b (words_at su b) (name_is_word b others.0)
    (cell_are_words (su.records.cell b) (su.locks.grants b) (su.locks.holder b) (q b)) in
    let name : a ≡ b = ap first_of words in
    let known : words_at st a ≡ words_at su a =
    ap (drop 1) words ∙ ap (words_at su) (sym name) in
    let alike =
    same_cell (st.records.cell a) (su.records.cell a) (st.locks.grants a) (su.locks.grants a)
    (st.locks.holder a) (su.locks.holder a) (p a) (q a) known in
    let rest : map (cell_text st) xs ≡ map (cell_text su) ys = ap (drop 1) e in
    let more = same_cells st su p q xs ys all.1 others.1 rest in
    (λ i. name i ∷ more.0 i, (alike, more.1))

-- rows

-- the line of a target's rows without its LF, if it has any
abbrev pub rows_lines : ℕ → Bool → List Text → List Text
rows_lines number false [] = []
rows_lines number always rows = spaced (decimal number) (flag_word always ∷ rows) ∷ []

rows_text_is : (number : ℕ) (always : Bool) (rows : List Text)
    → rows_text number always rows ≡ flat_map ended (rows_lines number always rows)
rows_text_is number false [] = refl
rows_text_is number false (r ∷ rows) =
    sym (append-nil (ended (spaced (decimal number) (flag_word false ∷ r ∷ rows))))
rows_text_is number true rows =
    sym (append-nil (ended (spaced (decimal number) (flag_word true ∷ rows))))

rows_words : (number : ℕ) (always : Bool) (rows : List Text) → number < 10 ^ 64
    → AllByRecursion IsWord rows
    → words_of (spaced (decimal number) (flag_word always ∷ rows))
    ≡ decimal number ∷ flag_word always ∷ rows
rows_words number always rows small all =
    words_back (decimal number) (flag_word always ∷ rows) (number_is_word number small)
    (flag_is_word always, all)

rows_are_lines : (number : ℕ) (always : Bool) (rows : List Text) → number < 10 ^ 64
    → AllByRecursion IsWord rows → length rows ≤ 2 ^ 32
    → AllByRecursion IsLine (rows_lines number always rows)
rows_are_lines number false [] small all few = tt
rows_are_lines number false (r ∷ rows) small all few = (
  (
    line_is_free (decimal number) (flag_word false ∷ r ∷ rows) (number_is_word number small)
        (flag_is_word false, all),
    line_is_short (decimal number) (flag_word false ∷ r ∷ rows)
        (number_is_word number small) (flag_is_word false, all) (omega (arith, few)),
  ),
  tt,
)
rows_are_lines number true rows small all few = (
  (
    line_is_free (decimal number) (flag_word true ∷ rows) (number_is_word number small)
        (flag_is_word true, all),
    line_is_short (decimal number) (flag_word true ∷ rows)
        (number_is_word number small) (flag_is_word true, all) (omega (arith, few)),
  ),
  tt,
)

pub one_line : (number : ℕ) (always : Bool) (rows : List Text)
    → length (rows_lines number always rows) ≤ 1
one_line number false [] = omega arith
one_line number always rows = omega arith

-- the number of a line
abbrev pub number_at : Text → Text
number_at line = first_of (words_of line)

pub rows_numbered : (number : ℕ) (always : Bool) (rows : List Text) → number < 10 ^ 64
    → AllByRecursion IsWord rows
    → AllByRecursion (λ line. number_at line ≡ decimal number) (rows_lines number always rows)
rows_numbered number false [] small all = tt
rows_numbered number false (r ∷ rows) small all =
    (ap first_of (rows_words number false (r ∷ rows) small all), tt)
rows_numbered number true rows small all =
    (ap first_of (rows_words number true rows small all), tt)

same_rest : (number : ℕ) (x y : Bool) (xs ys : List Text) → number < 10 ^ 64
    → AllByRecursion IsWord xs → AllByRecursion IsWord ys
    → spaced (decimal number) (flag_word x ∷ xs) ≡ spaced (decimal number) (flag_word y ∷ ys)
    → (x ≡ y) × (xs ≡ ys)
same_rest number x y xs ys small p q e =
    let words : decimal number ∷ flag_word x ∷ xs ≡ decimal number ∷ flag_word y ∷ ys =
    sym (rows_words number x xs small p) ∙ ap words_of e ∙ rows_words number y ys small q in
    (same_flag x y (ap (λ ws. get_or ws 1 []) words), ap (drop 2) words)

pub same_target : (number : ℕ) (x y : Bool) (xs ys : List Text) → number < 10 ^ 64
    → AllByRecursion IsWord xs → AllByRecursion IsWord ys
    → rows_lines number x xs ≡ rows_lines number y ys → (x ≡ y) × (xs ≡ ys)
same_target number false false [] [] small p q e = (refl, refl)
same_target number false false (a ∷ xs) (b ∷ ys) small p q e =
    same_rest number false false (a ∷ xs) (b ∷ ys) small p q (ap first_of e)
same_target number false true (a ∷ xs) ys small p q e =
    same_rest number false true (a ∷ xs) ys small p q (ap first_of e)
same_target number true false xs (b ∷ ys) small p q e =
    same_rest number true false xs (b ∷ ys) small p q (ap first_of e)
same_target number true true xs ys small p q e =
    same_rest number true true xs ys small p q (ap first_of e)
same_target number x y xs ys small p q e = absurd (omega (arith, ap length e))

-- a whole body

module _ (names : List Text) (st : State Text) where
  abbrev pub rows_at : Text → List Text
  rows_at t = flat_map (row_words_at names st t) (numbers_of names)

  abbrev pub lines_at : ℕ → List Text
  lines_at number =
      let t = text_at names number in
      rows_lines number (st.records.rows.always t) (rows_at t)

  abbrev pub lines_in : List Text
  lines_in = map (cell_text st) names ++ flat_map lines_at (numbers_of names)

  pub rows_part : (numbers : List ℕ)
      → flat_map (rows_line names st) numbers ≡ flat_map ended (flat_map lines_at numbers)
  rows_part [] = refl
  rows_part (k ∷ numbers) =
      let t = text_at names k in
      let first = rows_text_is k (st.records.rows.always t) (rows_at t) in
      let others = rows_part numbers in
      (λ i. first i ++ others i)
      ∙ sym (flat_map-append ended (lines_at k) (flat_map lines_at numbers))

  pub body_is : body_of names st ≡ flat_map ended lines_in
  body_is =
      let cells = flat_map-map ended (cell_text st) names in
      let rows = rows_part (numbers_of names) in
      (λ i. sym cells i ++ rows i)
      ∙ sym (flat_map-append ended (map (cell_text st) names)
      (flat_map lines_at (numbers_of names)))

  at_are_few : (t : Text) → length (rows_at t) ≤ length names
  at_are_few t =
      few_pieces (row_words_at names st t) 0 (length names)
      (λ k. one_row k (mark_of st.records (text_at names k))
      (st.records.rows.change t (text_at names k)) (st.records.rows.created t (text_at names k)))

  module _ (is : IsStateOver names st) where
    pub at_are_words : (t : Text) → AllByRecursion IsWord (rows_at t)
    at_are_words t =
        let few = is.are_names.few in
        all_flat IsWord (row_words_at names st t) (2 ^ 32) 0 (length names)
        (λ k small. rows_are_words k (mark_of st.records (text_at names k))
        (st.records.rows.change t (text_at names k)) (st.records.rows.created t (text_at names k))
        (omega arith) (is.marks t (text_at names k))) (omega arith)

    pub rows_lines_are : (k : ℕ) → k < 2 ^ 32 → AllByRecursion IsLine (lines_at k)
    rows_lines_are k small =
        let t = text_at names k in
        let few = is.are_names.few in
        let rows = at_are_few t in
        rows_are_lines k (st.records.rows.always t) (rows_at t) (omega arith) (at_are_words t)
        (omega arith)

    lines_are : AllByRecursion IsLine lines_in
    lines_are =
        let few = is.are_names.few in
        all_both IsLine (map (cell_text st) names) (flat_map lines_at (numbers_of names))
        (cells_are_lines st (told names st is) names is.are_names.each)
        (all_flat IsLine lines_at (2 ^ 32) 0 (length names) rows_lines_are (omega arith))

    pub lines_are_free : AllByRecursion (Without 10) lines_in
    lines_are_free = all_then IsLine (Without 10) lines_in (λ x line. line.0) lines_are

    -- its length can be printed
    pub body_is_short : length (body_of names st) < 10 ^ 64
    body_is_short =
        let few = is.are_names.few in
        let cells : length (map (cell_text st) names) ≡ length names =
        length-map names (cell_text st) in
        let rows = few_pieces lines_at 0 (length names) (λ k. one_line k
        (st.records.rows.always (text_at names k)) (rows_at (text_at names k))) in
        omega (
          arith,
          ap length body_is,
          lines_are_short lines_in
              (all_then IsLine IsShortLine lines_in (λ x line. line.1) lines_are),
          length-append (map (cell_text st) names) (flat_map lines_at (numbers_of names)),
          cells,
          rows,
          few,
        )
