-- A text begins with the dump of at most one state over at most one list of names.
use Rattle.std.proofs.Common.{◌≡◌, ◌⊎◌, ℕ, zero, suc, ◌<◌, ◌≤◌, ◌^◌, Bool, true, false, List, [], ◌∷◌, ◌++◌, map, length, get_or, refl, sym, ap, ◌∙◌, subst, arith, inl, inr, append_assoc}
use Rattle.std.specs.Prelude.{codes, decimal, bytes_eq, Contains}
use Rattle.std.specs.List.{AllByRecursion, flat_map}
use Rattle.std.proofs.Math.Path.{fun_ext}
use Rattle.std.specs.Cmp.Lexicographic.{bytes_decides}
use Rattle.std.proofs.lemmas.List.{length-map}
use Rattle.hex.specs.Hex.{encode_lower}
use Rattle.redodb_model.specs.Names.{Text, text_at}
use Rattle.redodb_model.specs.State.{Cell, State, mark_in, mark_of}
use Rattle.redodb_model.proofs.Members.{contains_cases, contains_none}
use Rattle.redodb_text.specs.Texts.{spaced}
use Rattle.redodb_text.specs.Questions.{words_of}
use Rattle.redodb_history.specs.Histories.{ended}
use Rattle.redodb_history.proofs.CutOnce.{first_cut, same_prefix}
use Rattle.redodb_history.proofs.Digests.{sha1_is_digest}
use Rattle.redodb_dump.specs.Dumps.{IsStateOver, body_of, counts, dump_of, numbers_of, row_words, row_words_at, state_line, sum_of}
use Rattle.redodb_dump.proofs.DumpLines.{IsAlike, body_is, body_is_short, at_are_words, cell_text, lines_are_free, lines_at, lines_in, number_at, rows_at, rows_numbered, same_cells, same_target, told, words_back}
use Rattle.redodb_dump.proofs.DumpMarks.{SameRows, number_in, rows_are_numbered, same_rows}
use Rattle.redodb_dump.proofs.DumpWords.{IsWord, encoded_is_word, number_is_word, same_number}
use Rattle.redodb_dump.proofs.Pieces.{ended_then, line_is_free, same_lines, same_pieces}

-- the first line

abbrev pub head_words : List Text → Text → List Text
head_words names body =
    decimal (length names) ∷ decimal (length body) ∷ encode_lower (sum_of names body) ∷ []

pub state_is_word : IsWord (codes "state")
state_is_word = (refl, omega arith)

pub head_are_words : (names : List Text) (body : Text) → length names < 2 ^ 32
    → length body < 10 ^ 64 → AllByRecursion IsWord (head_words names body)
head_are_words names body few short = (
  number_is_word (length names) (omega arith),
  (
    number_is_word (length body) short,
    (encoded_is_word (sum_of names body) (sha1_is_digest (ended (counts names body) ++ body)), tt),
  ),
)

-- two texts that begin with a first line and its body have the same counts, bodies and rests
same_parts : (names others : List Text) (body other rest more : Text) → length names < 2 ^ 32
    → length others < 2 ^ 32 → length body < 10 ^ 64 → length other < 10 ^ 64
    → (state_line names body ++ body) ++ rest ≡ (state_line others other ++ other) ++ more
    → (length names ≡ length others) × (body ≡ other) × (rest ≡ more)
same_parts names others body other rest more few few' short short' e =
    let words = head_words names body in
    let words' = head_words others other in
    let are = head_are_words names body few short in
    let are' = head_are_words others other few' short' in
    let head = spaced (codes "state") words in
    let head' = spaced (codes "state") words' in
    let cut = first_cut 10 head head' (body ++ rest) (other ++ more)
    (line_is_free (codes "state") words state_is_word are)
    (line_is_free (codes "state") words' state_is_word are')
    (sym (ended_then head (body ++ rest)) ∙ sym (append_assoc (ended head) body rest) ∙ e
    ∙ append_assoc (ended head') other more ∙ ended_then head' (other ++ more)) in
    let said : codes "state" ∷ words ≡ codes "state" ∷ words' =
    sym (words_back (codes "state") words state_is_word are) ∙ ap words_of cut.0
    ∙ words_back (codes "state") words' state_is_word are' in
    let long : length body ≡ length other =
    same_number (length body) (length other) short short' (ap (λ ws. get_or ws 2 []) said) in
    let both = same_prefix body other rest more long cut.1 in (
      same_number (length names) (length others) (omega arith) (omega arith)
          (ap (λ ws. get_or ws 1 []) said),
      both.0,
      both.1,
    )

-- names and other texts

abbrev IsPlace : List Text → Text → Type 0
IsPlace names t = (k : ℕ) × (k < length names) × (text_at names k ≡ t)

differ : false ≡ true → ⊥
differ e = cc

place_or_none : (names : List Text) (t : Text) → IsPlace names t ⊎ (Contains names t → ⊥)
place_or_none [] t = inr (contains_none t)
place_or_none (n ∷ names) t = by (bytes_eq n t) refl (place_or_none names t)
  where
    by : (b : Bool) → bytes_eq n t ≡ b → IsPlace names t ⊎ (Contains names t → ⊥)
        → IsPlace (n ∷ names) t ⊎ (Contains (n ∷ names) t → ⊥)
    by true e other = inl (0, omega arith, (bytes_decides n t).0 e)
    by false e (inl at) = inl (suc at.0, omega (arith, at.1), at.2)
    by false e (inr none) = inr (λ has. elim (contains_cases n names t has) [
      | inl same ↦ differ (sym e ∙ (bytes_decides n t).1 same)
      | inr later ↦ none later
    ])

pub all_at : (P : Text → Type 0) (names : List Text) → AllByRecursion P names → (k : ℕ)
    → k < length names → P (text_at names k)
all_at P [] all k below = absurd (omega arith)
all_at P (n ∷ names) all zero below = all.0
all_at P (n ∷ names) all (suc k) below = all_at P names all.1 k (omega arith)

-- states over the same names with the same body

module _ (names : List Text) (st su : State Text) (is : IsStateOver names st)
    (also : IsStateOver names su) (alike : AllByRecursion (IsAlike st su) names)
    (rows : flat_map (lines_at names st) (numbers_of names)
    ≡ flat_map (lines_at names su) (numbers_of names))
  where
    alike_at : (t : Text) → IsAlike st su t
    alike_at t = by (place_or_none names t)
      where
        by : IsPlace names t ⊎ (Contains names t → ⊥) → IsAlike st su t
        by (inl at) =
            subst (IsAlike st su) at.2 (all_at (IsAlike st su) names alike at.0 at.1)
        by (inr none) =
            let one = is.others t none in
            let other = also.others t none in
            record {
              cell = one.unknown.cell ∙ sym other.unknown.cell;
              grants = one.grants ∙ sym other.grants;
              holder = one.unknown.holder ∙ sym other.unknown.holder;
            }

    few : length names ≤ 2 ^ 32
    few = let small = is.are_names.few in omega arith

    numbered : (sv : State Text) (over : IsStateOver names sv) (k : ℕ) → k < length names
        → AllByRecursion (λ line. number_at line ≡ decimal k) (lines_at names sv k)
    numbered sv over k below =
        let most = few in
        rows_numbered k (sv.records.rows.always (text_at names k))
        (rows_at names sv (text_at names k))
        (omega arith) (at_are_words names sv over (text_at names k))

    -- the rows of the target with a number
    same_at : (k : ℕ) → k < length names
        → (st.records.rows.always (text_at names k) ≡ su.records.rows.always (text_at names k))
        × (rows_at names st (text_at names k) ≡ rows_at names su (text_at names k))
    same_at k below =
        let t = text_at names k in
        let most = few in
        same_target k (st.records.rows.always t) (su.records.rows.always t)
        (rows_at names st t) (rows_at names su t) (omega arith)
        (at_are_words names st is t) (at_are_words names su also t)
        (same_pieces number_at (lines_at names st) (lines_at names su) (length names) few
        (numbered st is) (numbered su also) rows k below)

    word_numbered : (sv : State Text) (t : Text) (k : ℕ) → k < length names
        → AllByRecursion (λ w. number_in w ≡ decimal k) (row_words_at names sv t k)
    word_numbered sv t k below =
        let n = text_at names k in
        let most = few in
        rows_are_numbered k (mark_of sv.records n) (sv.records.rows.change t n)
        (sv.records.rows.created t n) (omega arith)

    abbrev AreSame : Text → Text → Type 0
    AreSame t n = SameRows (st.records.rows.change t n) (su.records.rows.change t n)
        (st.records.rows.created t n) (su.records.rows.created t n)

    same_mark_at : (n : Text) → mark_of st.records n ≡ mark_of su.records n
    same_mark_at n = ap (λ (c : Cell). mark_in c.state c) (alike_at n).cell

    rows_between : (j k : ℕ) → j < length names → k < length names
        → AreSame (text_at names j) (text_at names k)
    rows_between j k from below =
        let t = text_at names j in
        let n = text_at names k in
        let most = few in
        let words : row_words_at names st t k ≡ row_words_at names su t k =
        same_pieces number_in (row_words_at names st t) (row_words_at names su t) (length names) few
        (word_numbered st t) (word_numbered su t) (same_at j from).1 k below in
        same_rows k (mark_of su.records n) (st.records.rows.change t n)
        (su.records.rows.change t n) (st.records.rows.created t n) (su.records.rows.created t n)
        (omega arith) (is.marks t n) (also.marks t n)
        (ap (λ now. row_words k now (st.records.rows.change t n) (st.records.rows.created t n))
        (sym (same_mark_at n)) ∙ words)

    same_between : (t n : Text) → AreSame t n
    same_between t n = by (place_or_none names t) (place_or_none names n)
      where
        by : IsPlace names t ⊎ (Contains names t → ⊥) → IsPlace names n ⊎ (Contains names n → ⊥)
            → AreSame t n
        by (inl from) (inl at) =
            subst (λ u. AreSame u n) from.2
            (subst (AreSame (text_at names from.0)) at.2
            (rows_between from.0 at.0 from.1 at.1))
        by (inr none) at =
            let one = is.others t none in
            let other = also.others t none in (
              one.unknown.change n ∙ sym (other.unknown.change n),
              one.unknown.created n ∙ sym (other.unknown.created n),
            )
        by (inl from) (inr none) =
            let one = is.others n none in
            let other = also.others n none in
            (one.change t ∙ sym (other.change t), one.created t ∙ sym (other.created t))

    same_always : (t : Text) → st.records.rows.always t ≡ su.records.rows.always t
    same_always t = by (place_or_none names t)
      where
        by : IsPlace names t ⊎ (Contains names t → ⊥)
            → st.records.rows.always t ≡ su.records.rows.always t
        by (inl at) =
            subst (λ u. st.records.rows.always u ≡ su.records.rows.always u) at.2
            (same_at at.0 at.1).0
        by (inr none) =
            (is.others t none).unknown.always ∙ sym (also.others t none).unknown.always

    same_state : st ≡ su
    same_state =
        let cells = fun_ext (λ t. (alike_at t).cell) in
        let changes = fun_ext (λ t. fun_ext (λ n. (same_between t n).0)) in
        let createds = fun_ext (λ t. fun_ext (λ n. (same_between t n).1)) in
        let always = fun_ext same_always in
        let holders = fun_ext (λ t. (alike_at t).holder) in
        let grants = fun_ext (λ t. (alike_at t).grants) in
        λ i. record {
          records = record {
            cell = cells i;
            rows = record { change = changes i; created = createds i; always = always i };
          };
          locks = record { holder = holders i; grants = grants i };
        }

pub one_dump : (names others : List Text) (st su : State Text) (rest more : Text)
    → IsStateOver names st → IsStateOver others su
    → dump_of names st ++ rest ≡ dump_of others su ++ more
    → (names ≡ others) × (st ≡ su) × (rest ≡ more)
one_dump names others st su rest more is also e =
    let parts =
    same_parts names others (body_of names st) (body_of others su) rest more is.are_names.few
    also.are_names.few (body_is_short names st is) (body_is_short others su also) e in
    let lines : lines_in names st ≡ lines_in others su =
    same_lines (lines_in names st) (lines_in others su) (lines_are_free names st is)
    (lines_are_free others su also)
    (sym (body_is names st) ∙ parts.1 ∙ body_is others su) in
    let long : length (map (cell_text st) names) ≡ length (map (cell_text su) others) =
    length-map names (cell_text st) ∙ parts.0 ∙ sym (length-map others (cell_text su)) in
    let split =
    same_prefix (map (cell_text st) names) (map (cell_text su) others)
    (flat_map (lines_at names st) (numbers_of names))
    (flat_map (lines_at others su) (numbers_of others)) long lines in
    let cells =
    same_cells st su (told names st is) (told others su also) names others is.are_names.each
    also.are_names.each split.0 in
    let back = sym cells.0 in
    let rows : flat_map (lines_at names st) (numbers_of names)
    ≡ flat_map (lines_at names su) (numbers_of names) =
    split.1 ∙ ap (λ ns. flat_map (lines_at ns su) (numbers_of ns)) back in (
      cells.0,
      same_state names st su is (subst (λ ns. IsStateOver ns su) back also) cells.1 rows,
      parts.2,
    )
