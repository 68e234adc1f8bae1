-- The lines of a text, and the names that they begin with, one by one.
use Rattle.std.proofs.Common.{◌≡◌, ℕ, zero, suc, ◌+◌, ◌<◌, Bool, true, false, ◌||◌, List, [], ◌∷◌, ◌++◌, length, take, drop, Some, slice_get, refl, sym, ap, ◌∙◌, subst, arith, append_assoc, if◌then◌else◌}
use Rattle.std.specs.Prelude.{bytes_eq, Contains}
use Rattle.std.specs.List.{AllByRecursion, IsDistinct, flat_map}
use Rattle.std.proofs.lemmas.Cmp.{nat_list_eq_equiv}
use Rattle.std.proofs.lemmas.List.{drop_more, get_or-take, take_more}
use Rattle.std.proofs.lemmas.List.Elements.{Contains-append_right}
use Rattle.std.proofs.lemmas.Option.{get_or_from_slice_get}
use Rattle.redodb_names.specs.Support.Names.{AreNames}
use Rattle.redodb_names.specs.Names.{has, is_name, with_name}
use Rattle.redodb_model.specs.Names.{Text, text_at}
use Rattle.redodb_model.specs.State.{State}
use Rattle.redodb_model.proofs.RepliesByName.{one_number}
use Rattle.redodb_text.specs.Texts.{spaced}
use Rattle.redodb_history.specs.Histories.{ended}
use Rattle.redodb_history.specs.HistoryFaults.{IsCutAtSpace}
use Rattle.redodb_history.specs.Support.HistoryFaults.{IsCutAt}
use Rattle.redodb_history.proofs.CutOnce.{Without, first_cut, without_from}
use Rattle.redodb_live.proofs.Answering.{renaming}
use Rattle.redodb_dump.specs.Dumps.{IsDumped, cell_line}
use Rattle.redodb_dump.specs.Support.Read.{joined}
use Rattle.redodb_dump.proofs.DumpCells.{cell_are_words}
use Rattle.redodb_dump.proofs.DumpLines.{told, words_at}
use Rattle.redodb_dump.proofs.DumpWords.{IsWord, name_is_word}
use Rattle.redodb_dump.proofs.OneDump.{all_at}
use Rattle.redodb_dump.proofs.Pieces.{ended_then, line_is_free}
use Rattle.redodb_dump.proofs.ReadWords.{cut_word}

-- a line is there, and is cut off

pub line_there : (line rest text : Text) → text ≡ ended line ++ rest → ¬ (Contains text 10) → ⊥
line_there line rest text is none =
    none (subst (λ (t : Text). Contains t 10) (sym (is ∙ ended_then line rest))
    (Contains-append_right line (10 ∷ rest) 10 (0, omega arith, refl)))

pub line_cut : (line rest text a b : Text) → Without 10 line → text ≡ ended line ++ rest
    → IsCutAt 10 text a b → (a ≡ line) × (b ≡ rest)
line_cut line rest text a b free is cut =
    first_cut 10 a line b rest (without_from 10 a cut.1) free
    (sym cut.0 ∙ is ∙ ended_then line rest)

-- the lines of names

pub lines_from : (f : Text → Text) (names : List Text) (n : ℕ) (rest : Text) → n < length names
    → flat_map f (drop n names) ++ rest
    ≡ f (text_at names n) ++ (flat_map f (drop (n + 1) names) ++ rest)
lines_from f names n rest below =
    ap (λ (ns : List Text). flat_map f ns ++ rest) (drop_more names n [] below)
    ∙ append_assoc (f (text_at names n)) (flat_map f (drop (n + 1) names)) rest

module _ (names : List Text) (st : State Text) (is : IsDumped names st) (n : ℕ)
    (below : n < length names)
  where
    pub own_name : is_name (text_at names n) ≡ true
    own_name =
        all_at (λ t. is_name t ≡ true) names is.over.are_names.each n below

    own_words : AllByRecursion IsWord (words_at st (text_at names n))
    own_words =
        let name = text_at names n in
        cell_are_words (st.records.cell name) (st.locks.grants name) (st.locks.holder name)
        (told names st is.over name)

    pub own_line : Without 10 (spaced (text_at names n) (words_at st (text_at names n)))
    own_line =
        line_is_free (text_at names n) (words_at st (text_at names n))
        (name_is_word (text_at names n) own_name) own_words

    -- a name and what is known of it are cut off
    pub own_cut : (rest text a b name words : Text) → text ≡ cell_line st (text_at names n) ++ rest
        → IsCutAt 10 text a b → IsCutAtSpace a name words
        → (b ≡ rest) × (name ≡ text_at names n) × (words ≡ joined (words_at st (text_at names n)))
    own_cut rest text a b name words whole line parts =
        let cut =
        line_cut (spaced (text_at names n) (words_at st (text_at names n))) rest text a b own_line
        whole line in
        let word =
        cut_word (text_at names n) (words_at st (text_at names n)) a name words
        (name_is_word (text_at names n) own_name) cut.0 parts in
        (cut.1, word.0, word.1)

-- distinct names

apart : (names : List Text) (n : ℕ) → IsDistinct bytes_eq names → n < length names
    → has (take n names) (text_at names n) ≡ false
unfolding IsDistinct
apart [] n distinct below = absurd (omega arith)
apart (x ∷ names) zero distinct below = refl
apart (x ∷ names) (suc n) distinct below =
    let t = text_at names n in
    let other : bytes_eq t x ≡ false =
    nat_list_eq_equiv.symm t x
    ∙ all_at (λ y. bytes_eq x y ≡ false) names distinct.0 n (omega arith) in
    let none = apart names n distinct.1 (omega arith) in
    λ i. other i || none i

pub one_more : (names : List Text) (n : ℕ) → IsDistinct bytes_eq names → n < length names
    → with_name (take n names) (text_at names n) ≡ take (n + 1) names
one_more names n distinct below =
    ap (λ (b : Bool). if b then take n names else take n names ++ text_at names n ∷ [])
    (apart names n distinct below)
    ∙ sym (take_more names n [] below)

-- of the first names the last one has its own number
pub number_is : (names : List Text) → AreNames names → (n : ℕ) → n < length names
    → (number : ℕ) → number < n + 1
    → slice_get (take (n + 1) names) number ≡ Some (text_at names n) → number ≡ n
number_is names are n below number less e =
    one_number (renaming names are) number n (omega arith) below
    (sym (get_or-take (n + 1) names number [] less)
    ∙ get_or_from_slice_get (take (n + 1) names) number (text_at names n) [] e)
