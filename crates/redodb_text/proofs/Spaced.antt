-- Words with single spaces between them, and the pieces between single spaces.
use Rattle.std.proofs.Common.{◌≡◌, ℕ, true, false, ◌||◌, ◌&&◌, not, List, [], ◌∷◌, ◌++◌, length, refl, sym, ap, ◌∙◌, append-nil, arith, ◌==◌}
use Rattle.std.specs.Prelude.{codes, bytes_eq, nat_le}
use Rattle.std.specs.List.{list_all, list_any, All, AllByRecursion, join_with_byte}
use Rattle.std.proofs.lemmas.List.Splits.{slice_split_at, slice_split_none, join_with_byte-slice_split}
use Rattle.std.proofs.lemmas.List.Concat.{flat_map-cons}
use Rattle.std.proofs.lemmas.List.Elements.{All-from_recursion}
use Rattle.std.proofs.lemmas.List.Folds.{list_any-append}
use Rattle.std.proofs.lemmas.Bool.{not-true}
use Rattle.std.proofs.lemmas.Bool.Decides.{nat_tests}
use Rattle.redodb_names.specs.Names.{is_name, is_reserved}
use Rattle.redodb_model.specs.Names.{Text, is_visible}
use Rattle.redodb_commands.specs.Stamp.{is_stamp, is_placeholder}
use Rattle.redodb_text.specs.Texts.{after_space, spaced}
use Rattle.redodb_text.specs.Questions.{words_of, is_text_byte}
use Rattle.redodb_text.proofs.Steps.{both, neither}

abbrev pub IsVisible : Text → Type 0
IsVisible word = list_all is_visible word ≡ true

abbrev HasNoSpace : Text → Type 0
HasNoSpace word = All (λ b. (b == 32) ≡ false) word

spaced-cons : (w v : Text) (vs : List Text) → spaced w (v ∷ vs) ≡ w ++ 32 ∷ spaced v vs
spaced-cons w v vs = ap (λ (x : Text). w ++ x) (flat_map-cons after_space v vs)

split-spaced : (w : Text) (ws : List Text) → HasNoSpace w → AllByRecursion HasNoSpace ws
    → words_of (spaced w ws) ≡ w ∷ ws
split-spaced w [] h all = ap words_of (append-nil w) ∙ slice_split_none (λ b. b == 32) w h
split-spaced w (v ∷ vs) h all =
    ap words_of (spaced-cons w v vs) ∙ slice_split_at (λ b. b == 32) w 32 (spaced v vs) h refl
    ∙ ap (λ (r : List Text). w ∷ r) (split-spaced v vs all.0 all.1)

joined : (w : Text) (ws : List Text) → join_with_byte 32 (w ∷ ws) ≡ spaced w ws
joined w [] = sym (append-nil w)
joined w (v ∷ vs) = ap (λ (x : Text). w ++ 32 ∷ x) (joined v vs) ∙ sym (spaced-cons w v vs)

-- a line is its words with single spaces
pub line_is_spaced : (line w : Text) (ws : List Text) → words_of line ≡ w ∷ ws → line ≡ spaced w ws
line_is_spaced line w ws e =
    sym (join_with_byte-slice_split 32 line) ∙ ap (join_with_byte 32) e ∙ joined w ws

no_space : (b : ℕ) → is_visible b ≡ true → (b == 32) ≡ false
no_space b h = grind (arith, nat_tests)

is_text : (b : ℕ) → is_visible b ≡ true → not (is_text_byte b) ≡ false
is_text b h = grind (arith, nat_tests)

visible_word : (w : Text) → IsVisible w → AllByRecursion (λ b. (b == 32) ≡ false) w
visible_word [] h = tt
visible_word (b ∷ bs) h =
    let k = both (is_visible b) (list_all is_visible bs) h in
    (no_space b k.0, visible_word bs k.1)

visible_text : (w : Text) → IsVisible w → list_any (λ b. not (is_text_byte b)) w ≡ false
visible_text [] h = refl
visible_text (b ∷ bs) h =
    let k = both (is_visible b) (list_all is_visible bs) h in
    let first = is_text b k.0 in
    let others = visible_text bs k.1 in
    λ i. first i || others i

visible_words : (ws : List Text) → AllByRecursion IsVisible ws → AllByRecursion HasNoSpace ws
visible_words [] all = tt
visible_words (w ∷ ws) all =
    (All-from_recursion (λ b. (b == 32) ≡ false) w (visible_word w all.0), visible_words ws all.1)

-- visible words are the pieces of their text
pub words_of-spaced : (w : Text) (ws : List Text) → IsVisible w → AllByRecursion IsVisible ws
    → words_of (spaced w ws) ≡ w ∷ ws
words_of-spaced w ws h all =
    split-spaced w ws (All-from_recursion (λ b. (b == 32) ≡ false) w (visible_word w h))
    (visible_words ws all)

-- a visible word before a space is the first
pub words_of-first : (w rest : Text) → IsVisible w → words_of (w ++ 32 ∷ rest) ≡ w ∷ words_of rest
words_of-first w rest h =
    slice_split_at (λ b. b == 32) w 32 rest
    (All-from_recursion (λ b. (b == 32) ≡ false) w (visible_word w h)) refl

-- and no byte of their text is bad
pub spaced_is_text : (w : Text) (ws : List Text) → IsVisible w → AllByRecursion IsVisible ws
    → list_any (λ b. not (is_text_byte b)) (spaced w ws) ≡ false
spaced_is_text w [] h all =
    ap (list_any (λ b. not (is_text_byte b))) (append-nil w) ∙ visible_text w h
spaced_is_text w (v ∷ vs) h all =
    let first = visible_text w h in
    let others = spaced_is_text v vs all.0 all.1 in
    ap (list_any (λ b. not (is_text_byte b))) (spaced-cons w v vs)
    ∙ list_any-append (λ b. not (is_text_byte b)) w (32 ∷ spaced v vs) ∙ (λ i. first i || others i)

pub name_is_visible : (t : Text) → is_name t ≡ true → IsVisible t
unfolding is_name
name_is_visible t h =
    let long = nat_le 1 (length t) && nat_le (length t) 255 in
    (both long (list_all is_visible t)
    (both (long && list_all is_visible t) (not (is_reserved t)) h).0).1

pub stamp_is_visible : (t : Text) → is_stamp t ≡ true → IsVisible t
unfolding is_stamp
stamp_is_visible t h =
    let long = nat_le 1 (length t) && nat_le (length t) 64 in
    (both long (list_all is_visible t)
    (both (long && list_all is_visible t) (not (is_placeholder t)) h).0).1

-- a stamp is not the word for no stamp
pub stamp_is_no_dash : (t : Text) → is_stamp t ≡ true → bytes_eq t (codes "-") ≡ false
unfolding is_stamp
stamp_is_no_dash t h =
    let good = nat_le 1 (length t) && nat_le (length t) 64 && list_all is_visible t in
    (neither (bytes_eq t (codes "-")) (bytes_eq t (codes "=>"))
    (not-true (is_placeholder t) (both good (not (is_placeholder t)) h).1)).0
