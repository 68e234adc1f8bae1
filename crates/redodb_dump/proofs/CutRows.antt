-- Lines are cut from a text, one by one.
use Rattle.std.proofs.Common.{◌≡◌, ◌≢◌, ◌∙◌, ℕ, zero, suc, ◌+◌, ◌<◌, List, ◌++◌, length, take, drop, refl, sym, ap, arith, append_assoc}
use Rattle.std.specs.List.{flat_map, range_with_len}
use Rattle.std.proofs.lemmas.List.{append_cancel_left, take-append-drop}
use Rattle.std.proofs.lemmas.List.Concat.{flat_map-append}
use Rattle.redodb_model.specs.Names.{Text, text_at}
use Rattle.redodb_dump.proofs.ReadLines.{lines_from}
use Rattle.redodb_dump.proofs.SlotWords.{numbers_more}

-- one more line was cut off
pub cut_more : (line : ℕ → Text) (n : ℕ) (text left rest : Text)
    → text ≡ flat_map line (range_with_len 0 n) ++ left → left ≡ line n ++ rest
    → text ≡ flat_map line (range_with_len 0 (n + 1)) ++ rest
cut_more line n text left rest before cut =
    before ∙ ap (λ t. lines ++ t) cut
    ∙ sym (append_assoc lines (line n) rest)
    ∙ ap (λ t. t ++ rest) (sym (numbers_more line n))
  where
    lines : Text
    lines = flat_map line (range_with_len 0 n)

-- after some of the lines of names the next one comes
pub next_name : (line : Text → Text) (names : List Text) (n : ℕ) (text left more begin : Text)
    → n < length names
    → text ≡ flat_map line (take n names) ++ left → text ≡ flat_map line names ++ more
    → begin ≡ line (text_at names n) → ((rest : Text) → left ≢ begin ++ rest) → ⊥
next_name line names n text left more begin below before whole is none =
    none (flat_map line (drop (n + 1) names) ++ more)
    (append_cancel_left lines left (flat_map line (drop n names) ++ more)
    (sym before ∙ whole ∙ ap (λ t. t ++ more) split
    ∙ append_assoc lines (flat_map line (drop n names)) more)
    ∙ lines_from line names n more below
    ∙ ap (λ t. t ++ (flat_map line (drop (n + 1) names) ++ more)) (sym is))
  where
    lines : Text
    lines = flat_map line (take n names)

    split : flat_map line names ≡ flat_map line (take n names) ++ flat_map line (drop n names)
    split =
        ap (flat_map line) (sym (take-append-drop n names))
        ∙ flat_map-append line (take n names) (drop n names)

range_split : (line : ℕ → Text) (from n more : ℕ)
    → flat_map line (range_with_len from (n + more))
    ≡ flat_map line (range_with_len from n) ++ flat_map line (range_with_len (from + n) more)
range_split line from zero more =
    let none : zero + more ≡ more = omega arith in
    let same : from ≡ from + zero = omega arith in
    λ i. flat_map line (range_with_len (same i) (none i))
range_split line from (suc n) more =
    let count : suc n + more ≡ suc (n + more) = omega arith in
    let start : (from + 1) + n ≡ from + suc n = omega arith in
    ap (λ c. flat_map line (range_with_len from c)) count
    ∙ ap (λ t. line from ++ t) (range_split line (from + 1) n more)
    ∙ sym (append_assoc (line from) (flat_map line (range_with_len (from + 1) n))
    (flat_map line (range_with_len ((from + 1) + n) more)))
    ∙ ap (λ s. (line from ++ flat_map line (range_with_len (from + 1) n))
    ++ flat_map line (range_with_len s more)) start

-- what is left after the lines of some numbers are those of the others
pub left_after : (line : ℕ → Text) (n more count : ℕ) (text left : Text) → n + more ≡ count
    → text ≡ flat_map line (range_with_len 0 n) ++ left
    → text ≡ flat_map line (range_with_len 0 count)
    → left ≡ flat_map line (range_with_len n more)
left_after line n more count text left sum before whole =
    let start : 0 + n ≡ n = omega arith in
    append_cancel_left lines left (flat_map line (range_with_len n more))
    (sym before ∙ whole ∙ ap (λ c. flat_map line (range_with_len 0 c)) (sym sum)
    ∙ range_split line 0 n more
    ∙ ap (λ s. lines ++ flat_map line (range_with_len s more)) start)
  where
    lines : Text
    lines = flat_map line (range_with_len 0 n)

-- after some of the lines of numbers the next one comes
pub next_number : (line : ℕ → Text) (n more : ℕ) (text left begin : Text)
    → text ≡ flat_map line (range_with_len 0 n) ++ left
    → text ≡ flat_map line (range_with_len 0 (n + suc more)) → begin ≡ line n
    → ((rest : Text) → left ≢ begin ++ rest) → ⊥
next_number line n more text left begin before whole is none =
    none (flat_map line (range_with_len (n + 1) more))
    (left_after line n (suc more) (n + suc more) text left refl before whole
    ∙ ap (λ t. t ++ flat_map line (range_with_len (n + 1) more)) (sym is))
