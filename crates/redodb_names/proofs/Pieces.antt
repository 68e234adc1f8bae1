-- Texts that lie one behind the other: where each begins and ends, and how more are put there.
use Rattle.std.proofs.Common.{◌≡◌, ℕ, zero, suc, ◌+◌, ◌-◌, ◌<◌, ◌≤◌, List, [], ◌∷◌, ◌++◌, length, take, drop, get_or, refl, sym, ap, ◌∙◌, arith}
use Rattle.std.proofs.lemmas.List.{take-take, take_all, take-append-le, length-take-le, length-append}
use Rattle.std.proofs.Math.Seq.{drop-append_seam}
use Rattle.redodb_names.specs.Support.Texts.{pieces, start_at, AreEnds}

pub start_is : (from : ℕ) (ends : List ℕ) (n : ℕ) → n < length ends
    → start_at from ends (suc n) ≡ get_or ends n 0
start_is from [] n lt = absurd (omega (arith, lt))
start_is from (e ∷ es) zero lt = refl
start_is from (e ∷ es) (suc n) lt = start_is e es n (omega (arith, lt))

pub piece_at : (from : ℕ) (ends bytes : List ℕ) (n : ℕ) → n < length ends
    → get_or (pieces from ends bytes) n []
    ≡ take (get_or ends n 0 - start_at from ends n) (drop (start_at from ends n) bytes)
piece_at from [] bytes n lt = absurd (omega (arith, lt))
piece_at from (e ∷ es) bytes zero lt = refl
piece_at from (e ∷ es) bytes (suc n) lt = piece_at e es bytes n (omega (arith, lt))

length-pieces : (from : ℕ) (ends bytes : List ℕ) → length (pieces from ends bytes) ≡ length ends
length-pieces from [] bytes = refl
length-pieces from (e ∷ es) bytes = ap suc (length-pieces e es bytes)

pub counted : (ends bytes : List ℕ) (texts : List (List ℕ)) → pieces 0 ends bytes ≡ texts
    → length texts ≡ length ends
counted ends bytes texts view = ap length (sym view) ∙ length-pieces 0 ends bytes

pub end_is : (ends : List ℕ) (n end : ℕ) → n < length ends → end ≡ get_or ends n end
    → end ≡ get_or ends n 0
end_is [] n end lt e = absurd (omega (arith, lt))
end_is (x ∷ xs) zero end lt e = e
end_is (x ∷ xs) (suc n) end lt e = end_is xs n end (omega (arith, lt)) e

pub piece_within : (from : ℕ) (ends : List ℕ) (size n : ℕ) → AreEnds from ends size
    → n < length ends → (start_at from ends n ≤ get_or ends n 0) × (get_or ends n 0 ≤ size)
piece_within from [] size n are lt = absurd (omega (arith, lt))
piece_within from (e ∷ es) size zero are lt = (are.0, are.1)
piece_within from (e ∷ es) size (suc n) are lt = piece_within e es size n are.2 (omega (arith, lt))

-- no text begins before the first
pub starts_after : (from : ℕ) (ends : List ℕ) (size n : ℕ) → AreEnds from ends size
    → from ≤ start_at from ends n
starts_after from ends size zero are = omega arith
starts_after from [] size (suc n) are = omega arith
starts_after from (e ∷ es) size (suc n) are =
    omega (arith, are.0, starts_after e es size n are.2)

pub starts_within : (from : ℕ) (ends : List ℕ) (size n : ℕ) → AreEnds from ends size
    → from ≤ size → start_at from ends n ≤ size
starts_within from ends size zero are le = le
starts_within from [] size (suc n) are le = le
starts_within from (e ∷ es) size (suc n) are le = starts_within e es size n are.2 are.1

part_of_front : (from end : ℕ) (xs : List ℕ) → take (end - from) (drop from xs) ≡ drop from (take end xs)
part_of_front zero end xs =
    let same : end - 0 ≡ end = omega arith in
    ap (λ n. take n xs) same
part_of_front (suc from) zero xs =
    let none : 0 - suc from ≡ 0 = omega arith in
    ap (λ n. take n (drop (suc from) xs)) none
part_of_front (suc from) (suc end) [] = take_all (suc end - suc from) [] (omega arith)
part_of_front (suc from) (suc end) (x ∷ xs) =
    let same : suc end - suc from ≡ end - from = omega arith in
    ap (λ n. take n (drop from xs)) same ∙ part_of_front from end xs

-- the first texts are in the bytes before the next
same_piece : (from end start : ℕ) (bytes others : List ℕ) → end ≤ start
    → take start others ≡ take start bytes
    → take (end - from) (drop from others) ≡ take (end - from) (drop from bytes)
same_piece from end start bytes others le same =
    let front : take end others ≡ take end bytes =
    sym (take-take end start others le) ∙ ap (take end) same ∙ take-take end start bytes le in
    part_of_front from end others ∙ ap (drop from) front ∙ sym (part_of_front from end bytes)

pub first_pieces : (from : ℕ) (ends bytes others : List ℕ) (size count : ℕ)
    → AreEnds from ends size → count ≤ length ends
    → take (start_at from ends count) others ≡ take (start_at from ends count) bytes
    → pieces from (take count ends) others ≡ take count (pieces from ends bytes)
first_pieces from ends bytes others size zero are le same = refl
first_pieces from [] bytes others size (suc n) are le same = absurd (omega (arith, le))
first_pieces from (e ∷ es) bytes others size (suc n) are le same = λ i.
    same_piece from e (start_at e es n) bytes others (starts_after e es size n are.2) same i
    ∷ first_pieces e es bytes others size n are.2 (omega (arith, le)) same i

pub first_ends : (from : ℕ) (ends : List ℕ) (size count most : ℕ) → AreEnds from ends size
    → count ≤ length ends → start_at from ends count ≤ most → AreEnds from (take count ends) most
first_ends from ends size zero most are le in' = tt
first_ends from [] size (suc n) most are le in' = absurd (omega (arith, le))
first_ends from (e ∷ es) size (suc n) most are le in' = (
  are.0,
  omega (arith, starts_after e es size n are.2, in'),
  first_ends e es size n most are.2 (omega (arith, le)) in',
)

-- one more text
pub one_more_piece : (from : ℕ) (ends bytes : List ℕ) (count end : ℕ) → count ≤ length ends
    → pieces from (take count ends ++ end ∷ []) bytes ≡ pieces from (take count ends) bytes
    ++ take (end - start_at from ends count) (drop (start_at from ends count) bytes) ∷ []
one_more_piece from ends bytes zero end le = refl
one_more_piece from [] bytes (suc n) end le = absurd (omega (arith, le))
one_more_piece from (e ∷ es) bytes (suc n) end le =
    ap (λ (ts : List (List ℕ)). take (e - from) (drop from bytes) ∷ ts)
    (one_more_piece e es bytes n end (omega (arith, le)))

pub one_more_end : (from : ℕ) (ends : List ℕ) (size count end : ℕ) → AreEnds from ends size
    → count ≤ length ends → start_at from ends count ≤ end
    → AreEnds from (take count ends ++ end ∷ []) end
one_more_end from ends size zero end are le in' = (in', omega arith, tt)
one_more_end from [] size (suc n) end are le in' = absurd (omega (arith, le))
one_more_end from (e ∷ es) size (suc n) end are le in' = (
  are.0,
  omega (arith, starts_after e es size n are.2, in'),
  one_more_end e es size n end are.2 (omega (arith, le)) in',
)

-- the bytes before a text's beginning, with others behind them
module _ (ends bytes more : List ℕ) (count : ℕ) (are : AreEnds 0 ends (length bytes))
    (le : count ≤ length ends) where
  abbrev start : ℕ
  start = start_at 0 ends count

  abbrev all : List ℕ
  all = take start bytes ++ more

  front_length : length (take start bytes) ≡ start
  front_length =
      length-take-le start bytes (starts_within 0 ends (length bytes) count are (omega arith))

  front : take start all ≡ take start bytes
  front =
      take-append-le start (take start bytes) more (omega (arith, front_length))
      ∙ take-take start start bytes (omega arith)

  long : length all ≡ start + length more
  long = length-append (take start bytes) more ∙ ap (λ n. n + length more) front_length

  pub first_kept : pieces 0 (take count ends) all ≡ take count (pieces 0 ends bytes)
  first_kept = first_pieces 0 ends bytes all (length bytes) count are le front

  pub first_ends_kept : AreEnds 0 (take count ends) (length all)
  first_ends_kept = first_ends 0 ends (length bytes) count (length all) are le (omega (arith, long))

  rest : drop start all ≡ more
  rest = ap (λ n. drop n all) (sym front_length) ∙ drop-append_seam (take start bytes) more

  last : take (length all - start) (drop start all) ≡ more
  last = ap (take (length all - start)) rest ∙ take_all (length all - start) more (omega (arith, long))

  pub put_behind : pieces 0 (take count ends ++ length all ∷ []) all
      ≡ take count (pieces 0 ends bytes) ++ more ∷ []
  put_behind =
      one_more_piece 0 ends all count (length all) le
      ∙ (λ i. first_kept i ++ last i ∷ [])

  pub ends_behind : AreEnds 0 (take count ends ++ length all ∷ []) (length all)
  ends_behind =
      one_more_end 0 ends (length bytes) count (length all) are le (omega (arith, long))
