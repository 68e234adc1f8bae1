-- What is kept of a line that goes on.
use Rattle.std.proofs.Common.{◌≡◌, ◌+◌, ◌-◌, ◌≤◌, [], ◌∷◌, ◌++◌, length, take, refl, sym, ap, ◌∙◌, append_assoc, inl, inr, arith}
use Rattle.std.proofs.Math.Seq.{take-append-add}
use Rattle.std.proofs.lemmas.Bool.{cases_lt}
use Rattle.std.proofs.lemmas.List.{take_all, take-append-le, length-take-le}
use Rattle.std.proofs.lemmas.List.Elements.{Contains-append_cases}
use Rattle.redodb_model.specs.Names.{Text}
use Rattle.redodb_model.proofs.Members.{contains_none}
use Rattle.redodb_history.specs.Histories.{ended}
use Rattle.redodb_conversation.specs.Logs.{HasNoEnd}
use Rattle.redodb_conversation.specs.Support.KeptLines.{kept_of, IsPrefixOf, IsReceivedOf}

pub no_end_both : (a b : Text) → HasNoEnd a → HasNoEnd b → HasNoEnd (a ++ b)
no_end_both a b x y is = elim (Contains-append_cases a b 10 is) [
  | inl c ↦ x c
  | inr c ↦ y c
]

-- after a prefix, so much of what comes fits
pub kept_behind : (prefix more : Text) → length prefix ≤ 8199
    → prefix ++ take (8199 - length prefix) more ≡ kept_of (prefix ++ more)
kept_behind prefix more few =
    let split : length prefix + (8199 - length prefix) ≡ 8199 = omega arith in
    sym (take-append-add prefix more (8199 - length prefix))
    ∙ ap (λ n. take n (prefix ++ more)) split

-- of a line of which so much is kept, more is kept only after a short prefix
pub kept_more : (whole more : Text) → kept_of (kept_of whole ++ more) ≡ kept_of (whole ++ more)
kept_more whole more = elim (cases_lt (length whole) 8199) [
  | inl short ↦ ap (λ t. kept_of (t ++ more)) (take_all 8199 whole (omega arith))
  | inr long ↦
      let full : length (kept_of whole) ≡ 8199 = length-take-le 8199 whole long in
      take-append-le 8199 (kept_of whole) more (omega (arith, full))
      ∙ take_all 8199 (kept_of whole) (omega (arith, full))
      ∙ sym (take-append-le 8199 whole more long)
]

pub prefix_of_none : (prefix : Text) → prefix ≡ [] → IsPrefixOf [] prefix
prefix_of_none prefix e = record { unended = contains_none 10; kept = e }

pub prefix_more : (whole more prefix : Text) → HasNoEnd more → IsPrefixOf whole prefix
    → IsPrefixOf (whole ++ more) (kept_of (prefix ++ more))
prefix_more whole more prefix free is = record {
  unended = no_end_both whole more is.unended free;
  kept = ap (λ t. kept_of (t ++ more)) is.kept ∙ kept_more whole more;
}

pub none_from_prefix : (whole : Text) → [] ≡ kept_of whole → whole ≡ []
none_from_prefix [] e = refl
none_from_prefix (b ∷ bs) e = absurd (omega (arith, ap length e))

-- a line of which nothing is kept has not begun
pub nothing_begun : (begun prefix : Text) → IsPrefixOf begun prefix → length prefix ≡ 0 → begun ≡ []
nothing_begun begun [] is e = none_from_prefix begun is.kept
nothing_begun begun (b ∷ bs) is e = absurd (omega (arith, e))

-- what is kept of a line that ends with this piece
pub received_behind : (begun prefix piece line : Text) → IsPrefixOf begun prefix → HasNoEnd piece
    → line ≡ kept_of (prefix ++ piece) → IsReceivedOf (begun ++ piece) line
received_behind begun prefix piece line is free e = record {
  unended = no_end_both begun piece is.unended free;
  is = inr (e ∙ ap (λ t. kept_of (t ++ piece)) is.kept ∙ kept_more begun piece);
}

-- a line of which nothing was kept
pub received_at_once : (begun prefix piece : Text) → IsPrefixOf begun prefix → HasNoEnd piece
    → length prefix ≡ 0 → IsReceivedOf (begun ++ piece) piece
received_at_once begun prefix piece is free none = record {
  unended = no_end_both begun piece is.unended free;
  is = inl (sym (ap (λ t. t ++ piece) (nothing_begun begun prefix is none)));
}

-- a line goes on after a piece that ends one
pub next_line : (begun rest piece after : Text) → rest ≡ piece ++ 10 ∷ after
    → begun ++ rest ≡ ended (begun ++ piece) ++ after
next_line begun rest piece after e =
    ap (λ t. begun ++ t) (e ∙ sym (append_assoc piece (10 ∷ []) after))
    ∙ sym (append_assoc begun (piece ++ 10 ∷ []) after)
    ∙ ap (λ t. t ++ after) (sym (append_assoc begun piece (10 ∷ [])))
