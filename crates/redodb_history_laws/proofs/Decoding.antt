-- Decoding a row word undoes encoding it; what the words of a plan's rows say.
use Rattle.std.proofs.Common.{◌≡◌, ℕ, ◌+◌, ◌-◌, ◌*◌, ◌/◌, ◌%◌, ◌<◌, ◌≤◌, Bool, true, false, cond, eqb, List, length, sym, ap, ◌∙◌, inl, inr, arith}
use Rattle.std.specs.Prelude.{nat_lt}
use Rattle.std.specs.Option.{unwrap_or}
use Rattle.std.proofs.lemmas.Bool.Decides.{Decides-ltb}
use Rattle.std.proofs.lemmas.Bool.{false_from_ne_true}
use Rattle.redodb_model.specs.Names.{Naming}
use Rattle.redodb_model.specs.State.{Records}
use Rattle.redodb_model.specs.Command.{Command, Item, target_of}
use Rattle.redodb_model.specs.Step.{records_after}
use Rattle.redodb_model.specs.Placed.{PlacedLine}
use Rattle.redodb_history_laws.specs.declared.row_word.RowWord.{RowWord}
use Rattle.redodb_history_laws.specs.declared.row_word.RowWord.TheVariants.{Line, Closing}
use Rattle.redodb_history_laws.specs.RowWord.{encoded, line_in, closing_in, decoded, Fits, word_for, after_row}
use Rattle.redodb_history_laws.proofs.Closed.{IsScripted, IsFailing, RowTells}

below_test : (m n : ℕ) → n ≤ m → nat_lt m n ≡ false
below_test m n from =
    false_from_ne_true (nat_lt m n)
    (λ e. let less : m < n = (Decides-ltb m n).0 e in absurd (omega arith))

flag_below : (b : Bool) → cond b 1 0 < 2
flag_below true = omega arith
flag_below false = omega arith

flag_back : (m : ℕ) (b : Bool) → eqb ((1 + 2 * m + cond b 1 0 - 1) % 2) 1 ≡ b
flag_back m true = let e : (1 + 2 * m + 1 - 1) % 2 ≡ 1 = omega arith in ap (λ n. eqb n 1) e
flag_back m false = let e : (1 + 2 * m + 0 - 1) % 2 ≡ 0 = omega arith in ap (λ n. eqb n 1) e

pub line_is : (word : ℕ) → word < 4294967296 → decoded word ≡ line_in (word - 1)
unfolding decoded
line_is word less =
    ap (λ b. cond b (line_in (word - 1)) (closing_in (word - 4294967296)))
    ((Decides-ltb word 4294967296).1 less)

pub closing_is : (word : ℕ) → 4294967296 ≤ word
    → decoded word ≡ closing_in (word - 4294967296)
unfolding decoded
closing_is word from =
    ap (λ b. cond b (line_in (word - 1)) (closing_in (word - 4294967296)))
    (below_test word 4294967296 from)

pub word_some : (row : RowWord) → 0 < encoded row
word_some (Line s n h) = omega arith
word_some (Closing s t) = omega arith

pub undone : (row : RowWord) → Fits row → decoded (encoded row) ≡ row
undone (Line s n h) fits =
    let w : ℕ = 1 + 2 * (4096 * s + n) + cond h 1 0 in
    let few = fits.0 in
    let short = fits.1 in
    let flag = flag_below h in
    let es : (w - 1) / 8192 ≡ s = omega arith in
    let en : (w - 1) / 2 % 4096 ≡ n = omega arith in
    line_is w (omega arith) ∙ (λ i. Line (es i) (en i) (flag_back (4096 * s + n) h i))
undone (Closing s t) below =
    let w : ℕ = 4294967296 + 65536 * s + t in
    let es : (w - 4294967296) / 65536 ≡ s = omega arith in
    let et : (w - 4294967296) % 65536 ≡ t = omega arith in
    closing_is w (omega arith) ∙ (λ i. Closing (es i) (et i))

module _ (plan : ℕ → List (Item ℕ)) (line : PlacedLine ℕ) (held : Bool) where
  abbrev word : ℕ
  word = word_for plan line.session line.number line.command held

  abbrev word_by : Bool → ℕ
  word_by b =
      encoded (cond b (Line line.session line.number held)
      (Closing line.session (unwrap_or (target_of line.command) 0)))

  pub line_decoded : IsScripted plan line → line.session < 64 → length (plan line.session) ≤ 4096
      → decoded word ≡ Line line.session line.number held
  line_decoded is few short =
      let within = is.within in
      ap (λ b. decoded (word_by b))
      ((Decides-ltb line.number (length (plan line.session))).1 within)
      ∙ undone (Line line.session line.number held) (few, omega arith)

  pub closing_decoded : (is : IsFailing plan line) → decoded word ≡ Closing line.session is.target
  closing_decoded is =
      ap (λ b. decoded (word_by b)) (below_test line.number (length (plan line.session)) is.past)
      ∙ ap
      (λ (c : Command ℕ). decoded (encoded (Closing line.session (unwrap_or (target_of c) 0))))
      is.command
      ∙ undone (Closing line.session is.target) is.below

  -- the word of a row gives what the line does
  pub row_says : (naming : Naming ℕ) (records : Records ℕ) → line.session < 64
      → length (plan line.session) ≤ 4096 → RowTells plan line
      → after_row naming plan records (decoded word)
      ≡ records_after naming records line.session held line.command
  row_says naming records few short (inl is) =
      ap (after_row naming plan records) (line_decoded is few short)
      ∙ ap (records_after naming records line.session held) is.command
  row_says naming records few short (inr is) =
      ap (after_row naming plan records) (closing_decoded is)
      ∙ ap (records_after naming records line.session held) (sym is.command)
