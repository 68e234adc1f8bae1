-- The guards of lines: what a line says after its guard, and that it has no other.
use Rattle.std.proofs.Common.{◌≡◌, ◌≤◌, Bool, true, false, cond, ◌&&◌, List, [], ◌∷◌, length, drop, Some, Ok, refl, sym, ap, subst, ◌∙◌, arith, eqb}
use Rattle.std.proofs.lemmas.Bool.{eqb-true, le-ltb, ltb-false}
use Rattle.redodb_model.specs.Names.{Text}
use Rattle.redodb_model.specs.Command.{Command, Item, Stamp}
use Rattle.redodb_text.specs.Texts.{with_guard}
use Rattle.redodb_text.specs.Grammar.{IsSpelled, IsItemLine, AddsNames}
use Rattle.redodb_text.specs.declared.fault.LineFault.TheVariants.{LineTooLong, BadByte}
use Rattle.redodb_text.specs.Questions.{first_yes, word_list_questions, words_of, has_bad_byte, is_too_long, is_guarded, unguarded, line_fault}
use Rattle.redodb_text.specs.Support.Reading.{line_in, item_in}
use Rattle.redodb_text.proofs.LineLaws.{line_found, line_only}

-- a line is what it says after its guard, and the guard before it
pub with_its_guard : (line : Text) → line ≡ with_guard (is_guarded line) (unguarded line)
with_its_guard (b ∷ c ∷ bs) = by (eqb b 63) (eqb c 32) refl refl
  where
    by : (x y : Bool) → eqb b 63 ≡ x → eqb c 32 ≡ y
        → b ∷ c ∷ bs ≡ with_guard (x && y) (cond (x && y) bs (b ∷ c ∷ bs))
    by true true e f =
        let first : b ≡ 63 = eqb-true b 63 e in
        let second : c ≡ 32 = eqb-true c 32 f in
        λ i. first i ∷ second i ∷ bs
    by true false e f = refl
    by false y e f = refl
with_its_guard text = refl

-- the bytes of a guard are text
pub guard_is_text : (guarded : Bool) (text : Text)
    → has_bad_byte (with_guard guarded text) ≡ has_bad_byte text
guard_is_text true text = refl
guard_is_text false text = refl

same_bytes : (line : Text) → has_bad_byte (unguarded line) ≡ has_bad_byte line
same_bytes line =
    sym (ap has_bad_byte (with_its_guard line)
    ∙ guard_is_text (is_guarded line) (unguarded line))

pub guard_is_longer : (guarded : Bool) (text : Text)
    → length text ≤ length (with_guard guarded text)
guard_is_longer true text = omega arith
guard_is_longer false text = omega arith

not_longer : (line : Text) → length (unguarded line) ≤ length line
not_longer line =
    subst (λ (l : Text). length (unguarded line) ≤ length l) (sym (with_its_guard line))
    (guard_is_longer (is_guarded line) (unguarded line))

-- the questions about what follows a line's guard are those about the line
pub asked_unguarded : (names : List Text) (line : Text) → is_too_long line ≡ false
    → line_fault 65536 names (unguarded line) ≡ first_yes ((has_bad_byte line, BadByte)
    ∷ word_list_questions 65536 names (words_of (unguarded line)))
unfolding line_fault
asked_unguarded names line short =
    let fits : is_too_long (unguarded line) ≡ false =
    le-ltb 8192 (length (unguarded line))
    (omega (arith, ltb-false 8192 (length line) short, not_longer line)) in
    let words = word_list_questions 65536 names (words_of (unguarded line)) in
    λ i. cond (fits i) (Some LineTooLong) (first_yes ((same_bytes line i, BadByte) ∷ words))

-- a command's line begins with none
no_guard : (line : Text) (command : Command Text) → IsSpelled line command
    → is_guarded line ≡ false
no_guard line (Stamp t content) spelled = ap is_guarded spelled.1
no_guard line command spelled = ap is_guarded spelled

guard_off : (guarded : Bool) (text : Text) → is_guarded text ≡ false
    → (is_guarded (with_guard guarded text) ≡ guarded)
    × (unguarded (with_guard guarded text) ≡ text)
guard_off true text none = (refl, refl)
guard_off false text none = (none, ap (λ (b : Bool). cond b (drop 2 text) text) none)

-- what is read after a line's guard is what the line says
pub item_found : (names : List Text) (line : Text) (command : Command Text) (after : List Text)
    → length names ≤ 65536 → length line ≤ 8192
    → line_in 65536 names (unguarded line) ≡ Ok (command, after)
    → IsItemLine line (item_in line command) × AddsNames 65536 names (command ∷ []) after
item_found names line command after few short e =
    let found = line_found names (unguarded line) command after few e in (
      record {
        short = short;
        said = unguarded line;
        guard = with_its_guard line;
        command = found.0;
      },
      found.1,
    )

-- what a line says is read after its guard
pub item_only : (names : List Text) (line : Text) (item : Item Text) (after : List Text)
    → length names ≤ 65536 → IsItemLine line item → AddsNames 65536 names (item.command ∷ []) after
    → (line_in 65536 names (unguarded line) ≡ Ok (item.command, after))
    × (item_in line item.command ≡ item)
item_only names line item after few is adds =
    let off = guard_off item.guarded is.said (no_guard is.said item.command is.command.2) in
    let guarded : is_guarded line ≡ item.guarded = ap is_guarded is.guard ∙ off.0 in
    let said : unguarded line ≡ is.said = ap unguarded is.guard ∙ off.1 in (
      ap (line_in 65536 names) said
          ∙ line_only names is.said item.command after few is.command adds,
      λ i. record { guarded = guarded i; command = item.command },
    )
