-- The text of an item, read as a session file of one line.
use Rattle.std.proofs.Common.{◌≡◌, ℕ, Bool, true, false, not, List, [], ◌∷◌, refl, sym, subst, ◌∙◌, arith, ◌==◌}
use Rattle.std.specs.List.{AllByRecursion}
use Rattle.std.proofs.lemmas.Bool.Decides.{nat_tests}
use Rattle.std.proofs.lemmas.List.Elements.{All-from_recursion}
use Rattle.std.proofs.lemmas.List.Splits.{slice_split_none}
use Rattle.redodb_model.specs.Names.{Text}
use Rattle.redodb_model.specs.Command.{Command, Item, Ood}
use Rattle.redodb_text.specs.Texts.{command_text_of, with_guard, item_text_of}
use Rattle.redodb_text.specs.Grammar.{HasForm, IsShort, IsItemLine, AddsNames, is_skipped, lines_of, AreItemLines, AreScriptLines, IsScript}
use Rattle.redodb_text.specs.Questions.{is_text_byte, has_bad_byte}
use Rattle.redodb_text.proofs.Guards.{guard_is_text, guard_is_longer}
use Rattle.redodb_text.proofs.LineLaws.{text_is_spelled, command_is_text}
use Rattle.redodb_text.proofs.ScriptLaws.{filter_one}
use Rattle.redodb_text.proofs.Steps.{neither}

-- the text of an item is its line
item_says : (item : Item Text) → HasForm item.command → IsShort (item_text_of item)
    → IsItemLine (item_text_of item) item
item_says item form short =
    let longer = guard_is_longer item.guarded (command_text_of item.command) in
    record {
      short = short;
      said = command_text_of item.command;
      guard = refl;
      command = (form, omega (arith, longer, short), text_is_spelled item.command form);
    }

command_not_skipped : (command : Command Text) → is_skipped (command_text_of command) ≡ false
command_not_skipped Ood = refl
command_not_skipped command = refl

not_skipped : (guarded : Bool) (command : Command Text)
    → is_skipped (with_guard guarded (command_text_of command)) ≡ false
not_skipped true command = refl
not_skipped false command = command_not_skipped command

no_line_feed : (b : ℕ) → not (is_text_byte b) ≡ false → (b == 10) ≡ false
no_line_feed b h = grind (arith, nat_tests)

-- a text of good bytes is one line
good_bytes : (text : Text) → has_bad_byte text ≡ false
    → AllByRecursion (λ b. (b == 10) ≡ false) text
good_bytes [] good = tt
good_bytes (b ∷ bs) good =
    let each = neither (not (is_text_byte b)) (has_bad_byte bs) good in
    (no_line_feed b each.0, good_bytes bs each.1)

one_line : (text : Text) → has_bad_byte text ≡ false → lines_of text ≡ text ∷ []
one_line text good =
    slice_split_none (λ b. b == 10) text
    (All-from_recursion (λ b. (b == 10) ≡ false) text (good_bytes text good))

pub line_reads_back : (names : List Text) (item : Item Text) (after : List Text)
    → HasForm item.command → IsShort (item_text_of item)
    → AddsNames 65536 names (item.command ∷ []) after
    → IsScript names (item_text_of item) (item ∷ []) after
line_reads_back names item after form short adds =
    let text = item_text_of item in
    let good : has_bad_byte text ≡ false =
    guard_is_text item.guarded (command_text_of item.command) ∙ command_is_text item.command form in
    subst (λ (lines : List Text). AreScriptLines names lines (item ∷ []) after)
    (sym (one_line text good)) (record {
      short = (short, tt);
      said = subst (λ (l : List Text). AreItemLines l (item ∷ []))
          (sym (filter_one text false (not_skipped item.guarded item.command)))
          (item_says item form short, tt);
      few = omega arith;
      named = adds;
    })
