-- What is printed of one session: one line more, and at the end all of it.
use Rattle.std.proofs.Common.{◌≡◌, ℕ, ◌+◌, ◌<◌, ◌≤◌, Bool, true, false, not, ◌||◌, cond, List, [], ◌∷◌, ◌++◌, refl, sym, ap, ◌∙◌, map, drop, get_or, length, arith, append_assoc, length-append, length-drop}
use Rattle.std.specs.List.{flat_map}
use Rattle.std.proofs.lemmas.Grind.{flat_map-append}
use Rattle.std.proofs.lemmas.List.{drop_more, drop-map, length-map, flat_map_more}
use Rattle.std.proofs.Math.ListN.{drop_of_length-le}
use Rattle.redodb_model.specs.Names.{Text}
use Rattle.redodb_model.specs.Command as model
use Rattle.redodb_model.specs.Reply.{lets_through}
use Rattle.redodb_model.specs.History.{Line}
use Rattle.redodb_commands.specs.Support.Meaning.{item_at}
use Rattle.redodb_commands.specs.declared.script.Item.{Item}
use Rattle.redodb_history.specs.Histories.{ended, answer_text_of}
use Rattle.redodb_run.specs.RunTexts.{done_text_of, skipped_text_of, session_lines_of, session_header_of, session_text_of}
use Rattle.redodb_run.specs.Support.Printed.{skipped_lines_of, IsBlank, left_of, IsPrinted}
use Rattle.redodb_run.specs.declared.part.Part.{Part}

-- the script's line at a place, and those after it
pub from_item : (names : List Text) (items : List Item) (i : ℕ) (item : Item) → i < length items
    → item ≡ get_or items i item
    → drop i (map (item_at names) items)
    ≡ item_at names item ∷ drop (i + 1) (map (item_at names) items)
from_item names items i item less is =
    drop-map (item_at names) i items
    ∙ ap (map (item_at names)) (drop_more items i item less)
    ∙ ap (λ (x : Item). item_at names x ∷ map (item_at names) (drop (i + 1) items)) (sym is)
    ∙ ap (λ (xs : List (model.Item Text)). item_at names item ∷ xs)
    (sym (drop-map (item_at names) (i + 1) items))

module _ (script : List (model.Item Text)) (through : Bool) (i : ℕ) (line : Line Text)
    (later : List (Line Text)) where
  module _ (item : model.Item Text) (is : drop i script ≡ item ∷ drop (i + 1) script) where
    abbrev rest : List (model.Item Text)
    rest = drop (i + 1) script

    by_guard : (b : Bool) → (through || not item.guarded) ≡ b
        → session_lines_of through (drop i script) (line ∷ later)
        ≡ cond b
        (done_text_of item line.reply ∷ session_lines_of (lets_through line.reply) rest later)
        (skipped_text_of item ∷ session_lines_of through rest (line ∷ later))
    by_guard b same =
        ap (λ (xs : List (model.Item Text)). session_lines_of through xs (line ∷ later)) is
        ∙ ap (λ (b : Bool). cond b
        (done_text_of item line.reply ∷ session_lines_of (lets_through line.reply) rest later)
        (skipped_text_of item ∷ session_lines_of through rest (line ∷ later))) same

  -- the line is past the script
  closing_line : (b : Bool) → length script ≤ i
      → session_lines_of through (drop i script) (line ∷ later)
      ≡ answer_text_of line ∷ session_lines_of b (drop i script) later
  closing_line b past =
      let none = drop_of_length-le script past in
      ap (λ (xs : List (model.Item Text)). session_lines_of through xs (line ∷ later)) none
      ∙ ap (λ (xs : List (model.Item Text)). answer_text_of line ∷ session_lines_of b xs later)
      (sym none)

-- no line of the session follows
pub none_done : (through : Bool) (script : List (model.Item Text))
    → session_lines_of through script [] ≡ skipped_lines_of script
none_done through [] = refl
none_done through (item ∷ script) =
    ap (λ (ls : List Text). skipped_text_of item ∷ ls) (none_done through script)

module _ (script : List (model.Item Text)) (all : List Text) where
  -- nothing is printed yet
  pub blank_printed : (part : Part) (lines : List (Line Text)) → IsBlank part
      → all ≡ session_lines_of true script lines → IsPrinted script all part lines
  blank_printed part lines blank same = record {
    printed = [];
    parted = same
        ∙ (λ k. session_lines_of (sym blank.through k) (drop (sym blank.next k) script) lines);
    shown = blank.body;
    counted =
        omega (arith, blank.next, blank.closing);
    within =
        let first = blank.next in
        omega arith;
  }

  module _ (old new : Part) (more : Text)
      (shows : new.body.items ≡ old.body.items ++ ended more) where
    -- one line more is printed
    one_printed : (before after : List (Line Text)) → IsPrinted script all old before
        → left_of script old before ≡ more ∷ left_of script new after
        → new.next + new.closing ≡ old.next + old.closing + 1 → new.next ≤ length script
        → IsPrinted script all new after
    one_printed before after are first counts within = record {
      printed = are.printed ++ more ∷ [];
      parted = are.parted ∙ ap (λ (ls : List Text). are.printed ++ ls) first
          ∙ sym (append_assoc are.printed (more ∷ []) (left_of script new after));
      shown = shows ∙ ap (λ (t : Text). t ++ ended more) are.shown
          ∙ flat_map_more ended [] are.printed more;
      counted =
          omega (arith, length-append are.printed (more ∷ []), are.counted);
      within = within;
    }

  module _ (old new : Part) (line : Line Text) (later : List (Line Text))
      (are : IsPrinted script all old (line ∷ later)) where
    module _ (i : ℕ) (at : old.next ≡ i) (item : model.Item Text)
        (is : drop i script ≡ item ∷ drop (i + 1) script) (less : i < length script)
        (next : new.next ≡ i + 1) (closing : new.closing ≡ old.closing) where
      by_item : (b : Bool) → (old.through || not item.guarded) ≡ b
          → left_of script old (line ∷ later)
          ≡ cond b (done_text_of item line.reply
          ∷ session_lines_of (lets_through line.reply) (drop (i + 1) script) later)
          (skipped_text_of item ∷ session_lines_of old.through (drop (i + 1) script) (line ∷ later))
      by_item b same =
          (λ k. session_lines_of old.through (drop (at k) script) (line ∷ later))
          ∙ by_guard script old.through i line later item is b same

      -- a line that was not done
      pub skipped_printed : new.body.items ≡ old.body.items ++ ended (skipped_text_of item)
          → new.through ≡ old.through → (old.through || not item.guarded) ≡ false
          → IsPrinted script all new (line ∷ later)
      skipped_printed shows through stopped =
          one_printed old new (skipped_text_of item) shows (line ∷ later) (line ∷ later) are
          (by_item false stopped ∙ (λ k. skipped_text_of item
          ∷ session_lines_of (sym through k) (drop (sym next k) script) (line ∷ later)))
          (omega arith) (omega arith)

      -- a line with its reply
      pub done_printed : new.body.items ≡ old.body.items ++ ended (done_text_of item line.reply)
          → new.through ≡ lets_through line.reply → (old.through || not item.guarded) ≡ true
          → IsPrinted script all new later
      done_printed shows through goes =
          one_printed old new (done_text_of item line.reply) shows (line ∷ later) later are
          (by_item true goes ∙ (λ k. done_text_of item line.reply
          ∷ session_lines_of (sym through k) (drop (sym next k) script) later))
          (omega arith) (omega arith)

    -- a closing line
    pub closing_printed : length script ≤ old.next → new.next ≡ old.next
        → new.closing ≡ old.closing + 1
        → new.body.items ≡ old.body.items ++ ended (answer_text_of line)
        → IsPrinted script all new later
    closing_printed past next closing shows =
        let within = are.within in
        one_printed old new (answer_text_of line) shows (line ∷ later) later are
        (closing_line script old.through old.next line later new.through past
        ∙ (λ k. answer_text_of line
        ∷ session_lines_of new.through (drop (sym next k) script) later))
        (omega arith) (omega arith)

-- the session's text: what is printed, and its lines that were not done
pub session_printed : (before : Text) (s : ℕ) (script : List (model.Item Text))
    (lines : List (Line Text)) (part : Part) (count : ℕ) → count ≡ length script + part.closing
    → IsPrinted script (session_lines_of true script lines) part []
    → before ++ session_header_of s count ++ part.body.items
    ++ flat_map ended (skipped_lines_of (drop part.next script))
    ≡ before ++ session_text_of s script lines
session_printed before s script lines part count counts are =
    let left = skipped_lines_of (drop part.next script) in
    let all = session_lines_of true script lines in
    let parted : all ≡ are.printed ++ left =
    are.parted
    ∙ ap (λ (ls : List Text). are.printed ++ ls) (none_done part.through (drop part.next script)) in
    let long : count ≡ length all =
    let counted = are.counted in
    let within = are.within in
    let both = ap length parted ∙ length-append are.printed left in
    let some = length-map (drop part.next script) skipped_text_of in
    let rest = length-drop part.next script in
    omega arith in
    let shown : part.body.items ++ flat_map ended left ≡ flat_map ended all =
    ap (λ (t : Text). t ++ flat_map ended left) are.shown
    ∙ sym (flat_map-append ended are.printed left) ∙ ap (flat_map ended) (sym parted) in
    append_assoc (before ++ session_header_of s count) part.body.items (flat_map ended left)
    ∙ append_assoc before (session_header_of s count) (part.body.items ++ flat_map ended left)
    ∙ (λ k. before ++ (session_header_of s (long k) ++ shown k))
