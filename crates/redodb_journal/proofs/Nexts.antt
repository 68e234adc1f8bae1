-- How the next line is found: line by line, after the last entry.
use Rattle.std.proofs.Common.{◌≡◌, ℕ, suc, ◌+◌, ◌-◌, ◌<◌, ◌≤◌, Bool, true, false, not, ◌||◌, cond, List, [], ◌∷◌, ◌++◌, length, map, drop, get_or, slice_get, Option, Some, None, refl, sym, ap, ◌∙◌, subst, arith}
use Rattle.std.proofs.Math.Seq.{drop-cons}
use Rattle.std.proofs.lemmas.List.{length-map, map_push, drop_all, get_or-map}
use Rattle.std.proofs.lemmas.Option.{slice_get-get_or, none-some}
use Rattle.redodb_model.specs.Command as commands
use Rattle.redodb_model.specs.Command.{Ood, commands_in}
use Rattle.redodb_model.specs.Placed.{PlacedLine}
use Rattle.redodb_model.specs.Reply.{lets_through}
use Rattle.redodb_model.specs.Journals.{Numbered, first_from, next_line_of, closing_number}
use Rattle.redodb_model.proofs.Nexts.{next_line_of_more}
use Rattle.redodb_commands.specs.Meaning.{command_of, reply_of}
use Rattle.redodb_commands.specs.Support.Meaning.{item_of}
use Rattle.redodb_commands.specs.declared.script.Item.{Item}
use Rattle.redodb_journal.specs.declared.entry.Entry.{Entry}
use Rattle.redodb_journal.specs.Journals.{line_told, lines_told}
use Rattle.redodb_journal.specs.Numbers.{numbered_in}

abbrev pub first_at : List Item → Bool → ℕ → Option (Numbered ℕ)
first_at script through at = first_from through at (drop at (map item_of script))

module _ (script : List Item) (through : Bool) (at : ℕ) (item : Item) (within : at < length script)
    (is : item ≡ get_or script at item) where
  long : at < length (map item_of script)
  long = let same = length-map script item_of in omega arith

  stands : get_or (map item_of script) at (item_of item) ≡ item_of item
  stands = get_or-map item_of script at item (item_of item) within ∙ ap item_of (sym is)

  pub asked : get_or (commands_in (map item_of script)) at Ood ≡ command_of item.command
  asked =
      get_or-map (λ (x : commands.Item ℕ). x.command) (map item_of script) at (item_of item) Ood
      long
      ∙ ap (λ (x : commands.Item ℕ). x.command) stands

  left : drop at (map item_of script) ≡ item_of item ∷ drop (at + 1) (map item_of script)
  left =
      let next : suc at ≡ at + 1 = omega arith in
      drop-cons (map item_of script) at (item_of item) long
      ∙ (λ i. stands i ∷ drop (next i) (map item_of script))

  -- the line at this place is done
  done_in : (through || not item.guarded) ≡ true
      → first_at script through at ≡ Some (numbered_in (map item_of script) at)
  done_in done =
      let found : Numbered ℕ = record { number = at; command = command_of item.command } in
      ap (first_from through at) left
      ∙ ap (λ (b : Bool). cond b (Some found) (first_at script through (at + 1))) done
      ∙ ap (λ (x : commands.Command ℕ). Some (record { number = at; command = x })) (sym asked)

  -- or it is skipped
  passed_in : (through || not item.guarded) ≡ false
      → first_at script through at ≡ first_at script through (at + 1)
  passed_in passed =
      let found : Numbered ℕ = record { number = at; command = command_of item.command } in
      ap (first_from through at) left
      ∙ ap (λ (b : Bool). cond b (Some found) (first_at script through (at + 1))) passed

-- the same for a list that equals the script
module _ (items script : List Item) (same : items ≡ script) (through : Bool) (at : ℕ) where
  pub done_here : (item : Item) → at < length items → item ≡ get_or items at item
      → (through || not item.guarded) ≡ true
      → first_at script through at ≡ Some (numbered_in (map item_of script) at)
  done_here item within is done =
      subst (λ xs. first_at xs through at ≡ Some (numbered_in (map item_of xs) at)) same
      (done_in items through at item within is done)

  pub passed_here : (item : Item) → at < length items → item ≡ get_or items at item
      → (through || not item.guarded) ≡ false
      → first_at script through (at + 1) ≡ first_at script through at
  passed_here item within is passed =
      subst (λ xs. first_at xs through (at + 1) ≡ first_at xs through at) same
      (sym (passed_in items through at item within is passed))

  pub none_past : length items ≤ at → first_at script through at ≡ None
  none_past past =
      let long = length-map script item_of in
      let long_too = ap length same in
      ap (first_from through at) (drop_all at (map item_of script) (omega arith))

-- entries that have a last one end with it
last_is : (entries : List Entry) (last : Entry) → slice_get entries (length entries - 1) ≡ Some last
    → (before : List Entry) × (entries ≡ before ++ last ∷ [])
last_is [] last got = absurd (none-some _ got)
last_is (x ∷ []) last got = let same : x ≡ last = cc in ([], λ i. same i ∷ [])
last_is (x ∷ y ∷ ys) last got =
    let e : length (x ∷ y ∷ ys) - 1 ≡ suc (length (y ∷ ys) - 1) = omega arith in
    let rest = last_is (y ∷ ys) last (subst (λ k. slice_get (x ∷ y ∷ ys) k ≡ Some last) e got) in
    (x ∷ rest.0, λ i. x ∷ rest.1 i)

none_is : (entries : List Entry) → slice_get entries (length entries - 1) ≡ None → entries ≡ []
none_is [] none = refl
none_is (x ∷ xs) none =
    let there = slice_get-get_or (x ∷ xs) (length (x ∷ xs) - 1) x (omega arith) in
    absurd (none-some _ (sym none ∙ there))

-- the number of a closing command after a line
pub closing_number_more : (script : List (commands.Item ℕ)) (before : List (PlacedLine ℕ))
    (line : PlacedLine ℕ)
    → closing_number script (before ++ line ∷ [])
    ≡ length script + (line.number + 1 - length script)
closing_number_more script [] line = refl
closing_number_more script (first ∷ []) line = refl
closing_number_more script (first ∷ second ∷ before) line =
    closing_number_more script (second ∷ before) line

module _ (s : ℕ) (script : List Item) (entries : List Entry) where
  ends_with : (last : Entry) → slice_get entries (length entries - 1) ≡ Some last
      → (before : List (PlacedLine ℕ))
      × (lines_told s (map item_of script) entries
      ≡ before ++ line_told s (map item_of script) last ∷ [])
  ends_with last got =
      let told = line_told s (map item_of script) in
      let ends = last_is entries last got in
      (map told ends.0, ap (map told) ends.1 ∙ map_push told ends.0 last)

  -- the script's line after the last entry
  pub line_after : (last : Entry) → slice_get entries (length entries - 1) ≡ Some last
      → next_line_of (map item_of script) (lines_told s (map item_of script) entries)
      ≡ first_at script (lets_through (reply_of last.reply)) (last.number + 1)
  line_after last got =
      let ends = ends_with last got in
      ap (next_line_of (map item_of script)) ends.1
      ∙ next_line_of_more (map item_of script) ends.0 (line_told s (map item_of script) last)

  -- if there is none
  pub line_at_first : slice_get entries (length entries - 1) ≡ None
      → next_line_of (map item_of script) (lines_told s (map item_of script) entries)
      ≡ first_at script true 0
  line_at_first none =
      ap (λ es. next_line_of (map item_of script) (lines_told s (map item_of script) es))
      (none_is entries none)

  -- the number of a closing command after the last entry
  pub number_after : (last : Entry) → slice_get entries (length entries - 1) ≡ Some last
      → closing_number (map item_of script) (lines_told s (map item_of script) entries)
      ≡ length script + (last.number + 1 - length script)
  number_after last got =
      let ends = ends_with last got in
      ap (closing_number (map item_of script)) ends.1
      ∙ closing_number_more (map item_of script) ends.0 (line_told s (map item_of script) last)
      ∙ ap (λ n. n + (last.number + 1 - n)) (length-map script item_of)

  -- if there is none
  pub number_at_first : slice_get entries (length entries - 1) ≡ None
      → closing_number (map item_of script) (lines_told s (map item_of script) entries)
      ≡ length script
  number_at_first none =
      ap (λ es. closing_number (map item_of script) (lines_told s (map item_of script) es))
      (none_is entries none)
      ∙ length-map script item_of
