-- Journals under other names.
use Rattle.std.proofs.Common.{◌≡◌, ℕ, ◌+◌, ◌-◌, Bool, true, false, not, ◌||◌, cond, List, [], ◌∷◌, ◌++◌, map, drop, option_map, Option, Some, None, refl, ap, ◌∙◌, subst}
use Rattle.std.proofs.lemmas.List.{drop-map, length-map, map_push}
use Rattle.std.specs.List.{AllByRecursion}
use Rattle.std.specs.Option.{option_or}
use Rattle.std.specs.declared.cmp.Ordering.{Ordering}
use Rattle.redodb_model.specs.Names.{Naming, numbers}
use Rattle.redodb_model.specs.Command.{Command, Item}
use Rattle.redodb_model.specs.Reply.{Reply, Okay, lets_through}
use Rattle.redodb_model.specs.Placed.{PlacedLine, line_of}
use Rattle.redodb_model.specs.Closing.{closing_of}
use Rattle.redodb_model.specs.Journals.{Numbered, first_from, next_line_of, closing_number, closing_after, next_of, IsJournalAfter, IsJournal, IsWholeJournal}
use Rattle.redodb_model.specs.Support.Names.{IsNaming}
use Rattle.redodb_model.specs.Support.Renaming.{Renaming, IsRenaming, OrdersAlike}
use Rattle.redodb_model.specs.Renaming.{named_command, named_item, named_line, named_reply, IsBelow}
use Rattle.redodb_model.proofs.ClosingByName.{closing_by_name}
use Rattle.redodb_history_laws.specs.Named.{named_placed_line}

module _ {N M : Type 0} (name : N → M) where
  abbrev named_next : Numbered N → Numbered M
  named_next next = record { number = next.number; command = named_command name next.command }

  lets_through_named : (reply : Reply N)
      → lets_through (named_reply name reply) ≡ lets_through reply
  lets_through_named Okay = refl
  lets_through_named reply = refl

  found_named : (done : Bool) (here : ℕ) (item : Item N)
      (over : Option (Numbered M)) (rest : Option (Numbered N))
      → over ≡ option_map named_next rest
      → cond done (Some (record { number = here; command = named_command name item.command })) over
      ≡ option_map named_next
      (cond done (Some (record { number = here; command = item.command })) rest)
  found_named true here item over rest e = refl
  found_named false here item over rest e = e

  first_named : (through : Bool) (here : ℕ) (items : List (Item N))
      → first_from through here (map (named_item name) items)
      ≡ option_map named_next (first_from through here items)
  first_named through here [] = refl
  first_named through here (item ∷ items) =
      found_named (through || not item.guarded) here item
      (first_from through (here + 1) (map (named_item name) items))
      (first_from through (here + 1) items)
      (first_named through (here + 1) items)

  -- the next line of a script
  next_line_named : (script : List (Item N)) (own : List (PlacedLine N))
      → next_line_of (map (named_item name) script) (map (named_placed_line name) own)
      ≡ option_map named_next (next_line_of script own)
  next_line_named script [] = first_named true 0 script
  next_line_named script (line ∷ []) =
      let here : ℕ = line.number + 1 in
      ap (λ through. first_from through here (drop here (map (named_item name) script)))
      (lets_through_named line.reply)
      ∙ ap (first_from (lets_through line.reply) here) (drop-map (named_item name) here script)
      ∙ first_named (lets_through line.reply) here (drop here script)
  next_line_named script (line ∷ second ∷ lines) = next_line_named script (second ∷ lines)

  -- the number of a closing command
  closing_number_named : (script : List (Item N)) (own : List (PlacedLine N))
      → closing_number (map (named_item name) script) (map (named_placed_line name) own)
      ≡ closing_number script own
  closing_number_named script [] = length-map script (named_item name)
  closing_number_named script (line ∷ []) =
      ap (λ n. n + (line.number + 1 - n)) (length-map script (named_item name))
  closing_number_named script (line ∷ second ∷ lines) =
      closing_number_named script (second ∷ lines)

  after_named : (script : List (Item N)) (own : List (PlacedLine N)) (o : Option (Command N))
      → option_map (closing_after (map (named_item name) script) (map (named_placed_line name) own))
      (option_map (named_command name) o)
      ≡ option_map named_next (option_map (closing_after script own) o)
  after_named script own None = refl
  after_named script own (Some command) =
      ap (λ n. Some (record { number = n; command = named_command name command }))
      (closing_number_named script own)

  either_named : (one other : Option (Numbered N))
      → option_or (option_map named_next one) (option_map named_next other)
      ≡ option_map named_next (option_or one other)
  either_named None other = refl
  either_named (Some next) other = refl

  lines_named : (own : List (PlacedLine N))
      → map line_of (map (named_placed_line name) own) ≡ map (named_line name) (map line_of own)
  lines_named [] = refl
  lines_named (line ∷ own) = ap (λ xs. named_line name (line_of line) ∷ xs) (lines_named own)

-- the numbers of each command are below n
abbrev pub AskBelow : ℕ → List (PlacedLine ℕ) → Type 0
AskBelow n lines = AllByRecursion (λ line. IsBelow n line.command) lines

ask_lines : (n : ℕ) (lines : List (PlacedLine ℕ)) → AskBelow n lines
    → AllByRecursion (λ line. IsBelow n line.command) (map line_of lines)
ask_lines n [] h = tt
ask_lines n (line ∷ lines) h = (h.0, ask_lines n lines h.1)

ask_more : (n : ℕ) (before : List (PlacedLine ℕ)) (line : PlacedLine ℕ) → AskBelow n before
    → IsBelow n line.command → AskBelow n (before ++ line ∷ [])
ask_more n [] line h below = (below, tt)
ask_more n (first ∷ before) line h below = (h.0, ask_more n before line h.1 below)

module _ {M : Type 0} {to : Renaming M} (law : IsRenaming to) {naming : Naming M}
    (good : IsNaming naming) (order : ℕ → ℕ → Ordering) (alike : OrdersAlike to naming order) where
  next_named : (script : List (Item ℕ)) (own : List (PlacedLine ℕ)) → AskBelow to.count own
      → next_of naming (map (named_item to.name) script) (map (named_placed_line to.name) own)
      ≡ option_map (named_next to.name) (next_of (numbers order) script own)
  next_named script own below =
      let items : List (Item M) = map (named_item to.name) script in
      let lines : List (PlacedLine M) = map (named_placed_line to.name) own in
      let closing : closing_of naming (map line_of lines)
      ≡ option_map (named_command to.name) (closing_of (numbers order) (map line_of own)) =
      ap (closing_of naming) (lines_named to.name own)
      ∙ closing_by_name law good order alike (map line_of own) (ask_lines to.count own below) in
      (λ i. option_or (next_line_named to.name script own i)
      (option_map (closing_after items lines) (closing i)))
      ∙ ap (option_or (option_map (named_next to.name) (next_line_of script own)))
      (after_named to.name script own (closing_of (numbers order) (map line_of own)))
      ∙ either_named to.name (next_line_of script own)
      (option_map (closing_after script own) (closing_of (numbers order) (map line_of own)))

  journal_named : (s : ℕ) (script : List (Item ℕ)) (before lines : List (PlacedLine ℕ))
      → AskBelow to.count before → AskBelow to.count lines
      → IsJournalAfter (numbers order) s script before lines
      → IsJournalAfter naming s (map (named_item to.name) script)
      (map (named_placed_line to.name) before) (map (named_placed_line to.name) lines)
  journal_named s script before [] earlier below h = tt
  journal_named s script before (line ∷ lines) earlier below h = (
    h.0,
    next_named script before earlier ∙ ap (option_map (named_next to.name)) h.1,
    subst
        (λ (xs : List (PlacedLine M)). IsJournalAfter naming s (map (named_item to.name) script) xs
        (map (named_placed_line to.name) lines))
        (map_push (named_placed_line to.name) before line)
        (journal_named s script (before ++ line ∷ []) lines
        (ask_more to.count before line earlier below.0) below.1 h.2),
  )

  pub journal_by_name : (s : ℕ) (script : List (Item ℕ)) (lines : List (PlacedLine ℕ))
      → AskBelow to.count lines → IsJournal (numbers order) s script lines
      → IsJournal naming s (map (named_item to.name) script)
      (map (named_placed_line to.name) lines)
  journal_by_name s script lines below h = journal_named s script [] lines tt below h

  pub whole_by_name : (s : ℕ) (script : List (Item ℕ)) (lines : List (PlacedLine ℕ))
      → AskBelow to.count lines → IsWholeJournal (numbers order) s script lines
      → IsWholeJournal naming s (map (named_item to.name) script)
      (map (named_placed_line to.name) lines)
  whole_by_name s script lines below h = (
    journal_by_name s script lines below h.0,
    next_named script lines below ∙ ap (option_map (named_next to.name)) h.1,
  )
