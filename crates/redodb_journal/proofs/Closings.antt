-- The least of the held names, and its closing command.
use Rattle.std.proofs.Common.{◌≡◌, ℕ, suc, ◌+◌, ◌<◌, Bool, true, false, cond, List, [], ◌∷◌, length, map, drop, get_or, filter, All, Option, Some, None, refl, sym, ap, ◌∙◌, subst, arith}
use Rattle.std.proofs.Math.Seq.{drop-cons}
use Rattle.std.specs.Option.{option_map}
use Rattle.std.specs.List.{AllByRecursion, filter_map, cons_option}
use Rattle.std.proofs.lemmas.List.Elements.{recursion_from_All}
use Rattle.redodb_model.specs.Names.{Text, Naming, by_text}
use Rattle.redodb_model.specs.Command as commands
use Rattle.redodb_model.specs.Command.{Unlock, Failed, asked_lock}
use Rattle.redodb_model.specs.Renaming.{IsBelow, AllBelow}
use Rattle.redodb_model.specs.History.{Line}
use Rattle.redodb_model.specs.Placed.{line_of}
use Rattle.redodb_model.specs.Closing.{holds, lesser_of, least, held_in, letting_go, closing_of}
use Rattle.redodb_model.proofs.ClosingBelow.{AllAskBelow, locks_below, closing_below}
use Rattle.redodb_journal.specs.declared.entry.Entry.{Entry}
use Rattle.redodb_journal.specs.declared.holds.Hold.{Hold}
use Rattle.redodb_journal.specs.Journals.{command_told, lines_told}
use Rattle.redodb_journal.specs.Holds.{Says, hold_at}
use Rattle.redodb_journal.specs.Support.Holds.{is_held, locked_in, lesser_held}

-- one name more at the beginning
module _ (naming : Naming ℕ) (holds : List Hold) where
  least_more : (o : Option ℕ) (rest : List ℕ)
      → lesser_held naming holds o (least naming (filter (is_held holds) rest))
      ≡ least naming (filter (is_held holds) (cons_option o rest))
  least_more None rest = refl
  least_more (Some t) rest = at (is_held holds t)
    where
      at : (b : Bool)
          → cond b (Some (lesser_of naming t (least naming (filter (is_held holds) rest))))
          (least naming (filter (is_held holds) rest))
          ≡ least naming (cond b (t ∷ filter (is_held holds) rest) (filter (is_held holds) rest))
      at true = refl
      at false = refl

  pub least_from : (script : List (commands.Item ℕ)) (entries : List Entry) (at : ℕ)
      (entry : Entry) (least_so_far : Option ℕ) → at < length entries
      → entry ≡ get_or entries at entry
      → least_so_far
      ≡ least naming (filter (is_held holds) (locked_in script (drop (at + 1) entries)))
      → lesser_held naming holds (asked_lock (command_told script entry)) least_so_far
      ≡ least naming (filter (is_held holds) (locked_in script (drop at entries)))
  least_from script entries at entry so_far within is e =
      let next : suc at ≡ at + 1 = omega arith in
      let left : drop at entries ≡ entry ∷ drop (at + 1) entries =
      drop-cons entries at entry within ∙ (λ i. sym is i ∷ drop (next i) entries) in
      let asked = asked_lock (command_told script entry) in
      ap (lesser_held naming holds asked) e
      ∙ least_more asked (locked_in script (drop (at + 1) entries))
      ∙ ap (λ es. least naming (filter (is_held holds) (locked_in script es))) (sym left)

-- the table says which of the locked names are held
filter_alike : (p q : ℕ → Bool) (n : ℕ) (names : List ℕ) → AllBelow n names
    → ((t : ℕ) → t < n → p t ≡ q t) → filter p names ≡ filter q names
filter_alike p q n [] below same = refl
filter_alike p q n (t ∷ names) below same =
    let rest = filter_alike p q n names below.1 same in
    λ i. cond (same t below.0 i) (t ∷ rest i) (rest i)

abbrev pub TellsBelow : ℕ → List (commands.Item ℕ) → List Entry → Type 0
TellsBelow n script entries =
    AllByRecursion (λ entry. IsBelow n (command_told script entry)) entries

locked_told : (s : ℕ) (script : List (commands.Item ℕ)) (entries : List Entry)
    → filter_map (λ (line : Line ℕ). asked_lock line.command)
    (map line_of (lines_told s script entries))
    ≡ locked_in script entries
locked_told s script [] = refl
locked_told s script (entry ∷ entries) =
    ap (cons_option (asked_lock (command_told script entry))) (locked_told s script entries)

-- the lines of entries are over the names of the entries
lines_below : (n s : ℕ) (script : List (commands.Item ℕ)) (entries : List Entry)
    → TellsBelow n script entries → AllAskBelow n (map line_of (lines_told s script entries))
lines_below n s script [] below = tt
lines_below n s script (entry ∷ entries) below = (below.0, lines_below n s script entries below.1)

module _ (names : List Text) (table : List Hold) (s : ℕ) (script : List (commands.Item ℕ))
    (entries : List Entry)
    (says : Says names table (map line_of (lines_told s script entries)))
    (below : All (λ entry. IsBelow (length names) (command_told script entry)) entries) where
  abbrev own : List (Line ℕ)
  own = map line_of (lines_told s script entries)

  held_told : filter (is_held table) (locked_in script entries) ≡ held_in (by_text names) own
  held_told =
      filter_alike (is_held table) (holds (by_text names) own) (length names)
      (locked_in script entries)
      (subst (AllBelow (length names)) (locked_told s script entries)
      (locks_below (length names) own
      (lines_below (length names) s script entries (recursion_from_All _ entries below))))
      says.held
      ∙ ap (filter (holds (by_text names) own)) (sym (locked_told s script entries))

  -- nothing is held
  pub no_closing : None ≡ least (by_text names) (filter (is_held table) (locked_in script entries))
      → closing_of (by_text names) own ≡ None
  no_closing e =
      ap (option_map (letting_go (by_text names) own))
      (ap (least (by_text names)) (sym held_told) ∙ sym e)

  -- the closing command is about the least of the held names
  pub closing_told : (name : ℕ) → name < length names
      → Some name ≡ least (by_text names) (filter (is_held table) (locked_in script entries))
      → closing_of (by_text names) own
      ≡ Some (cond (hold_at table name).building (Failed name) (Unlock name))
  closing_told name within e =
      ap (option_map (letting_go (by_text names) own))
      (ap (least (by_text names)) (sym held_told) ∙ sym e)
      ∙ ap (λ (b : Bool). Some (cond b (Failed name) (Unlock name)))
      (sym (says.building name within))

-- a closing command is over the names of the entries before it
pub closing_told_below : (naming : Naming ℕ) (n s : ℕ) (script : List (commands.Item ℕ))
    (entries : List Entry) (command : commands.Command ℕ) → TellsBelow n script entries
    → closing_of naming (map line_of (lines_told s script entries)) ≡ Some command
    → IsBelow n command
closing_told_below naming n s script entries command below =
    closing_below n naming (map line_of (lines_told s script entries)) command
    (lines_below n s script entries below)
