-- What a session does next: laws of `next_line_of` and of `next_of`.
use Rattle.std.proofs.Common.{◌≡◌, ◌⊎◌, ℕ, suc, ◌+◌, ◌-◌, ◌<◌, ◌≤◌, Bool, true, false, not, ◌||◌, cond, List, [], ◌∷◌, ◌++◌, length, map, drop, get_or, Option, Some, None, refl, sym, ap, ◌∙◌, subst, arith, inl, inr}
use Rattle.std.specs.Option.{option_or, option_map}
use Rattle.std.proofs.lemmas.List.{get_or-drop, length-drop, drop-map, drop_all}
use Rattle.redodb_model.specs.Names.{Naming}
use Rattle.redodb_model.specs.Command.{Command, Item, Ood, commands_in}
use Rattle.redodb_model.specs.Reply.{lets_through}
use Rattle.redodb_model.specs.Placed.{PlacedLine, line_of}
use Rattle.redodb_model.specs.Closing.{closing_of}
use Rattle.redodb_model.specs.Journals.{Numbered, first_from, next_line_of, closing_number, closing_after, next_of, numbered, IsJournalAfter}

module _ {N : Type 0} where
  -- a command of the script, from this number on
  pub record IsFrom (script : List (Item N)) (here : ℕ) (next : Numbered N) : Type 0 where
    pub from : here ≤ next.number
    pub within : next.number < length script
    pub command : get_or (commands_in script) next.number Ood ≡ next.command

  -- the same for lines that are counted on from here
  record IsAmong (items : List (Item N)) (here : ℕ) (next : Numbered N) : Type 0 where
    pub from : here ≤ next.number
    pub within : next.number < here + length items
    pub command : get_or (commands_in items) (next.number - here) Ood ≡ next.command

  at_head : (item : Item N) (items : List (Item N)) (here : ℕ)
      → IsAmong (item ∷ items) here (record { number = here; command = item.command })
  at_head item items here = record {
    from = omega arith;
    within = omega arith;
    command =
        let e : here - here ≡ 0 = omega arith in
        ap (λ k. get_or (commands_in (item ∷ items)) k Ood) e;
  }

  behind : (item : Item N) (items : List (Item N)) (here : ℕ) (next : Numbered N)
      → IsAmong items (here + 1) next → IsAmong (item ∷ items) here next
  behind item items here next among =
      let from = among.from in
      let within = among.within in
      record {
        from = omega arith;
        within = omega arith;
        command =
            let e : next.number - here ≡ suc (next.number - (here + 1)) = omega arith in
            ap (λ k. get_or (commands_in (item ∷ items)) k Ood) e ∙ among.command;
      }

  found_among : (done : Bool) (here : ℕ) (item : Item N) (items : List (Item N))
      (rest : Option (Numbered N)) (next : Numbered N)
      → (rest ≡ Some next → IsAmong items (here + 1) next)
      → cond done (Some (record { number = here; command = item.command })) rest ≡ Some next
      → IsAmong (item ∷ items) here next
  found_among true here item items rest next among e =
      let head : Numbered N = record { number = here; command = item.command } in
      let same : head ≡ next = cc in
      subst (IsAmong (item ∷ items) here) same (at_head item items here)
  found_among false here item items rest next among e = behind item items here next (among e)

  first_among : (through : Bool) (here : ℕ) (items : List (Item N)) (next : Numbered N)
      → first_from through here items ≡ Some next → IsAmong items here next
  first_among through here [] next e = absurd (cc)
  first_among through here (item ∷ items) next e =
      found_among (through || not item.guarded) here item items
      (first_from through (here + 1) items) next
      (first_among through (here + 1) items next) e

  first_in : (through : Bool) (here : ℕ) (script : List (Item N)) (next : Numbered N)
      → first_from through here (drop here script) ≡ Some next → IsFrom script here next
  first_in through here script next e =
      let among = first_among through here (drop here script) next e in
      let from = among.from in
      let within = among.within in
      let long = length-drop here script in
      record {
        from = from;
        within = omega arith;
        command =
            let there : here + (next.number - here) ≡ next.number = omega arith in
            sym (ap (λ k. get_or (commands_in script) k Ood) there)
            ∙ sym (get_or-drop here (commands_in script) (next.number - here) Ood)
            ∙ ap (λ (xs : List (Command N)). get_or xs (next.number - here) Ood)
            (drop-map (λ (item : Item N). item.command) here script)
            ∙ among.command;
      }

  -- the number after that of the last line, or 0 if there is none
  abbrev pub past_of : List (PlacedLine N) → ℕ
  past_of [] = 0
  past_of (line ∷ []) = line.number + 1
  past_of (line ∷ lines) = past_of lines

  pub past_of_more : (before : List (PlacedLine N)) (line : PlacedLine N)
      → past_of (before ++ line ∷ []) ≡ line.number + 1
  past_of_more (first ∷ second ∷ before) line = past_of_more (second ∷ before) line
  past_of_more lines line = refl

  -- after a line
  pub next_line_of_more : (script : List (Item N)) (before : List (PlacedLine N))
      (line : PlacedLine N) → next_line_of script (before ++ line ∷ [])
      ≡ first_from (lets_through line.reply) (line.number + 1) (drop (line.number + 1) script)
  next_line_of_more script (first ∷ second ∷ before) line =
      next_line_of_more script (second ∷ before) line
  next_line_of_more script lines line = refl

  -- the next line is one of the script, after the last line
  pub next_line_from : (script : List (Item N)) (own : List (PlacedLine N)) (next : Numbered N)
      → next_line_of script own ≡ Some next → IsFrom script (past_of own) next
  next_line_from script [] next e = first_in true 0 script next e
  next_line_from script (line ∷ []) next e =
      first_in (lets_through line.reply) (line.number + 1) script next e
  next_line_from script (line ∷ second ∷ lines) next e =
      next_line_from script (second ∷ lines) next e

  -- past the end of the script no line of it is next
  none_past : (through : Bool) (here k : ℕ) (script : List (Item N)) → length script ≤ k
      → first_from through here (drop k script) ≡ None
  none_past through here k script past = ap (first_from through here) (drop_all k script past)

  pub next_line_past : (script : List (Item N)) (own : List (PlacedLine N))
      → length script ≤ past_of own → next_line_of script own ≡ None
  next_line_past script [] past = none_past true 0 0 script past
  next_line_past script (line ∷ []) past =
      none_past (lets_through line.reply) (line.number + 1) (line.number + 1) script past
  next_line_past script (line ∷ second ∷ lines) past = next_line_past script (second ∷ lines) past

  pub closing_number_is : (script : List (Item N)) (own : List (PlacedLine N))
      → closing_number script own ≡ length script + (past_of own - length script)
  closing_number_is script [] = omega arith
  closing_number_is script (line ∷ []) = refl
  closing_number_is script (line ∷ second ∷ lines) = closing_number_is script (second ∷ lines)

  -- the numbers of the lines go up, from this one on
  abbrev pub GoUp : ℕ → List (PlacedLine N) → Type 0
  GoUp here [] = Unit {0}
  GoUp here (line ∷ lines) = (here ≤ line.number) × GoUp (line.number + 1) lines

-- a closing command: no line of the script is left, and the numbers count on
pub record IsClosing {N : Type 0} (naming : Naming N) (script : List (Item N))
    (own : List (PlacedLine N)) (next : Numbered N) : Type 0 where
  pub ended : next_line_of script own ≡ None
  pub closes : closing_of naming (map line_of own) ≡ Some next.command
  pub number : next.number ≡ closing_number script own
  pub past : length script ≤ next.number
  pub from : past_of own ≤ next.number

module _ {N : Type 0} (naming : Naming N) (script : List (Item N)) where
  closing_case : (own : List (PlacedLine N)) (o : Option (Command N)) (next : Numbered N)
      → next_line_of script own ≡ None → closing_of naming (map line_of own) ≡ o
      → option_map (closing_after script own) o ≡ Some next → IsClosing naming script own next
  closing_case own None next ended closes e = absurd (cc)
  closing_case own (Some command) next ended closes e =
      let same : closing_after script own command ≡ next = cc in
      let number : next.number ≡ closing_number script own =
      ap (λ (n : Numbered N). n.number) (sym same) in
      let is = closing_number_is script own in
      record {
        ended = ended;
        closes = closes ∙ ap (λ (n : Numbered N). Some n.command) same;
        number = number;
        past = omega arith;
        from = omega arith;
      }

  by_line : (own : List (PlacedLine N)) (o : Option (Numbered N)) (next : Numbered N)
      → next_line_of script own ≡ o
      → option_or o (option_map (closing_after script own) (closing_of naming (map line_of own)))
      ≡ Some next
      → (next_line_of script own ≡ Some next) ⊎ IsClosing naming script own next
  by_line own None next ended e =
      inr (closing_case own (closing_of naming (map line_of own)) next ended refl e)
  by_line own (Some found) next is e = inl (is ∙ e)

  -- what is next is the next line of the script, or else a closing command
  pub next_cases : (own : List (PlacedLine N)) (next : Numbered N)
      → next_of naming script own ≡ Some next
      → (next_line_of script own ≡ Some next) ⊎ IsClosing naming script own next
  next_cases own next e = by_line own (next_line_of script own) next refl e

  pub next_on_script : (own : List (PlacedLine N)) (next : Numbered N)
      → next_of naming script own ≡ Some next → next.number < length script
      → next_line_of script own ≡ Some next
  next_on_script own next e below = elim (next_cases own next e) [
    | inl is ↦ is
    | inr closing ↦ let past = closing.past in absurd (omega arith)
  ]

  pub next_past_script : (own : List (PlacedLine N)) (next : Numbered N)
      → next_of naming script own ≡ Some next → length script ≤ next.number
      → IsClosing naming script own next
  next_past_script own next e past = elim (next_cases own next e) [
    | inl is ↦
        let below = (next_line_from script own next is).within in absurd (omega arith)
    | inr closing ↦ closing
  ]

  -- a line of the script comes before any closing command
  pub next_is_line : (own : List (PlacedLine N)) (next : Numbered N)
      → next_line_of script own ≡ Some next → next_of naming script own ≡ Some next
  next_is_line own next e =
      ap (λ o. option_or o (option_map (closing_after script own)
      (closing_of naming (map line_of own)))) e

  -- a closing command comes if no line is left
  pub next_is_closing : (own : List (PlacedLine N)) → next_line_of script own ≡ None
      → next_of naming script own
      ≡ option_map (closing_after script own) (closing_of naming (map line_of own))
  next_is_closing own e =
      ap (λ o. option_or o (option_map (closing_after script own)
      (closing_of naming (map line_of own)))) e

  no_closing : (own : List (PlacedLine N)) (o : Option (Command N))
      → option_map (closing_after script own) o ≡ None → o ≡ None
  no_closing own None e = refl
  no_closing own (Some command) e = absurd (cc)

  none_by_line : (own : List (PlacedLine N)) (o : Option (Numbered N))
      → next_line_of script own ≡ o
      → option_or o (option_map (closing_after script own) (closing_of naming (map line_of own)))
      ≡ None
      → (next_line_of script own ≡ None) × (closing_of naming (map line_of own) ≡ None)
  none_by_line own None is e = (is, no_closing own (closing_of naming (map line_of own)) e)
  none_by_line own (Some found) is e = absurd (cc)

  -- if nothing is next, no line is left and no closing command
  pub next_none : (own : List (PlacedLine N)) → next_of naming script own ≡ None
      → (next_line_of script own ≡ None) × (closing_of naming (map line_of own) ≡ None)
  next_none own e = none_by_line own (next_line_of script own) refl e

  -- the next line comes after the last line
  pub next_from : (own : List (PlacedLine N)) (next : Numbered N)
      → next_of naming script own ≡ Some next → past_of own ≤ next.number
  next_from own next e = elim (next_cases own next e) [
    | inl is ↦ (next_line_from script own next is).from
    | inr closing ↦ closing.from
  ]

  -- a next line of the script is the one at its number
  pub next_in_script : (own : List (PlacedLine N)) (next : Numbered N)
      → next_of naming script own ≡ Some next → next.number < length script
      → get_or (commands_in script) next.number Ood ≡ next.command
  next_in_script own next e below =
      (next_line_from script own next (next_on_script own next e below)).command

  module _ (s : ℕ) where
    -- the numbers of a journal go up
    pub journal_goes_up : (before lines : List (PlacedLine N))
        → IsJournalAfter naming s script before lines → GoUp (past_of before) lines
    journal_goes_up before [] is = tt
    journal_goes_up before (line ∷ lines) is = (
      next_from before (numbered line) is.1,
      subst (λ here. GoUp here lines) (past_of_more before line)
          (journal_goes_up (before ++ line ∷ []) lines is.2),
    )
