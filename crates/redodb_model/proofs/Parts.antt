-- A journal has first lines of its script, and then closing lines.
use Rattle.std.proofs.Common.{◌≡◌, ℕ, ◌+◌, ◌<◌, ◌≤◌, Bool, true, false, not, cond, List, [], ◌∷◌, ◌++◌, length, map, drop, Some, None, refl, sym, ap, ◌∙◌, subst, arith, append_assoc, append-nil, inl, inr}
use Rattle.std.proofs.lemmas.List.{map-append, drop-drop}
use Rattle.std.proofs.lemmas.Option.{none-some}
use Rattle.std.proofs.lemmas.Simd.{map-map}
use Rattle.std.specs.List.{AllByRecursion}
use Rattle.redodb_model.specs.Names.{Naming}
use Rattle.redodb_model.specs.Command.{Item, commands_in}
use Rattle.redodb_model.specs.Reply.{lets_through}
use Rattle.redodb_model.specs.History.{Line}
use Rattle.redodb_model.specs.Placed.{PlacedLine, line_of}
use Rattle.redodb_model.specs.Closing.{closing_of, ClosesAfter}
use Rattle.redodb_model.specs.Journals.{Numbered, first_from, next_line_of, next_of, numbered, IsJournalAfter, IsWholeJournal}
use Rattle.redodb_model.proofs.Nexts.{IsClosing, next_cases, next_none, next_line_of_more, next_line_from, next_line_past, past_of, past_of_more}

module _ {N : Type 0} (s : ℕ) (script : List (Item N)) where
  -- each line is the next of the script after those before it
  abbrev pub IsLined : List (PlacedLine N) → List (PlacedLine N) → Type 0
  IsLined before [] = Unit {0}
  IsLined before (line ∷ lines) =
      (line.session ≡ s) × (next_line_of script before ≡ Some (numbered line))
      × IsLined (before ++ line ∷ []) lines

  -- these lines are no more than the script
  pub journal_fits : (before lines : List (PlacedLine N)) → IsLined before lines
      → past_of before ≤ length script → past_of before + length lines ≤ length script
  journal_fits before [] is fits = omega arith
  journal_fits before (line ∷ lines) is fits =
      let found = next_line_from script before (numbered line) is.1 in
      let from = found.from in
      let within = found.within in
      let past = past_of_more before line in
      let rest = journal_fits (before ++ line ∷ []) lines is.2 (omega arith) in
      omega arith

  pub lined_below : (before lines : List (PlacedLine N)) → IsLined before lines
      → AllByRecursion (λ line. line.number < length script) lines
  lined_below before [] is = tt
  lined_below before (line ∷ lines) is = (
    (next_line_from script before (numbered line) is.1).within,
    lined_below (before ++ line ∷ []) lines is.2,
  )

module _ {N : Type 0} (naming : Naming N) (s : ℕ) (script : List (Item N)) where
  -- each line has the closing command after those before it
  abbrev pub IsClosed : List (PlacedLine N) → List (PlacedLine N) → Type 0
  IsClosed before [] = Unit {0}
  IsClosed before (line ∷ lines) =
      (line.session ≡ s) × IsClosing naming script before (numbered line)
      × IsClosed (before ++ line ∷ []) lines

  pub closed_past : (before lines : List (PlacedLine N)) → IsClosed before lines
      → AllByRecursion (λ line. length script ≤ line.number) lines
  closed_past before [] is = tt
  closed_past before (line ∷ lines) is =
      (is.1.past, closed_past (before ++ line ∷ []) lines is.2)

  -- the lines of a journal: those of the script, and those that close
  pub record Parts (before lines : List (PlacedLine N)) : Type 0 where
    pub own : List (PlacedLine N)
    pub closing : List (PlacedLine N)
    pub both : lines ≡ own ++ closing
    pub lined : IsLined s script before own
    pub closed : IsClosed (before ++ own) closing

  -- only closing lines follow a closing line
  pub only_closing : (before lines : List (PlacedLine N)) → length script ≤ past_of before
      → IsJournalAfter naming s script before lines → IsClosed before lines
  only_closing before [] past is = tt
  only_closing before (line ∷ lines) past is =
      elim (next_cases naming script before (numbered line) is.1) [
        | inl on ↦ absurd (none-some _ (sym (next_line_past script before past) ∙ on))
        | inr closing ↦
            let more = past_of_more before line in
            let number = closing.past in
            (is.0, closing, only_closing (before ++ line ∷ []) lines (omega arith) is.2)
      ]

  one_more : (before lines : List (PlacedLine N)) (line : PlacedLine N) → line.session ≡ s
      → next_line_of script before ≡ Some (numbered line) → Parts (before ++ line ∷ []) lines
      → Parts before (line ∷ lines)
  one_more before lines line own on rest = record {
    own = line ∷ rest.own;
    closing = rest.closing;
    both = ap (λ xs. line ∷ xs) rest.both;
    lined = (own, on, rest.lined);
    closed = subst (λ xs. IsClosed xs rest.closing) (append_assoc before (line ∷ []) rest.own)
        rest.closed;
  }

  pub parts_after : (before lines : List (PlacedLine N))
      → IsJournalAfter naming s script before lines → Parts before lines
  parts_after before [] is =
      record { own = []; closing = []; both = refl; lined = tt; closed = tt }
  parts_after before (line ∷ lines) is =
      elim (next_cases naming script before (numbered line) is.1) [
        | inl on ↦ one_more before lines line is.0 on
            (parts_after (before ++ line ∷ []) lines is.2)
        | inr closing ↦
            let more = past_of_more before line in
            let number = closing.past in
            let rest = only_closing (before ++ line ∷ []) lines (omega arith) is.2 in
            record {
              own = [];
              closing = line ∷ lines;
              both = refl;
              lined = tt;
              closed = subst (λ xs. IsClosed xs (line ∷ lines)) (sym (append-nil before))
                  (is.0, closing, rest);
            }
      ]

  -- if nothing follows them, the closing lines close all that is held
  closes_after : (before lines : List (PlacedLine N)) → IsClosed before lines
      → closing_of naming (map line_of (before ++ lines)) ≡ None
      → ClosesAfter naming (map line_of before) (map line_of lines)
  closes_after before [] is none =
      ap (λ xs. closing_of naming (map line_of xs)) (sym (append-nil before)) ∙ none
  closes_after before (line ∷ lines) is none = (
    is.1.closes,
    subst (λ xs. ClosesAfter naming xs (map line_of lines))
        (map-append line_of before (line ∷ []))
        (closes_after (before ++ line ∷ []) lines is.2
        (ap (λ xs. closing_of naming (map line_of xs)) (append_assoc before (line ∷ []) lines)
        ∙ none)),
  )

  no_line_left : (before lines : List (PlacedLine N)) → IsClosed before lines
      → next_line_of script (before ++ lines) ≡ None → next_line_of script before ≡ None
  no_line_left before [] is none = ap (next_line_of script) (sym (append-nil before)) ∙ none
  no_line_left before (line ∷ lines) is none = is.1.ended

  -- a whole journal: all lines of the script that are done, and then all closing lines
  pub record WholeParts (lines : List (PlacedLine N)) : Type 0 where
    pub own : List (PlacedLine N)
    pub closing : List (PlacedLine N)
    pub both : lines ≡ own ++ closing
    pub lined : IsLined s script [] own
    pub ended : next_line_of script own ≡ None
    pub closes : ClosesAfter naming (map line_of own) (map line_of closing)

  whole_by_parts : (lines : List (PlacedLine N)) → next_of naming script lines ≡ None
      → Parts [] lines → WholeParts lines
  whole_by_parts lines none parts =
      let nothing = next_none naming script (parts.own ++ parts.closing)
      (ap (next_of naming script) (sym parts.both) ∙ none) in
      record {
        own = parts.own;
        closing = parts.closing;
        both = parts.both;
        lined = parts.lined;
        ended = no_line_left parts.own parts.closing parts.closed nothing.0;
        closes = closes_after parts.own parts.closing parts.closed nothing.1;
      }

  pub whole_parts : (lines : List (PlacedLine N)) → IsWholeJournal naming s script lines
      → WholeParts lines
  whole_parts lines whole = whole_by_parts lines whole.1 (parts_after [] lines whole.0)

-- scripts without guarded lines
module _ {N : Type 0} where
  abbrev pub AllUnguarded : List (Item N) → Type 0
  AllUnguarded items = AllByRecursion (λ item. item.guarded ≡ false) items

  -- the first of unguarded lines is done
  plain_first : (through : Bool) (here : ℕ) (item : Item N) (items : List (Item N))
      → item.guarded ≡ false → first_from through here (item ∷ items)
      ≡ Some (record { number = here; command = item.command })
  plain_first true here item items e = refl
  plain_first false here item items e =
      ap (λ (b : Bool). cond (not b) (Some (record { number = here; command = item.command }))
      (first_from false (here + 1) items)) e

  module _ (s : ℕ) (script : List (Item N)) where
    all_after : (through : Bool) (items : List (Item N)) (before lines : List (PlacedLine N))
        → AllUnguarded items → drop (past_of before) script ≡ items
        → next_line_of script before ≡ first_from through (past_of before) items
        → IsLined s script before lines → next_line_of script (before ++ lines) ≡ None
        → map (λ line. line.command) lines ≡ commands_in items
    all_after through [] before [] plain rest here is none = refl
    all_after through (item ∷ items) before [] plain rest here is none =
        absurd (none-some _ (sym none ∙ ap (next_line_of script) (append-nil before) ∙ here
        ∙ plain_first through (past_of before) item items plain.0))
    all_after through [] before (line ∷ lines) plain rest here is none =
        absurd (none-some _ (sym here ∙ is.1))
    all_after through (item ∷ items) before (line ∷ lines) plain rest here is none =
        let found : Numbered N = record { number = past_of before; command = item.command } in
        let told : Some found ≡ Some (numbered line) =
        sym (plain_first through (past_of before) item items plain.0) ∙ sym here ∙ is.1 in
        let same : found ≡ numbered line = cc in
        let number : past_of before + 1 ≡ line.number + 1 =
        ap (λ (n : Numbered N). n.number + 1) same in
        let past : past_of (before ++ line ∷ []) ≡ line.number + 1 = past_of_more before line in
        let left : drop (line.number + 1) script ≡ items =
        ap (λ n. drop n script) (sym number) ∙ sym (drop-drop 1 (past_of before) script)
        ∙ ap (drop 1) rest in
        let next : next_line_of script (before ++ line ∷ [])
        ≡ first_from (lets_through line.reply) (past_of (before ++ line ∷ [])) items =
        next_line_of_more script before line
        ∙ (λ i. first_from (lets_through line.reply) (sym past i) (left i)) in
        let more = all_after (lets_through line.reply) items (before ++ line ∷ []) lines plain.1
        (ap (λ n. drop n script) past ∙ left) next is.2
        (ap (next_line_of script) (append_assoc before (line ∷ []) lines) ∙ none) in
        let first : line.command ≡ item.command = ap (λ (n : Numbered N). n.command) (sym same) in
        λ i. first i ∷ more i

module _ {N : Type 0} (naming : Naming N) (s : ℕ) (script : List (Item N)) where
  all_by_parts : (lines : List (PlacedLine N)) → AllUnguarded script
      → WholeParts naming s script lines → (own : List (Line N)) × (closing : List (Line N))
      × (map line_of lines ≡ own ++ closing)
      × (map (λ line. line.command) own ≡ commands_in script) × ClosesAfter naming own closing
  all_by_parts lines plain parts = (
    map line_of parts.own,
    map line_of parts.closing,
    ap (map line_of) parts.both ∙ map-append line_of parts.own parts.closing,
    map-map (λ (line : Line N). line.command) line_of parts.own
        ∙ all_after s script true script [] parts.own plain refl refl parts.lined parts.ended,
    parts.closes,
  )

  -- if no line is guarded, a whole journal has all commands, and then closing ones
  pub all_done : (lines : List (PlacedLine N)) → AllUnguarded script
      → IsWholeJournal naming s script lines → (own : List (Line N)) × (closing : List (Line N))
      × (map line_of lines ≡ own ++ closing)
      × (map (λ line. line.command) own ≡ commands_in script) × ClosesAfter naming own closing
  all_done lines plain whole = all_by_parts lines plain (whole_parts naming s script lines whole)
