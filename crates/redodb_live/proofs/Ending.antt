-- The state and the answer after a session's end.
use Rattle.std.proofs.Common.{◌≡◌, ◌≢◌, ◌↔◌, ◌+◌, ◌^◌, ◌<◌, ℕ, List, ◌++◌, Option, Some, None, is_some, refl, sym, ap, ◌∙◌, subst, map, length, arith}
use Rattle.std.specs.Prelude.{nat_eq}
use Rattle.std.specs.List.{AllByRecursion, Contains, IsDistinct, flat_map}
use Rattle.std.specs.List.Sorted.{IsPermutation, IsStrictlyIncreasing}
use Rattle.std.specs.Cmp.{nat_cmp_is, tied_itself}
use Rattle.std.specs.Cmp.Lexicographic.{nat_list_cmp_total}
use Rattle.std.specs.Ordering.{nat_cmp}
use Rattle.std.specs.declared.cmp.Ordering.TheVariants.{Less}
use Rattle.std.proofs.lemmas.List.{length-map}
use Rattle.std.proofs.lemmas.List.Elements.{All-contains, All-from_recursion}
use Rattle.std.proofs.lemmas.List.Kept.{AllPairs-from_increasing}
use Rattle.std.proofs.lemmas.List.Sorted.{Contains-permutation, IsPermutation-sym}
use Rattle.std.proofs.lemmas.Simd.{map-map}
use Rattle.redodb_names.specs.Support.Names.{AreNames}
use Rattle.redodb_model.specs.Names.{Text, texts, text_at, by_number, by_text}
use Rattle.redodb_model.specs.State.{State}
use Rattle.redodb_model.specs.Reply as replies
use Rattle.redodb_model.specs.History.{LegalFrom, left_by}
use Rattle.redodb_model.specs.History as histories
use Rattle.redodb_model.specs.Renaming.{AllBelow, IsBelow, IsLineBelow, named_line}
use Rattle.redodb_model.specs.Support.Ending.{AreHeld, closing_lines_of}
use Rattle.redodb_model.specs.Support.Renaming.{named_state, numbering, value_at}
use Rattle.redodb_model.proofs.RecordsByName.{value_at_name}
use Rattle.redodb_model.proofs.RepliesByName.{Carries, listing}
use Rattle.redodb_commands.specs.Meaning.{command_of, line_of, line_at}
use Rattle.redodb_commands.specs.declared.reply.Line.{Line}
use Rattle.redodb_database.specs.Tables.{Tables, state_of, tables_count, calls_of}
use Rattle.redodb_history.specs.Histories.{line_text_of}
use Rattle.redodb_history.specs.Recorded.{AreLinesBelow}
use Rattle.redodb_history.proofs.KnownNames.{all_members}
use Rattle.redodb_live.specs.Support.Ended.{end_text}
use Rattle.redodb_live.specs.Support.ClosingLines.{AreClosing, TakesNoRoom}
use Rattle.redodb_live.specs.Support.Kept.{IsKept}
use Rattle.redodb_live.specs.Support.LiveState.{LiveState}
use Rattle.redodb_live.specs.Support.Ordered.{AreSortedAgain}
use Rattle.redodb_live.specs.Support.Appended.{EndsSession}
use Rattle.redodb_live.specs.Support.AnswerFaults.{IsUnendedFor, IsUnwrittenFor, WouldEnd}
use Rattle.redodb_live.specs.declared.fault.AnswerFault.{AnswerFault}
use Rattle.redodb_live.specs.declared.fault.AnswerFault.TheVariants.{Unanswered, TooLong}
use Rattle.redodb_live.specs.Support.Within.{IsStateWithin}
use Rattle.redodb_live.proofs.Answering.{renaming, number_is_strict, orders, alike}
use Rattle.redodb_live.proofs.Closing.{all_closing, closing_by_name, few_lines, kept_then, left_texts, legal_numbers, lines_below}
use Rattle.redodb_live.proofs.Keeping.{taken_below}
use Rattle.redodb_live.proofs.Lines.{all_from_map}
use Rattle.redodb_live.proofs.Reordered.{ascending_once, listed_again}

pub text_is_strict : (names : List Text) (n : ℕ) → (by_text names).order n n ≢ Less
text_is_strict names n e = let f = tied_itself nat_list_cmp_total (text_at names n) in cc

numbered_by : (f : ℕ → Option ℕ) (s : ℕ) (o : Option ℕ) → value_at None f o ≡ Some s
    → (k : ℕ) × (o ≡ Some k)
numbered_by f s None e = absurd (cc)
numbered_by f s (Some k) e = (k, refl)

-- why the answer to a session's end wasn't appended
pub unended : (live : LiveState) (session most : ℕ) (why : AnswerFault) (text : Text)
    → WouldEnd live session (length text) → IsUnwrittenFor text most why
    → IsUnendedFor live session most why
unended live session most (Unanswered why) text would e = e
unended live session most (TooLong size) text would (more, e) =
    (more, subst (WouldEnd live session) (sym e) would)

-- the same numbers in another order are below the same count
pub sorted_below : (n : ℕ) (ns ms : List ℕ) → IsPermutation ns ms → AllBelow n ns → AllBelow n ms
sorted_below n ns ms moved below =
    all_members (λ t. t < n) ms (λ t there. All-contains (λ k. k < n) ns t
    (All-from_recursion (λ k. k < n) ns below)
    (Contains-permutation ms ns t (IsPermutation-sym ns ms moved) there))

module _ (names : List Text) (are : AreNames names) (st : State ℕ)
    (within : IsStateWithin (length names) st) (s : ℕ)
  where
    mine_below : (t : ℕ) → st.locks.holder t ≡ Some s → t < length names
    mine_below t e =
        taken_below (length names) st.locks t within.holder (ap (λ (o : Option ℕ). is_some o) e)

    -- it holds a number exactly if it holds a name
    pub held_named : ((t : ℕ) × (st.locks.holder t ≡ Some s))
        ↔ ((t : Text) × ((named_state (numbering names) st).locks.holder t ≡ Some s))
    held_named = (
      λ h. (
        text_at names h.0,
        value_at_name (renaming names are) None st.locks.holder h.0 (mine_below h.0 h.1) ∙ h.1,
      ),
      λ h. (let number = numbered_by st.locks.holder s ((numbering names).number h.0) h.1 in
          (number.0, sym (ap (value_at None st.locks.holder) number.1) ∙ h.1)),
    )

    -- the numbers of what a session holds, put into the order of their texts
    pub held_sorted : (ns ms : List ℕ) → IsStrictlyIncreasing ns
        → ((t : ℕ) → Contains ns t ↔ (st.locks.holder t ≡ Some s))
        → AreSortedAgain (by_text names).order ns ms → AreHeld (by_text names) s st ms
    held_sorted ns ms rises members again =
        listed_again (length names) nat_cmp (by_text names).order
        (orders names are nat_cmp number_is_strict) {P = λ t. st.locks.holder t ≡ Some s} ns ms
        mine_below (
          (λ i j d before in'.
              sym (nat_cmp_is _ _ Less (AllPairs-from_increasing ns rises i j d before in'))),
          members,
        )
        again

    pub held_below : (ts : List ℕ) → AreHeld (by_text names) s st ts → AllBelow (length names) ts
    held_below ts held =
        all_members (λ t. t < length names) ts (λ t there. mine_below t ((held.1 t).0 there))

    pub held_once : (ts : List ℕ) → AreHeld (by_text names) s st ts → IsDistinct nat_eq ts
    held_once ts held = ascending_once (by_text names).order (text_is_strict names) ts held.0

    mine_carries : Carries (numbering names) (λ k. st.locks.holder k ≡ Some s)
        (λ (t : Text). (named_state (numbering names) st).locks.holder t ≡ Some s)
    mine_carries = record {
      numbered = λ t e. numbered_by st.locks.holder s ((numbering names).number t) e;
      below = mine_below;
      forth = λ k b e. value_at_name (renaming names are) None st.locks.holder k b ∙ e;
      back = λ k b e. sym (value_at_name (renaming names are) None st.locks.holder k b) ∙ e;
    }

    pub held_by_name : (ts : List ℕ) → AreHeld (by_text names) s st ts
        → AreHeld texts s (named_state (numbering names) st) (map (text_at names) ts)
    held_by_name ts held =
        let (named, listed, e) =
        (listing (renaming names are) texts (by_text names).order (alike names are)
        replies.Ood replies.Ood (λ ks. refl) (λ ks. refl) mine_carries (replies.Ood ts)
        (held_below ts held)).0 (ts, held, refl) in
        let same : named ≡ map (text_at names) ts = cc in
        subst (AreHeld texts s (named_state (numbering names) st)) same listed

module _ (names : List Text) (are : AreNames names) (tables : Tables)
    (kept : IsKept names (state_of tables) (calls_of tables)) (session : ℕ) (lines : List Line)
    (closing : AreClosing (record { names = names; tables = tables }) session (map line_of lines))
  where
    abbrev targets : List ℕ
    targets = closing.targets

    mine : (t : ℕ) → Contains closing.targets t
        → (state_of tables).locks.holder t ≡ Some session
    mine t there = (closing.held.1 t).0 there

    below_names : AllBelow (length names) closing.targets
    below_names =
        held_below names are (state_of tables) kept.within session closing.targets closing.held

    once : IsDistinct nat_eq closing.targets
    once = held_once names are (state_of tables) kept.within session closing.targets closing.held

    held_texts : AreHeld texts session (named_state (numbering names) (state_of tables))
        (map (text_at names) closing.targets)
    held_texts =
        held_by_name names are (state_of tables) kept.within session closing.targets closing.held

    each : (P : histories.Line ℕ → Type 0)
        → AllByRecursion P (closing_lines_of session (state_of tables) closing.targets)
        → AllByRecursion (λ line. P (line_of line)) lines
    each P all =
        all_from_map line_of P lines (subst (AllByRecursion P) (sym closing.lines_are) all)

    pub close_below : AllByRecursion
        (λ line. IsBelow (tables_count tables) (command_of line.command)) lines
    close_below =
        each (λ line. IsBelow (tables_count tables) line.command)
        (all_closing (λ line. IsBelow (tables_count tables) line.command) session
        (state_of tables) (tables_count tables) closing.targets closing.below
        (λ t b. ((b, tt), (b, tt))))

    pub close_room : AllByRecursion (λ line. TakesNoRoom (command_of line.command)) lines
    close_room =
        each (λ line. TakesNoRoom line.command)
        (all_closing (λ line. TakesNoRoom line.command) session (state_of tables)
        (tables_count tables) closing.targets closing.below (λ t b. (tt, tt)))

    pub lines_are_below : AreLinesBelow names lines
    lines_are_below =
        each (IsLineBelow (length names))
        (lines_below names are (state_of tables) session kept.within kept.builders closing.targets
        below_names held_texts)

    same_length : length lines ≡ length (closing_lines_of session (state_of tables) closing.targets)
    same_length = sym (length-map lines line_of) ∙ ap length closing.lines_are

    pub close_calls : calls_of tables + length lines < 2 ^ 32
    close_calls =
        omega (
          arith,
          same_length,
          few_lines session (state_of tables) closing.targets,
          kept.closing closing.targets once
              (λ t there. ap (λ (o : Option ℕ). is_some o) (mine t there)),
        )

    pub close_legal : LegalFrom by_number (state_of tables) (map line_of lines)
    close_legal =
        subst (LegalFrom by_number (state_of tables)) (sym closing.lines_are)
        (legal_numbers names are (state_of tables) session kept.within kept.builders
        closing.targets below_names held_texts nat_cmp)

    named_lines : map (line_at names) lines
        ≡ closing_lines_of session (named_state (numbering names) (state_of tables))
        (map (text_at names) closing.targets)
    named_lines =
        sym (map-map (named_line (text_at names)) line_of lines)
        ∙ ap (map (named_line (text_at names))) closing.lines_are
        ∙ closing_by_name names are (state_of tables) session closing.targets below_names

    pub would_end : WouldEnd (record { names = names; tables = tables }) session
        (length (flat_map line_text_of (map (line_at names) lines) ++ end_text session))
    would_end = record {
      lines = map (line_at names) lines;
      is = record {
        targets = map (text_at names) closing.targets;
        held = held_texts;
        lines_are = named_lines;
        left = refl;
      };
      size_is = refl;
    }

    module _ (next : Tables)
        (left : state_of next ≡ left_by by_number (state_of tables) (map line_of lines))
        (counted : calls_of next ≡ calls_of tables + length lines)
      where
        left_closing : state_of next ≡ left_by by_number (state_of tables)
            (closing_lines_of session (state_of tables) closing.targets)
        left_closing = left ∙ ap (left_by by_number (state_of tables)) closing.lines_are

        pub kept_end : IsKept names (state_of next) (calls_of next)
        kept_end =
            subst (IsKept names (state_of next))
            (sym (counted ∙ ap (λ (n : ℕ). calls_of tables + n) same_length))
            (kept_then names are (state_of tables) session kept.within kept.builders
            closing.targets below_names held_texts nat_cmp (state_of next)
            left_closing (calls_of tables) kept once mine)

        pub ends : (output output_after logged logged_after : Text)
            → output_after ≡ output
            ++ (flat_map line_text_of (map (line_at names) lines) ++ end_text session)
            → logged_after ≡ logged ++ flat_map line_text_of (map (line_at names) lines)
            → EndsSession (record { names = names; tables = tables })
            (record { names = names; tables = next }) session output output_after logged
            logged_after
        ends output output_after logged logged_after writes logs =
            record {
              lines = map (line_at names) lines;
              is = record {
                targets = map (text_at names) closing.targets;
                held = held_texts;
                lines_are = named_lines;
                left = ap (named_state (numbering names)) left_closing
                    ∙ left_texts names are (state_of tables) session kept.within kept.builders
                    closing.targets below_names held_texts nat_cmp
                    ∙ ap (left_by texts (named_state (numbering names) (state_of tables)))
                    (sym named_lines);
              };
              names = refl;
              calls = counted
                  ∙ ap (λ (n : ℕ). calls_of tables + n) (sym (length-map lines (line_at names)));
              writes = writes;
              logs = logs;
            }
