-- The lines of a joint order of whole journals are a run of the scripts, if one history has these
-- journals.
use Rattle.std.proofs.Common.{◌≡◌, ℕ, ◌<◌, ◌++◌, eqb, Bool, true, false, cond, List, [], ◌∷◌, length, map, get_or, refl, sym, ap, ◌∙◌, subst, arith}
use Rattle.std.specs.List.{AllByRecursion}
use Rattle.std.specs.Ordering.{nat_cmp}
use Rattle.std.specs.declared.cmp.Ordering.{Ordering}
use Rattle.std.proofs.lemmas.List.{get_or_past, length-map}
use Rattle.std.proofs.lemmas.Simd.{map-map}
use lib.ListN.{get_or-map}
use mathlib.Core.Logic.{dite}
use native.Mathlib.Decide.{dec_lt}
use Rattle.redodb_model.specs.Names.{Text, texts, Naming, text_at}
use Rattle.redodb_model.specs.Command.{Item}
use Rattle.redodb_model.specs.History as histories
use Rattle.redodb_model.specs.History.{Legal}
use Rattle.redodb_model.specs.Placed.{Place, Row, Granted, Busy, Released, PlacedLine, line_of, part_of, Fits, IsPlacedAfter}
use Rattle.redodb_model.specs.Journals.{IsJournal, IsWholeJournal, IsJointOrder}
use Rattle.redodb_model.specs.Renaming.{IsBelow, IsLineBelow, named_item, named_line}
use Rattle.redodb_model.specs.Scripts.{Does}
use Rattle.redodb_model.proofs.Scripts.{whole_does}
use Rattle.redodb_model.proofs.Naming.{numbering_is_renaming}
use Rattle.redodb_model.proofs.Texts.{texts_are_names}
use Rattle.redodb_commands.specs.Meaning.{line_at}
use Rattle.redodb_commands.specs.Meaning as coded
use Rattle.redodb_commands.specs.declared.reply.Line.{Line}
use Rattle.redodb_history_laws.specs.Named.{named_placed_line, named_journals, IsPlaceBelow, IsPlacedBelow, IsToldBelow}
use Rattle.redodb_history_laws.proofs.Exchange.{In}
use Rattle.redodb_history_laws.proofs.Own.{all_by_parts, all_of_part}
use Rattle.redodb_history_laws.proofs.Orders.{legal_in_every_order, prefix_placed}
use Rattle.redodb_history_laws.proofs.ByName.{joint_by_name, kept_map}
use Rattle.redodb_history_laws.proofs.JournalByName.{whole_by_name}
use Rattle.redodb_history_laws.proofs.Standing.{seen_stands}
use Rattle.redodb_journal.specs.Plans.{PlanOf, IsPlan, script_of, scripts_named}
use Rattle.redodb_journal.specs.Journals.{journals_of, naming_of}
use Rattle.redodb_journal.specs.declared.entry.Journal.{Journal}
use Rattle.redodb_board.proofs.Orders.{by_text_is_naming}
use Rattle.redodb_history.specs.Recorded.{AreLinesBelow}
use Rattle.redodb_merge.specs.Merges.{by_number, AreMerged}
use Rattle.redodb_history.proofs.RecordedLines.{all_map}
use Rattle.redodb_run.specs.Runs.{IsRun}
use Rattle.redodb_run.specs.Outcomes.{AreWhole, SeenStands}
use Rattle.redodb_run.proofs.Lists.{all-unmapped, all-weaker}
use Rattle.redodb_run.proofs.Wholes.{of_session, no_lines}
use Rattle.redodb_run.proofs.Served.{Serves, whole_at}

-- the part of a session under names, without its places
part_named : (name : ℕ → Text) (s : ℕ) (lines : List (PlacedLine ℕ))
    → histories.part_of s (map (λ l. named_line name (line_of l)) lines)
    ≡ map (λ l. named_line name (line_of l)) (part_of s lines)
part_named name s [] = refl
part_named name s (line ∷ lines) =
    kept_map (λ (l : PlacedLine ℕ). named_line name (line_of l)) (eqb line.session s) line
    (part_of s lines)
    (histories.part_of s (map (λ (l : PlacedLine ℕ). named_line name (line_of l)) lines))
    (part_named name s lines)

place_below : (n : ℕ) (l : PlacedLine ℕ) (place : Place ℕ) → Fits place l.command l.reply
    → IsBelow n l.command → IsPlaceBelow n place
place_below n l (Row r) f b = tt
place_below n l place f b = (subst (IsBelow n) f.0 b).0

-- what is true of all lines is true of a session's
part_all : (P : PlacedLine ℕ → Type 0) (s : ℕ) (lines : List (PlacedLine ℕ))
    → AllByRecursion P lines → AllByRecursion P (part_of s lines)
part_all P s [] all = tt
part_all P s (line ∷ lines) all = by (eqb line.session s) (part_all P s lines all.1)
  where
    by : (b : Bool) → AllByRecursion P (part_of s lines)
        → AllByRecursion P (cond b (line ∷ part_of s lines) (part_of s lines))
    by true rest = (all.0, rest)
    by false rest = rest

-- placed lines have no numbers but those of their commands and replies
told_below : (naming : Naming ℕ) (n : ℕ) (before lines : List (PlacedLine ℕ))
    → IsPlacedAfter naming before lines → AllByRecursion (IsLineBelow n) (map line_of lines)
    → AllByRecursion (IsToldBelow n) lines
told_below naming n before [] placed below = tt
told_below naming n before (l ∷ ls) placed below = (
  record {
    placed = record {
      command = below.0.0;
      place = place_below n l l.place placed.0 below.0.0;
    };
    reply = below.0.1;
  },
  told_below naming n (before ++ l ∷ []) ls placed.2 below.1,
)

module _ (p : PlanOf) (js : List Journal) (plan : IsPlan p) (whole : AreWhole p js) where
  abbrev Joint : List (PlacedLine ℕ) → Type 0
  Joint lines = IsJointOrder by_number (journals_of p js) lines

  abbrev at_names : PlacedLine ℕ → histories.Line Text
  at_names l = named_line (text_at p.names) (line_of l)

  abbrev Below : PlacedLine ℕ → Type 0
  Below l = IsToldBelow (length p.names) l

  -- all numbers are those of names
  all_below : Serves p js → (lines : List (PlacedLine ℕ)) → Joint lines
      → AllByRecursion Below lines
  all_below serves lines joint =
      let own =
      told_below by_number (length p.names) [] serves.lines serves.joint.1 serves.history.below in
      all_by_parts Below lines
      (λ s l i. all_of_part Below serves.lines own s l
      (subst (In l) (joint.0 s ∙ sym (serves.joint.0 s)) i))

  over_names : Serves p js → (lines : List (PlacedLine ℕ)) → Joint lines
      → IsJointOrder texts (named_journals (text_at p.names) (journals_of p js))
      (map (named_placed_line (text_at p.names)) lines)
  over_names serves lines joint =
      joint_by_name (numbering_is_renaming p.names plan.names.distinct) texts_are_names nat_cmp
      (journals_of p js) lines
      (all-weaker Below (IsPlacedBelow (length p.names)) (λ l b. b.placed) lines
      (all_below serves lines joint))
      joint

  -- each joint order is legal over the names, since one is
  legal_too : Serves p js → (lines : List (PlacedLine ℕ)) → Joint lines
      → Legal texts (map at_names lines)
  legal_too serves lines joint =
      let name : PlacedLine ℕ → PlacedLine Text = named_placed_line (text_at p.names) in
      subst (Legal texts) (map-map line_of name lines)
      (legal_in_every_order texts_are_names (named_journals (text_at p.names) (journals_of p js))
      (map name serves.lines) (map name lines) (over_names serves serves.lines serves.joint)
      (over_names serves lines joint)
      (subst (Legal texts) (sym (map-map line_of name serves.lines)) serves.history.legal))

  -- the lines of a whole journal are all that its session does, over the names too
  own_done : (own : List (PlacedLine ℕ)) (script : List (Item ℕ)) (s : ℕ)
      → AllByRecursion Below own → IsWholeJournal (naming_of p) s script own
      → Does texts (map (named_item (text_at p.names)) script) (map at_names own)
  own_done own script s below is =
      let name : PlacedLine ℕ → PlacedLine Text = named_placed_line (text_at p.names) in
      let items : List (Item Text) = map (named_item (text_at p.names)) script in
      let order : ℕ → ℕ → Ordering =
      λ m n. texts.order (text_at p.names m) (text_at p.names n) in
      let whole : IsWholeJournal texts s items (map name own) =
      whole_by_name (numbering_is_renaming p.names plan.names.distinct) texts_are_names order
      (record { alike = λ m n k l. refl }) s script own
      (all-weaker Below (λ l. IsBelow (length p.names) l.command) (λ l b. b.placed.command) own
      below)
      is in
      subst (Does texts items) (map-map line_of name own)
      (whole_does texts s items (map name own) whole)

  -- each session does what its script says, given the replies
  commands_done : Serves p js → (lines : List (PlacedLine ℕ)) → Joint lines → (s : ℕ)
      → Does texts (get_or (scripts_named p) s []) (histories.part_of s (map at_names lines))
  commands_done serves lines joint s =
      let named : List (Item ℕ) → List (Item Text) =
      λ script. map (named_item (text_at p.names)) script in
      let part : histories.part_of s (map at_names lines) ≡ map at_names (journals_of p js s) =
      part_named (text_at p.names) s lines ∙ ap (map at_names) (joint.0 s) in
      let script : get_or (scripts_named p) s [] ≡ named (script_of p s) =
      get_or-map named p.scripts s [] in
      let below : AllByRecursion Below (journals_of p js s) =
      subst (AllByRecursion Below) (joint.0 s)
      (part_all Below s lines (all_below serves lines joint)) in
      subst (λ (items : List (Item Text)). Does texts items
      (histories.part_of s (map at_names lines))) (sym script)
      (subst (Does texts (named (script_of p s))) (sym part)
      (own_done (journals_of p js s) (script_of p s) s below (whole_at p js whole s)))

  sessions_below : (lines : List (PlacedLine ℕ)) → Joint lines
      → AllByRecursion (λ line. line.session < length (scripts_named p)) (map at_names lines)
  sessions_below lines joint =
      let P : histories.Line Text → Type 0 = λ l. l.session < length (scripts_named p) in
      let name : List (Item ℕ) → List (Item Text) =
      λ script. map (named_item (text_at p.names)) script in
      all_map at_names P lines
      (all_by_parts (λ l. P (at_names l)) lines (λ s l i.
      let is = (whole_at p js whole s).0 in
      let there : In l (journals_of p js s) = subst (In l) (joint.0 s) i in
      let own = of_session (naming_of p) s (script_of p s) [] (journals_of p js s) is l there in
      let long = length-map p.scripts name in
      dite (dec_lt s (length p.scripts))
      (λ less. let h : l.session < length (scripts_named p) = omega arith in h)
      (λ past.
      let none : script_of p s ≡ [] = get_or_past p.scripts s [] (omega arith) in
      absurd (subst (In l) (no_lines (naming_of p) s (journals_of p js s)
      (subst (λ script. IsJournal (naming_of p) s script (journals_of p js s)) none is))
      there))))

  -- the history over the names
  named_history : (history : List Line) (lines : List (PlacedLine ℕ))
      → map coded.line_of history ≡ map line_of lines
      → map (line_at p.names) history ≡ map at_names lines
  named_history history lines says =
      let name : histories.Line ℕ → histories.Line Text = named_line (text_at p.names) in
      sym (map-map name coded.line_of history) ∙ ap (map name) says ∙ map-map name line_of lines

  pub is_run : Serves p js → (history : List Line) → AreMerged p js (map coded.line_of history)
      → IsRun (scripts_named p) (map (line_at p.names) history)
  is_run serves history (lines, first, says) =
      subst (IsRun (scripts_named p)) (sym (named_history history lines says)) (record {
        legal = legal_too serves lines first.joint;
        sessions = sessions_below lines first.joint;
        parts = λ s less. commands_done serves lines first.joint s;
      })

  pub history_below : Serves p js → (history : List Line)
      → AreMerged p js (map coded.line_of history)
      → AreLinesBelow p.names history
  history_below serves history (lines, first, says) =
      let below =
      all-weaker Below (λ l. IsLineBelow (length p.names) (line_of l))
      (λ l b. (b.placed.command, b.reply)) lines (all_below serves lines first.joint) in
      all-unmapped coded.line_of (IsLineBelow (length p.names)) history
      (subst (AllByRecursion (IsLineBelow (length p.names))) (sym says)
      (all_map line_of (IsLineBelow (length p.names)) lines below))

-- what a session had seen comes before
pub seen_before : (p : PlanOf) (js : List Journal) → SeenStands p js
seen_before p js before later line place joint seen =
    seen_stands (by_text_is_naming p.names) line.session before place
    (prefix_placed by_number [] before (line ∷ later) joint.1) seen
