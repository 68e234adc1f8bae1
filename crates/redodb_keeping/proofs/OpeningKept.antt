-- The lines of a log that are kept were done again, whether a last line was torn or one differs.
use Rattle.std.proofs.Common.{◌≡◌, ◌⊎◌, ℕ, ◌+◌, ◌≤◌, Bool, false, List, [], ◌++◌, length, take, drop, refl, sym, ap, ◌∙◌, subst, append-nil, append_assoc, length-append, inl, inr, arith}
use Rattle.std.specs.Prelude.{Contains, None, IsTrue}
use Rattle.std.proofs.lemmas.List.{append_cancel_left, take-append-drop, take_all}
use Rattle.std.proofs.lemmas.List.Elements.{Contains-append_left}
use Rattle.std.proofs.Math.Seq.{take-append_seam}
use Rattle.redodb_model.specs.Names.{Text}
use Rattle.redodb_model.specs.History.{Line}
use Rattle.redodb_model.proofs.Members.{contains_none}
use Rattle.redodb_live.specs.Support.LiveState.{LiveState}
use Rattle.redodb_live.specs.Lines.{lines_text_of}
use Rattle.redodb_log.specs.Logs.{Past, past_lines, head_of, header_words, log_header, dump_header, AreLogged, HasPast, IsLogOf, IsTornHeader}
use Rattle.redodb_log.specs.Restores as restores
use Rattle.redodb_log.specs.Restores.{IsRestored, IsRestoredTo, IsDamagedAfter, DiffersBehind, HasTooMany, DiffersAt, IsRestoreCause, IsOfRoom}
use Rattle.redodb_log.specs.declared.restoring.Restored.{Restored}
use Rattle.redodb_log.specs.declared.restoring.RestoreFault.{RestoreFault}
use Rattle.redodb_log.specs.declared.restoring.RestoreFault.TheVariants.{Memory, Worn, State, Differs}
use Rattle.redodb_log.proofs.Dumped.{has_past}
use Rattle.redodb_keeping.specs.Support.Steps.{known_of, LeadsTo}
use Rattle.redodb_keeping.specs.Support.Opening.{IsRest, IsKeptFrom, IsOpenCause, unrestored}
use Rattle.redodb_keeping.specs.declared.restoring.Rest.{Rest}
use Rattle.redodb_keeping.specs.declared.restoring.Rest.TheVariants.{Nothing, Torn, Damaged}

-- what a log begins with, and the lines
abbrev log_text : Past → List (Line Text) → Text
log_text past lines = head_of past ++ lines_text_of lines

-- the first bytes of a log, before what is left
first_bytes : (past : Past) (bytes left : Text) (lines : List (Line Text))
    → bytes ≡ log_text past lines ++ left
    → take (length (log_text past lines)) bytes ≡ log_text past lines
first_bytes past bytes left lines e =
    ap (take (length (log_text past lines))) e ∙ take-append_seam (log_text past lines) left

-- nothing follows the lines of a log but a rest without LF
log_is_whole : (past : Past) (bytes torn : Text) (lines : List (Line Text))
    → IsLogOf past bytes lines torn → IsDamagedAfter past bytes lines → ⊥
log_is_whole past bytes torn lines is (inl (bad, none, ls)) =
    let text = lines_text_of lines in
    bad.1 (text ++ torn)
    (is.parts ∙ ap (λ (p : Past). head_of p ++ text ++ torn) none ∙ append_assoc log_header text torn)
log_is_whole past bytes torn lines is (inr differs) =
    is.free (subst (λ (t : Text). Contains t 10)
    (append_cancel_left (log_text past lines) differs.left torn (sym differs.parts ∙ is.parts))
    differs.has_line)

-- a prefix of the header has no whole header
header_is_whole : (bytes left : Text) → IsTornHeader bytes → bytes ≡ log_header ++ left → ⊥
header_is_whole bytes left torn e =
    let far : 12 ≡ length bytes + length torn.0 =
    ap length torn.1 ∙ length-append bytes torn.0 in
    let more : length bytes ≡ 13 + length left = ap length e ∙ length-append log_header left in
    absurd (omega arith)

torn_is_whole : (bytes : Text) → IsTornHeader bytes → IsDamagedAfter None bytes [] → ⊥
torn_is_whole bytes torn (inl bad) = bad.0.0 torn
torn_is_whole bytes torn (inr differs) = header_is_whole bytes differs.left torn differs.parts

no_lines : AreLogged []
no_lines = record { legal = tt; said = tt; few_names = omega arith }

left_of : (live : LiveState) (lines : List (Line Text)) → AreLogged lines
    → restores.IsLeftBy lines live → LeadsTo lines (known_of live)
left_of live lines logged left = record {
  legal = logged.legal;
  names_are = left.names;
  state_is = left.state;
  few_calls = left.calls;
}

-- what follows so many bytes of a log that is not damaged: a torn line, or nothing
abbrev pub IsTornOrNothing : Rest → ℕ → ℕ → Type 0
IsTornOrNothing rest all size = (rest ≡ Torn) ⊎ ((rest ≡ Nothing) × (all ≤ size))

rest_of : (past : Past) (rest : Rest) (bytes : Text) (size : ℕ) (lines : List (Line Text))
    → (IsDamagedAfter past bytes lines → ⊥) → IsTornOrNothing rest (length bytes) size
    → IsRest past rest bytes (take size bytes) lines
rest_of past rest bytes size lines whole (inl is) =
    subst (λ r. IsRest past r bytes (take size bytes) lines) (sym is) whole
rest_of past rest bytes size lines whole (inr is) =
    subst (λ r. IsRest past r bytes (take size bytes) lines) (sym is.0)
    (take_all size bytes is.1, whole)

-- what a log begins with and the lines are not longer than the log
log_within : (past : Past) (bytes left : Text) (lines : List (Line Text)) (size : ℕ)
    → bytes ≡ log_text past lines ++ left → size ≡ length (log_text past lines)
    → size ≤ length bytes
log_within past bytes left lines size parts e =
    omega (arith, ap length parts, length-append (log_text past lines) left, e)

-- all lines of the log are kept
pub all_kept : (salvage : Bool) (past : Past) (bytes : Text) (restored : Restored) (rest : Rest)
    → IsRestored past bytes restored → IsTornOrNothing rest (length bytes) restored.bytes
    → IsKeptFrom salvage past bytes (record { restored = restored; rest = rest })
all_kept salvage past bytes restored rest (inl (lines, torn, is, to)) follows = record {
  lines = lines;
  logged = is.logged;
  restored = inl (torn, is);
  left = left_of restored.live (past_lines past ++ lines) is.logged to.left;
  within = log_within past bytes torn lines restored.bytes is.parts to.bytes_are;
  count = to.lines_are;
  are_kept = inl (ap (λ n. take n bytes) to.bytes_are
      ∙ first_bytes past bytes torn lines is.parts);
  rest = rest_of past rest bytes restored.bytes lines (log_is_whole past bytes torn lines is)
      follows;
}
all_kept salvage past bytes restored rest (inr (torn, no_past, left, none, size)) follows =
    subst (λ (p : Past). IsKeptFrom salvage p bytes (record { restored = restored; rest = rest }))
    (sym no_past)
    (record {
      lines = [];
      logged = no_lines;
      restored = inr (inl (torn, refl, refl));
      left = left_of restored.live [] no_lines left;
      within = omega (arith, size);
      count = none;
      are_kept = inr (size, refl, refl);
      rest = rest_of None rest bytes restored.bytes [] (torn_is_whole bytes torn) follows;
    })

-- no bytes begin with no dump
none_has_none : (cut : Text) → cut ≡ [] → HasPast None cut
none_has_none cut none rest e =
    let bad : [] ≡ dump_header ++ rest = sym none ∙ e in absurd (cc)

none_is_torn : (cut : Text) → cut ≡ [] → IsTornHeader cut
none_is_torn cut none = (header_words, ap (λ (t : Text). t ++ header_words) (sym none))

module _ (salvage : Bool) (past : Past) (bytes cut : Text) (size : ℕ) (cut_is : cut ≡ take size bytes)
  where
    no_bytes : size ≡ 0 → cut ≡ []
    no_bytes zero = cut_is ∙ ap (λ n. take n bytes) zero

    -- the lines before the one that differs are a log
    first_log : (lines : List (Line Text)) → DiffersBehind past bytes lines
        → size ≡ length (log_text past lines) → IsLogOf past cut lines []
    first_log lines differs e = record {
      is_past = differs.is_past;
      logged = differs.logged;
      parts = cut_is ∙ ap (λ n. take n bytes) e
          ∙ first_bytes past bytes differs.left lines differs.parts
          ∙ sym (append-nil (log_text past lines));
      free = contains_none 10;
    }

    -- the lines before the one that differs are kept
    pub first_kept : (number count : ℕ) (restored : Restored) → IsTrue salvage
        → DiffersAt past bytes number count size
        → ((p : Past) → HasPast p cut → IsRestored p cut restored)
        → ((p : Past) (lines : List (Line Text)) (torn : Text) → IsLogOf p cut lines torn
        → IsRestoredTo p lines restored)
        → IsKeptFrom salvage past bytes (record { restored = restored; rest = Damaged })
    first_kept number count restored may (inl (bad, no_past, one, none, zero)) is same =
        subst (λ (p : Past). IsKeptFrom salvage p bytes (record { restored = restored; rest = Damaged }))
        (sym no_past) (by (is None (none_has_none cut (no_bytes zero))))
      where
        by : IsRestored None cut restored
            → IsKeptFrom salvage None bytes (record { restored = restored; rest = Damaged })
        by (inl (lines, torn, log, to)) =
            let text = lines_text_of lines in
            let whole : [] ≡ log_header ++ (text ++ torn) =
            sym (no_bytes zero) ∙ log.parts ∙ append_assoc log_header text torn in
            absurd (cc)
        by (inr (torn, again, left, lines, bytes_none)) = record {
          lines = [];
          logged = no_lines;
          restored = inr (inr (may, inl (bad, refl, refl)));
          left = left_of restored.live [] no_lines left;
          within = omega (arith, bytes_none);
          count = lines;
          are_kept = inr (bytes_none, refl, refl);
          rest = inl (bad, refl, refl);
        }
    first_kept number count restored may (inr (lines, differs, at_line, lines_are, bytes_are)) is
        same =
        let to : IsRestoredTo past lines restored =
        same past lines [] (first_log lines differs bytes_are) in
        record {
          lines = lines;
          logged = differs.logged;
          restored = inr (inr (may, inr differs));
          left = left_of restored.live (past_lines past ++ lines) differs.logged to.left;
          within = log_within past bytes differs.left lines restored.bytes differs.parts
              to.bytes_are;
          count = to.lines_are;
          are_kept = inl (ap (λ n. take n bytes) to.bytes_are
              ∙ first_bytes past bytes differs.left lines differs.parts);
          rest = inr differs;
        }

    -- the first bytes of a log have no more lines than it
    many_more : HasTooMany past cut → HasTooMany past bytes
    many_more (lines, rest, logged, parts, has, many) = (
      lines,
      rest ++ drop size bytes,
      logged,
      sym (take-append-drop size bytes)
          ∙ ap (λ (t : Text). t ++ drop size bytes) (sym cut_is ∙ parts)
          ∙ append_assoc (log_text past lines) rest (drop size bytes),
      λ none. Contains-append_left rest (drop size bytes) 10 (has none),
      many,
    )

    -- the first bytes of a log are refused only for want of room, or for their dump
    by_room : (fault : RestoreFault) → IsOfRoom fault → IsRestoreCause past cut fault
        → IsRestoreCause past bytes fault × IsOfRoom fault
    by_room Memory room cause = (tt, tt)
    by_room Worn room many = (many_more many, tt)
    by_room (State line) room cause = absurd room
    by_room (Differs n c s) room cause = absurd room

    first_refused_by : (number count : ℕ) (fault : RestoreFault)
        → DiffersAt past bytes number count size
        → ((p : Past) (lines : List (Line Text)) (torn : Text) → IsLogOf p cut lines torn
        → IsOfRoom fault)
        → (IsTornHeader cut → IsOfRoom fault)
        → ((p : Past) → HasPast p cut → IsRestoreCause p cut fault)
        → IsRestoreCause past bytes fault × IsOfRoom fault
    first_refused_by number count fault (inl (bad, no_past, one, none, zero)) only begun cause =
        by_room fault
        (begun (none_is_torn cut (no_bytes zero)))
        (subst (λ (p : Past). IsRestoreCause p cut fault) (sym no_past)
        (cause None (none_has_none cut (no_bytes zero))))
    first_refused_by number count fault (inr (lines, differs, at_line, lines_are, bytes_are)) only
        begun cause =
        let log = first_log lines differs bytes_are in
        by_room fault (only past lines [] log) (cause past (has_past past cut [] lines log))

module _ (salvage : Bool) (bytes : Text) where
  -- a log that is not opened has the cause for which its lines could not be done again
  pub refused : (fault : RestoreFault)
      → ((number count size : ℕ) → fault ≡ Differs number count size → salvage ≡ false)
      → ((past : Past) → HasPast past bytes → IsRestoreCause past bytes fault)
      → IsOpenCause salvage bytes (unrestored fault)
  refused Memory salvages cause = tt
  refused Worn salvages cause = cause
  refused (State line) salvages cause = cause
  refused (Differs n c s) salvages cause = λ past has. (salvages n c s refl, (c, s, cause past has))

  refused_by_room : (fault : RestoreFault)
      → ((past : Past) → HasPast past bytes
      → IsRestoreCause past bytes fault × IsOfRoom fault)
      → IsOpenCause salvage bytes (unrestored fault)
  refused_by_room Memory cause = tt
  refused_by_room Worn cause = λ past has. (cause past has).0
  refused_by_room (State line) cause = λ past has. (cause past has).1
  refused_by_room (Differs n c s) cause = λ past has. absurd (cause past has).1

  pub first_refused : (cut : Text) (number count size : ℕ) (fault : RestoreFault)
      → cut ≡ take size bytes
      → ((past : Past) → HasPast past bytes → DiffersAt past bytes number count size)
      → ((past : Past) (lines : List (Line Text)) (torn : Text) → IsLogOf past cut lines torn
      → IsOfRoom fault)
      → (IsTornHeader cut → IsOfRoom fault)
      → ((past : Past) → HasPast past cut → IsRestoreCause past cut fault)
      → IsOpenCause salvage bytes (unrestored fault)
  first_refused cut number count size fault cut_is differs only begun cause =
      refused_by_room fault (λ past has.
      first_refused_by salvage past bytes cut size cut_is number count fault (differs past has)
      only begun cause)
