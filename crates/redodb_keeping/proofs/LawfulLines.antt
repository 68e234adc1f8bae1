-- The lines of rounds after lines that sessions say: sessions say them too, and they have few names.
use Rattle.std.proofs.Common.{◌≡◌, ℕ, ◌<◌, ◌≤◌, Bool, true, false, cond, List, [], ◌∷◌, ◌++◌, Option, Some, None, option_map, length, refl, sym, ap, ◌∙◌, subst, append-nil, append_assoc, length-append, inl, inr, arith}
use Rattle.std.specs.Prelude.{◌&&◌, ◌==◌, not, nat_le}
use Rattle.std.specs.List.{All, AllByRecursion, filter, filter_map, cons_option, flat_map, list_all}
use Rattle.std.proofs.lemmas.Bool.{leb-true}
use Rattle.std.proofs.lemmas.List.Elements.{All-contains, All-filter, All-from_recursion}
use Rattle.redodb_names.specs.Names.{is_name, is_reserved}
use Rattle.redodb_model.specs.Names.{Text, texts, is_visible}
use Rattle.redodb_model.specs.Command.{Command, Lock, Unlock, Failed, names_in, asked_lock}
use Rattle.redodb_model.specs.Reply.{Okay}
use Rattle.redodb_model.specs.History.{Line, part_of}
use Rattle.redodb_model.specs.Closing.{ClosesAfter, builds, held_in, holds, least, letting_go}
use Rattle.redodb_model.proofs.Letting.{least_in}
use Rattle.redodb_text.proofs.Steps.{both}
use Rattle.redodb_history.specs.Support.HistoryTexts.{IsLineSaid, IsSaid}
use Rattle.redodb_history.proofs.CommandsSaid.{command_said, form_has_names}
use Rattle.redodb_history.proofs.KnownNames.{IsKnown, AreKnown, added_are_known, with_names-known}
use Rattle.redodb_history.proofs.RecordedLines.{all_more}
use Rattle.redodb_live.proofs.Lines.{all_both}
use Rattle.redodb_live.specs.Lines.{names_after}
use Rattle.redodb_dump.proofs.Pieces.{all_then}
use Rattle.redodb_log.proofs.Grown.{all_parts, names_after-append, own_names}
use Rattle.redodb_keeping.specs.Rounds.{Round, IsRound, IsAnswered, IsEnded, AreRounds, lines_in}

-- P is true of the names of each line
abbrev pub OfNames : (Text → Type 0) → Line Text → Type 0
OfNames P line = AllByRecursion P (own_names line)

one_kept : {X : Type 0} (P : X → Type 0) (b : Bool) (x : X) (xs : List X) → P x
    → AllByRecursion P xs → AllByRecursion P (cond b (x ∷ xs) xs)
one_kept P true x xs p h = (p, h)
one_kept P false x xs p h = h

all_filter : {X : Type 0} (P : X → Type 0) (p : X → Bool) (xs : List X) → AllByRecursion P xs
    → AllByRecursion P (filter p xs)
all_filter P p [] h = tt
all_filter P p (x ∷ xs) h = one_kept P (p x) x (filter p xs) h.0 (all_filter P p xs h.1)

-- what is true of each line is true of a session's
own_lines : (P : Line Text → Type 0) (s : ℕ) (lines : List (Line Text)) → AllByRecursion P lines
    → AllByRecursion P (part_of s lines)
own_lines P s lines h = all_filter P (λ (line : Line Text). line.session == s) lines h

-- of each name in the lines, and of each line's names
pub all_names : (P : Text → Type 0) (lines : List (Line Text))
    → AllByRecursion (OfNames P) lines → AllByRecursion P (flat_map own_names lines)
all_names P [] h = tt
all_names P (line ∷ lines) h =
    all_both P (own_names line) (flat_map own_names lines) h.0 (all_names P lines h.1)

pub each_names : (P : Text → Type 0) (lines : List (Line Text))
    → AllByRecursion P (flat_map own_names lines) → AllByRecursion (OfNames P) lines
each_names P [] h = tt
each_names P (line ∷ lines) h =
    let parts = all_parts P (own_names line) (flat_map own_names lines) h in
    (parts.0, each_names P lines parts.1)

lock_named : (P : Text → Type 0) (command : Command Text) (ts : List Text)
    → AllByRecursion P (names_in command) → AllByRecursion P ts
    → AllByRecursion P (cons_option (asked_lock command) ts)
lock_named P (Lock t) ts of all = (of.0, all)
lock_named P command ts of all = all

locks_named : (P : Text → Type 0) (own : List (Line Text)) → AllByRecursion (OfNames P) own
    → AllByRecursion P (filter_map (λ (line : Line Text). asked_lock line.command) own)
locks_named P [] all = tt
locks_named P (line ∷ own) all =
    lock_named P line.command (filter_map (λ (line : Line Text). asked_lock line.command) own) all.0
    (locks_named P own all.1)

held_named : (P : Text → Type 0) (own : List (Line Text)) → AllByRecursion (OfNames P) own
    → All P (held_in texts own)
held_named P own all =
    let asked = filter_map (λ (line : Line Text). asked_lock line.command) own in
    All-filter (holds texts own) P asked (All-from_recursion P asked (locks_named P own all))

module _ (P : Text → Type 0) (R : Command Text → Type 0)
    (lets_go : (t : Text) (b : Bool) → P t → R (cond b (Failed t) (Unlock t)))
    (then_named : (command : Command Text) → R command → AllByRecursion P (names_in command))
  where
    closing_by : (own : List (Line Text)) (o : Option Text) (command : Command Text)
        → AllByRecursion (OfNames P) own → least texts (held_in texts own) ≡ o
        → option_map (letting_go texts own) o ≡ Some command → R command
    closing_by own None command all is e = absurd cc
    closing_by own (Some t) command all is e =
        let same : letting_go texts own t ≡ command = cc in
        subst R same (lets_go t (builds texts own t)
        (All-contains P (held_in texts own) t (held_named P own all)
        (least_in texts (held_in texts own) t is)))

    -- a closing command is about a name of the session's lines
    pub closing_all : (own lines : List (Line Text)) → AllByRecursion (OfNames P) own
        → ClosesAfter texts own lines → AllByRecursion (λ line. R line.command) lines
    closing_all own [] all closes = tt
    closing_all own (line ∷ lines) all closes =
        let first = closing_by own (least texts (held_in texts own)) line.command all refl closes.0 in (
          first,
          closing_all (own ++ line ∷ []) lines
              (all_more (OfNames P) own line all (then_named line.command first)) closes.1,
        )

-- names are short
short_name : (t : Text) → is_name t ≡ true → length t ≤ 255
unfolding is_name
short_name t is =
    let long = nat_le 1 (length t) && nat_le (length t) 255 in
    let good = both long (list_all is_visible t)
    (both (long && list_all is_visible t) (not (is_reserved t)) is).0 in
    let short = (both (nat_le 1 (length t)) (nat_le (length t) 255) good.0).1 in
    leb-true (length t) 255 short

said_to_close : (t : Text) (b : Bool) → is_name t ≡ true → IsSaid (cond b (Failed t) (Unlock t))
said_to_close t true is = (is, let short = short_name t is in omega (arith, short, length-append t []))
said_to_close t false is = (is, let short = short_name t is in omega (arith, short, length-append t []))

-- a session's closing commands can be said
closing_said : (own lines : List (Line Text)) → AllByRecursion (IsLineSaid 65535) own
    → ClosesAfter texts own lines → AllByRecursion (λ line. IsSaid line.command) lines
closing_said own lines said closes =
    closing_all (λ t. is_name t ≡ true) IsSaid said_to_close
    (λ command is. form_has_names command is.0) own lines
    (all_then (IsLineSaid 65535) (OfNames (λ t. is_name t ≡ true)) own
    (λ line is. form_has_names line.command is.said.0) said) closes

known_to_close : (names : List Text) (t : Text) (b : Bool) → IsKnown names t
    → AreKnown names (names_in (cond b (Failed t) (Unlock t)))
known_to_close names t true is = (is, tt)
known_to_close names t false is = (is, tt)

-- and name nothing new
closing_known : (names : List Text) (own lines : List (Line Text))
    → AllByRecursion (OfNames (IsKnown names)) own → ClosesAfter texts own lines
    → AllByRecursion (OfNames (IsKnown names)) lines
closing_known names own lines known closes =
    closing_all (IsKnown names) (λ command. AreKnown names (names_in command))
    (known_to_close names) (λ command is. is) own lines known closes

-- each name of the lines is among theirs
pub names_known : (lines : List (Line Text))
    → AllByRecursion (OfNames (IsKnown (names_after lines))) lines
names_known lines =
    each_names (IsKnown (names_after lines)) lines (added_are_known [] (flat_map own_names lines))

abbrev HaveFewNames : List (Line Text) → Type 0
HaveFewNames lines = length (names_after lines) ≤ 16777216

module _ (before : List (Line Text)) (round : Round) where
  ended_said : (is : IsEnded before round) → AllByRecursion (IsLineSaid 65535) before
      → AllByRecursion (IsLineSaid 65535) round.lines
  ended_said is said =
      let own = own_lines (IsLineSaid 65535) is.session before said in
      each round.lines is.accepted
      (closing_said (part_of is.session before) round.lines own is.closes)
    where
      each : (lines : List (Line Text))
          → AllByRecursion (λ line. (line.session ≡ is.session) × (line.reply ≡ Okay)) lines
          → AllByRecursion (λ line. IsSaid line.command) lines
          → AllByRecursion (IsLineSaid 65535) lines
      each [] from all = tt
      each (line ∷ lines) from all = (
        record {
          session = subst (λ s. s < 65535) (sym from.0.0) is.asks.0;
          said = all.0;
        },
        each lines from.1 all.1,
      )

  answered_said : IsAnswered before round → AllByRecursion (IsLineSaid 65535) round.lines
  answered_said is =
      subst (AllByRecursion (IsLineSaid 65535)) (sym is.lines_are) (
        record {
          session = is.asks.0;
          said = command_said is.text is.line.command is.parsed;
        },
        tt,
      )

  nothing_said : round.lines ≡ [] → AllByRecursion (IsLineSaid 65535) round.lines
  nothing_said none = subst (AllByRecursion (IsLineSaid 65535)) (sym none) tt

  -- sessions say the lines of a round
  round_said : IsRound before round → AllByRecursion (IsLineSaid 65535) before
      → AllByRecursion (IsLineSaid 65535) round.lines
  round_said (inl is) said = answered_said is
  round_said (inr (inl is)) said = ended_said is said
  round_said (inr (inr (inl is))) said = nothing_said is.none
  round_said (inr (inr (inr (inl is)))) said = nothing_said is.none
  round_said (inr (inr (inr (inr is)))) said = nothing_said is.none

  ended_names : (is : IsEnded before round) → names_after (before ++ round.lines) ≡ names_after before
  ended_names is =
      let names = names_after before in
      let own = own_lines (OfNames (IsKnown names)) is.session before (names_known before) in
      names_after-append before round.lines
      ∙ with_names-known names (flat_map own_names round.lines)
      (all_names (IsKnown names) round.lines
      (closing_known names (part_of is.session before) round.lines own is.closes))

  nothing_named : round.lines ≡ [] → HaveFewNames before → HaveFewNames (before ++ round.lines)
  nothing_named none few =
      subst HaveFewNames (sym (append-nil before) ∙ ap (λ ls. before ++ ls) (sym none)) few

  -- after a round the names are few
  round_names : IsRound before round → HaveFewNames before → HaveFewNames (before ++ round.lines)
  round_names (inl is) few =
      subst (λ ls. HaveFewNames (before ++ ls)) (sym is.lines_are) is.few_names
  round_names (inr (inl is)) few = subst (λ ns. length ns ≤ 16777216) (sym (ended_names is)) few
  round_names (inr (inr (inl is))) few = nothing_named is.none few
  round_names (inr (inr (inr (inl is)))) few = nothing_named is.none few
  round_names (inr (inr (inr (inr is)))) few = nothing_named is.none few

pub rounds_said : (before : List (Line Text)) (rounds : List Round) → AreRounds before rounds
    → AllByRecursion (IsLineSaid 65535) before
    → AllByRecursion (IsLineSaid 65535) (before ++ lines_in rounds)
rounds_said before [] are said = subst (AllByRecursion (IsLineSaid 65535)) (sym (append-nil before)) said
rounds_said before (round ∷ rounds) are said =
    subst (AllByRecursion (IsLineSaid 65535))
    (append_assoc before round.lines (lines_in rounds))
    (rounds_said (before ++ round.lines) rounds are.1
    (all_both (IsLineSaid 65535) before round.lines said (round_said before round are.0 said)))

pub rounds_names : (before : List (Line Text)) (rounds : List Round) → AreRounds before rounds
    → length (names_after before) ≤ 16777216
    → length (names_after (before ++ lines_in rounds)) ≤ 16777216
rounds_names before [] are few =
    subst (λ ls. length (names_after ls) ≤ 16777216) (sym (append-nil before)) few
rounds_names before (round ∷ rounds) are few =
    subst (λ ls. length (names_after ls) ≤ 16777216)
    (append_assoc before round.lines (lines_in rounds))
    (rounds_names (before ++ round.lines) rounds are.1 (round_names before round are.0 few))
