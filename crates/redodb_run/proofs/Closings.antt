-- The closing lines of a run: each is answered `ok`, they are no more than the lines before them,
-- and their names are among the names of those.
use Rattle.std.proofs.Common.{◌≡◌, ◌≢◌, ℕ, ◌+◌, ◌≤◌, ◌==◌, suc, Bool, cond, Some, List, [], ◌∷◌, ◌++◌, length, map, refl, sym, ap, ◌∙◌, subst, arith, append_assoc, append-nil}
use Rattle.std.specs.List.{AllByRecursion, filter, cons_option}
use Rattle.std.proofs.lemmas.Bool.{eq-eqb, ne_eqb}
use Rattle.std.proofs.lemmas.List.{map_push}
use Rattle.std.proofs.lemmas.List.Elements.{filter-append}
use Rattle.std.proofs.lemmas.List.Sums.{length-filter, count_by-le-length}
use mathlib.Core.Logic.{dite}
use native.Mathlib.Decide.{ℕ_discrete}
use Rattle.redodb_model.specs.Names.{Naming}
use Rattle.redodb_model.specs.Support.Names.{IsNaming}
use Rattle.redodb_model.specs.State.{State, empty}
use Rattle.redodb_model.specs.Command.{Command, Lock, Start, asked_lock}
use Rattle.redodb_model.specs.Reply.{Okay}
use Rattle.redodb_model.specs.Step.{Answers}
use Rattle.redodb_model.specs.History.{Line, part_of, left_by, Legal, LegalFrom}
use Rattle.redodb_model.specs.Closing.{closing_of, ClosesAfter, holds, builds}
use Rattle.redodb_model.specs.Placed.{PlacedLine, Row, line_of}
use Rattle.redodb_model.proofs.Letting.{closing_accepted}
use Rattle.redodb_model.proofs.Nexts.{past_of, past_of_more, next_line_past, closing_number_is}
use Rattle.redodb_model.proofs.OneMore.{left_by-append, legal_more}
use Rattle.redodb_model.proofs.Parts.{IsClosed}
use Rattle.redodb_model.proofs.Room.{AllOkay, asked_start, locked_by, started_by, closed_few}
use Rattle.redodb_model.proofs.Unique.{one_answer}

module _ {N : Type 0} where
  own_first : (s : ℕ) (line : Line N) (lines : List (Line N)) → line.session ≡ s
      → part_of s (line ∷ lines) ≡ line ∷ part_of s lines
  own_first s line lines e =
      ap (λ b. cond b (line ∷ part_of s lines) (part_of s lines)) (eq-eqb line.session s e)

  other_first : (s : ℕ) (line : Line N) (lines : List (Line N)) → line.session ≢ s
      → part_of s (line ∷ lines) ≡ part_of s lines
  other_first s line lines n =
      ap (λ b. cond b (line ∷ part_of s lines) (part_of s lines)) (ne_eqb line.session s n)

  own_last : (s : ℕ) (lines : List (Line N)) (line : Line N) → line.session ≡ s
      → part_of s (lines ++ line ∷ []) ≡ part_of s lines ++ line ∷ []
  own_last s lines line e =
      filter-append (λ (l : Line N). l.session == s) lines (line ∷ [])
      ∙ ap (λ ys. part_of s lines ++ ys) (own_first s line [] e)

  other_last : (s : ℕ) (lines : List (Line N)) (line : Line N) → line.session ≢ s
      → part_of s (lines ++ line ∷ []) ≡ part_of s lines
  other_last s lines line n =
      filter-append (λ (l : Line N). l.session == s) lines (line ∷ [])
      ∙ ap (λ ys. part_of s lines ++ ys) (other_first s line [] n) ∙ append-nil (part_of s lines)

  -- all lines of a session's part are its own
  pub of_session : (s : ℕ) (lines : List (Line N))
      → AllByRecursion (λ line. line.session ≡ s) (part_of s lines)
  of_session s [] = tt
  of_session s (line ∷ lines) = dite (ℕ_discrete line.session s)
      (λ q. subst (AllByRecursion (λ (l : Line N). l.session ≡ s)) (sym (own_first s line lines q))
      (q, of_session s lines))
      (λ n. subst (AllByRecursion (λ (l : Line N). l.session ≡ s))
      (sym (other_first s line lines n)) (of_session s lines))

  abbrev pub AreOkay : List (Line N) → Type 0
  AreOkay lines = AllByRecursion (λ line. line.reply ≡ Okay) lines

module _ {N : Type 0} {naming : Naming N} (law : IsNaming naming) (s : ℕ) where
  one_accepted : (before : List (Line N)) (line : Line N) → line.session ≡ s → Legal naming before
      → Answers naming (left_by naming empty before) line.session line.command line.reply
      → closing_of naming (part_of s before) ≡ Some line.command → line.reply ≡ Okay
  one_accepted before line e legal answers closes =
      one_answer law (left_by naming empty before) line.session line.command line.reply Okay answers
      (subst (λ t. Answers naming (left_by naming empty before) t line.command Okay) (sym e)
      (closing_accepted law before s line.command legal closes))

  abbrev Rest : List (Line N) → List (Line N) → Type 0
  Rest before lines =
      Legal naming before × LegalFrom naming (left_by naming empty before) lines

  go_on : (before : List (Line N)) (line : Line N) (lines : List (Line N))
      → Rest before (line ∷ lines) → Rest (before ++ line ∷ []) lines
  go_on before line lines rest = (
    legal_more naming empty before line rest.0 rest.1.0,
    subst (λ (st : State N). LegalFrom naming st lines)
        (sym (left_by-append naming empty before (line ∷ []))) rest.1.1,
  )

  -- a line of the session is one of its own ones, or else the first closing one
  own_line : (before : List (Line N)) (line : Line N) (lines : List (Line N))
      → ((own closing : List (Line N)) → part_of s lines ≡ own ++ closing
      → ClosesAfter naming (part_of s (before ++ line ∷ []) ++ own) closing → AreOkay closing)
      → (own closing : List (Line N)) → line.session ≡ s → Rest before (line ∷ lines)
      → line ∷ part_of s lines ≡ own ++ closing
      → ClosesAfter naming (part_of s before ++ own) closing → AreOkay closing
  own_line before line lines later [] [] e rest parted closes = tt
  own_line before line lines later [] (c ∷ closing) e rest parted closes =
      let same : line ≡ c = cc in
      let left : part_of s lines ≡ closing = cc in
      let part = part_of s before in
      let first : closing_of naming part ≡ Some line.command =
      ap (closing_of naming) (sym (append-nil part)) ∙ closes.0
      ∙ ap (λ (l : Line N). Some l.command) (sym same) in
      let after : (part ++ []) ++ c ∷ [] ≡ part_of s (before ++ line ∷ []) ++ [] =
      ap (λ (ls : List (Line N)). ls ++ c ∷ []) (append-nil part)
      ∙ ap (λ (l : Line N). part ++ l ∷ []) (sym same) ∙ sym (own_last s before line e)
      ∙ sym (append-nil (part_of s (before ++ line ∷ []))) in (
        ap (λ (l : Line N). l.reply) (sym same)
            ∙ one_accepted before line e rest.0 rest.1.0 first,
        later [] closing left
            (subst (λ (ls : List (Line N)). ClosesAfter naming ls closing) after closes.1),
      )
  own_line before line lines later (o ∷ own) closing e rest parted closes =
      let same : line ≡ o = cc in
      let left : part_of s lines ≡ own ++ closing = cc in
      let part = part_of s before in
      let after : part ++ o ∷ own ≡ part_of s (before ++ line ∷ []) ++ own =
      ap (λ (l : Line N). part ++ l ∷ own) (sym same)
      ∙ sym (append_assoc part (line ∷ []) own)
      ∙ ap (λ (ls : List (Line N)). ls ++ own) (sym (own_last s before line e)) in
      later own closing left
      (subst (λ (ls : List (Line N)). ClosesAfter naming ls closing) after closes)

  -- the closing lines that come after these own ones, which come after those before
  accepted_after : (before lines own closing : List (Line N)) → Rest before lines
      → part_of s lines ≡ own ++ closing → ClosesAfter naming (part_of s before ++ own) closing
      → AreOkay closing
  accepted_after before [] [] [] rest parted closes = tt
  accepted_after before [] [] (c ∷ closing) rest parted closes = absurd (cc)
  accepted_after before [] (o ∷ own) closing rest parted closes = absurd (cc)
  accepted_after before (line ∷ lines) own closing rest parted closes =
      let more = go_on before line lines rest in
      dite (ℕ_discrete line.session s)
      (λ e. own_line before line lines
      (λ xs ys q r. accepted_after (before ++ line ∷ []) lines xs ys more q r)
      own closing e rest (sym (own_first s line lines e) ∙ parted) closes)
      (λ n. accepted_after (before ++ line ∷ []) lines own closing more
      (sym (other_first s line lines n) ∙ parted)
      (subst (λ (part : List (Line N)). ClosesAfter naming (part ++ own) closing)
      (sym (other_last s before line n)) closes))

  -- in a legal history each closing line is answered `ok`
  pub closings_accepted : (lines own closing : List (Line N)) → Legal naming lines
      → part_of s lines ≡ own ++ closing → ClosesAfter naming own closing → AreOkay closing
  closings_accepted lines own closing legal parted closes =
      accepted_after [] lines own closing (tt, legal) parted closes

-- the lines as a journal has them, with numbers from n on
module _ {N : Type 0} (s : ℕ) where
  abbrev placed : ℕ → Line N → PlacedLine N
  placed n line = record {
    session = line.session;
    number = n;
    command = line.command;
    reply = line.reply;
    place = Row 0;
  }

  abbrev all_placed : ℕ → List (Line N) → List (PlacedLine N)
  all_placed n [] = []
  all_placed n (line ∷ lines) = placed n line ∷ all_placed (n + 1) lines

  as_they_are : (n : ℕ) (lines : List (Line N)) → map line_of (all_placed n lines) ≡ lines
  as_they_are n [] = refl
  as_they_are n (line ∷ lines) = ap (λ ls. line ∷ ls) (as_they_are (n + 1) lines)

  length-placed : (n : ℕ) (lines : List (Line N)) → length (all_placed n lines) ≡ length lines
  length-placed n [] = refl
  length-placed n (line ∷ lines) = ap suc (length-placed (n + 1) lines)

  okay_placed : (n : ℕ) (lines : List (Line N)) → AreOkay lines → AllOkay (all_placed n lines)
  okay_placed n [] okay = tt
  okay_placed n (line ∷ lines) okay = (okay.0, okay_placed (n + 1) lines okay.1)

  module _ (naming : Naming N) where
    closed_placed : (before : List (PlacedLine N)) (n : ℕ) (own closing : List (Line N))
        → past_of before ≡ n → map line_of before ≡ own
        → AllByRecursion (λ line. line.session ≡ s) closing → ClosesAfter naming own closing
        → IsClosed naming s [] before (all_placed n closing)
    closed_placed before n own [] past same of closes = tt
    closed_placed before n own (line ∷ closing) past same of closes =
        let number = closing_number_is [] before in (
          of.0,
          record {
            ended = next_line_past [] before (omega arith);
            closes = ap (closing_of naming) same ∙ closes.0;
            number = omega arith;
            past = omega arith;
            from = omega arith;
          },
          closed_placed (before ++ placed n line ∷ []) (n + 1) (own ++ line ∷ []) closing
              (past_of_more before (placed n line))
              (map_push line_of before (placed n line)
              ∙ ap (λ ls. ls ++ line ∷ []) same) of.1 closes.1,
        )

module _ {N : Type 0} where
  one_asked : (command : Command N) (xs ys : List N)
      → length (cons_option (asked_lock command) xs) + length (cons_option (asked_start command) ys)
      ≤ suc (length xs + length ys)
  one_asked (Lock t) xs ys = omega arith
  one_asked (Start t) xs ys = omega arith
  one_asked command xs ys = omega arith

  -- a line locks or starts at most one name
  asked_few : (own : List (Line N))
      → length (locked_by own) + length (started_by own) ≤ length own
  asked_few [] = omega arith
  asked_few (line ∷ own) =
      omega (arith, one_asked line.command (locked_by own) (started_by own), asked_few own)

  kept_few : (p : N → Bool) (xs : List N) → length (filter p xs) ≤ length xs
  kept_few p xs = let same = length-filter p xs in let few = count_by-le-length p xs in omega arith

-- there are no more closing lines than lines before them
pub closings_few : {N : Type 0} {naming : Naming N} (law : IsNaming naming) (s : ℕ)
    (own closing : List (Line N)) → AllByRecursion (λ line. line.session ≡ s) closing
    → ClosesAfter naming own closing → AreOkay closing → length closing ≤ length own
closings_few {naming = naming} law s own closing of closes okay =
    let before = all_placed s 0 own in
    let n = past_of before in
    let same = as_they_are s 0 own in
    let few = (closed_few law s [] before (all_placed s n closing)
    (closed_placed s naming before n own closing refl same of closes)
    (okay_placed s n closing okay)).1 in
    let long = length-placed s n closing in
    let held = kept_few (holds naming (map line_of before)) (locked_by (map line_of before)) in
    let building =
    kept_few (builds naming (map line_of before)) (started_by (map line_of before)) in
    omega (arith, asked_few (map line_of before), ap length same)
