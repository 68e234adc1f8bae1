-- A bound on the lines of a journal whose closing lines are answered `ok`, by the locks and starts
-- of its script.
use Rattle.std.proofs.Common.{◌≡◌, ℕ, ◌+◌, ◌-◌, ◌<◌, ◌≤◌, Bool, cond, List, [], ◌∷◌, ◌++◌, length, map, drop, get_or, refl, sym, ap, ◌∙◌, subst, arith, append_assoc, append-nil}
use Rattle.std.specs.List.{AllByRecursion, filter, cons_option, count_by, sum_by}
use Rattle.std.proofs.lemmas.List.{drop-drop, length-append, length-map}
use Rattle.std.proofs.lemmas.List.Sums.{sum_by-cons, sum_by-drop_more, sum_by-take-drop, length-filter, count_by-le-length}
use Rattle.redodb_model.specs.Names.{Naming}
use Rattle.redodb_model.specs.Support.Names.{IsNaming}
use Rattle.redodb_model.specs.Support.Room.{is_lock, is_start, is_failed, locks_in, starts_in, room_of}
use Rattle.redodb_model.specs.Command.{Command, Item, Lock, Start, Ood, asked_lock, commands_in}
use Rattle.redodb_model.specs.Reply.{Okay}
use Rattle.redodb_model.specs.Placed.{PlacedLine, line_of}
use Rattle.redodb_model.specs.Closing.{holds, builds}
use Rattle.redodb_model.specs.Journals.{numbered, IsJournal}
use Rattle.redodb_model.proofs.Members.{all_joined}
use Rattle.redodb_model.proofs.Nexts.{next_line_from, past_of, past_of_more, closing_number_is}
use Rattle.redodb_model.proofs.Parts.{IsLined, IsClosed, Parts, parts_after, journal_fits, lined_below, closed_past}
use Rattle.redodb_model.proofs.Room.{AllOkay, asked_start, locked_by, started_by, closed_few}

filter_short : {X : Type 0} (p : X → Bool) (xs : List X) → length (filter p xs) ≤ length xs
filter_short p xs =
    let same = length-filter p xs in
    let few = count_by-le-length p xs in
    omega arith

sum_drop : {X : Type 0} (f : X → ℕ) (xs : List X) (m n : ℕ) → m ≤ n
    → sum_by f (drop n xs) ≤ sum_by f (drop m xs)
sum_drop f xs m n le =
    let split = sum_by-take-drop f (drop m xs) (n - m) in
    let there : m + (n - m) ≡ n = omega arith in
    let same = ap (sum_by f) (drop-drop (n - m) m xs ∙ ap (λ k. drop k xs) there) in
    omega arith

sum_of_map : {X Y : Type 0} (f : Y → ℕ) (g : X → Y) (xs : List X)
    → sum_by f (map g xs) ≡ sum_by (λ x. f (g x)) xs
sum_of_map f g [] = refl
sum_of_map f g (x ∷ xs) =
    let here = sum_by-cons f (g x) (map g xs) in
    let there = sum_by-cons (λ y. f (g y)) x xs in
    let rest = sum_of_map f g xs in
    omega arith

module _ {N : Type 0} where
  one_locked : (command : Command N) (names : List N)
      → length (cons_option (asked_lock command) names)
      ≡ cond (is_lock command) 1 0 + length names
  one_locked (Lock t) names = omega arith
  one_locked command names = omega arith

  one_started : (command : Command N) (names : List N)
      → length (cons_option (asked_start command) names)
      ≡ cond (is_start command) 1 0 + length names
  one_started (Start t) names = omega arith
  one_started command names = omega arith

  locked_count : (own : List (PlacedLine N)) → length (locked_by (map line_of own))
      ≡ sum_by (λ line. cond (is_lock line.command) 1 0) own
  locked_count [] = refl
  locked_count (line ∷ own) =
      let first = sum_by-cons (λ (l : PlacedLine N). cond (is_lock l.command) 1 0) line own in
      let one = one_locked line.command (locked_by (map line_of own)) in
      let rest = locked_count own in
      omega arith

  started_count : (own : List (PlacedLine N)) → length (started_by (map line_of own))
      ≡ sum_by (λ line. cond (is_start line.command) 1 0) own
  started_count [] = refl
  started_count (line ∷ own) =
      let first = sum_by-cons (λ (l : PlacedLine N). cond (is_start l.command) 1 0) line own in
      let one = one_started line.command (started_by (map line_of own)) in
      let rest = started_count own in
      omega arith

  module _ (s : ℕ) (script : List (Item N)) where
    asked_from : (f : Command N → ℕ) (before lines : List (PlacedLine N))
        → IsLined s script before lines
        → sum_by (λ line. f line.command) lines
        ≤ sum_by f (drop (past_of before) (commands_in script))
    asked_from f before [] is = omega arith
    asked_from f before (line ∷ lines) is =
        let found = next_line_from script before (numbered line) is.1 in
        let from = found.from in
        let within = found.within in
        let commands = commands_in script in
        let long = length-map script (λ (item : Item N). item.command) in
        let here = sum_by-drop_more f commands line.number Ood (omega arith) in
        let said : f (get_or commands line.number Ood) ≡ f line.command = ap f found.command in
        let more : sum_by (λ (l : PlacedLine N). f l.command) lines
        ≤ sum_by f (drop (line.number + 1) commands) =
        subst (λ k. sum_by (λ (l : PlacedLine N). f l.command) lines
        ≤ sum_by f (drop k commands)) (past_of_more before line)
        (asked_from f (before ++ line ∷ []) lines is.2) in
        let first = sum_by-cons (λ (l : PlacedLine N). f l.command) line lines in
        let later = sum_drop f commands (past_of before) line.number from in
        omega arith

    -- the lines' commands, counted by f, are at most those of the script
    pub asked_within : (f : Command N → ℕ) (lines : List (PlacedLine N)) → IsLined s script [] lines
        → sum_by (λ line. f line.command) lines ≤ sum_by (λ item. f item.command) script
    asked_within f lines is =
        let few = asked_from f [] lines is in
        let same = sum_of_map f (λ (item : Item N). item.command) script in
        omega arith

  abbrev pub ClosingsOkay : List (Item N) → List (PlacedLine N) → Type 0
  ClosingsOkay script lines =
      AllByRecursion (λ line. length script ≤ line.number → line.reply ≡ Okay) lines

  closings_rest : (script : List (Item N)) (own lines : List (PlacedLine N))
      → ClosingsOkay script (own ++ lines) → ClosingsOkay script lines
  closings_rest script [] lines okay = okay
  closings_rest script (line ∷ own) lines okay = closings_rest script own lines okay.1

  all_okay : (script : List (Item N)) (lines : List (PlacedLine N)) → ClosingsOkay script lines
      → AllByRecursion (λ line. length script ≤ line.number) lines → AllOkay lines
  all_okay script [] okay past = tt
  all_okay script (line ∷ lines) okay past =
      (okay.0 past.0, all_okay script lines okay.1 past.1)

module _ {N : Type 0} {naming : Naming N} (law : IsNaming naming) (s : ℕ)
    (script : List (Item N)) where
  -- there are at most as many closing lines as the script has locks and starts, and at most as many
  -- failed as starts
  pub few_closing : (lines : List (PlacedLine N)) (parts : Parts naming s script [] lines)
      → ClosingsOkay script lines
      → (count_by (λ line. is_failed line.command) parts.closing ≤ starts_in script)
      × (length parts.closing ≤ locks_in script + starts_in script)
  few_closing lines parts okay =
      let own = parts.own in
      let closing = parts.closing in
      let told = all_okay script closing
      (closings_rest script own closing (subst (ClosingsOkay script) parts.both okay))
      (closed_past naming s script own closing parts.closed) in
      let few = closed_few law s script own closing parts.closed told in
      let failed = few.0 in
      let all = few.1 in
      let held = filter_short (holds naming (map line_of own)) (locked_by (map line_of own)) in
      let building =
      filter_short (builds naming (map line_of own)) (started_by (map line_of own)) in
      let locked = locked_count own in
      let started = started_count own in
      let locks = asked_within s script (λ (c : Command N). cond (is_lock c) 1 0) own parts.lined in
      let starts =
      asked_within s script (λ (c : Command N). cond (is_start c) 1 0) own parts.lined in
      (omega arith, omega arith)

  fits_by_parts : (lines : List (PlacedLine N)) → Parts naming s script [] lines
      → ClosingsOkay script lines → length lines ≤ room_of script
  fits_by_parts lines parts okay =
      let few = few_closing lines parts okay in
      let closing = few.1 in
      let own = journal_fits s script [] parts.own parts.lined (omega arith) in
      let both = ap length parts.both in
      let sum = length-append parts.own parts.closing in
      omega arith

  -- a journal has at most the script's lines and one line more for each that locks or starts
  pub journal_room : (lines : List (PlacedLine N)) → IsJournal naming s script lines
      → ClosingsOkay script lines → length lines ≤ room_of script
  journal_room lines is okay =
      fits_by_parts lines (parts_after naming s script [] lines is) okay

-- the numbers of a journal
all_less : {N : Type 0} (n m : ℕ) (lines : List (PlacedLine N)) → n ≤ m
    → AllByRecursion (λ line. line.number < n) lines
    → AllByRecursion (λ line. line.number < m) lines
all_less n m [] le all = tt
all_less n m (line ∷ lines) le all =
    let here = all.0 in (omega arith, all_less n m lines le all.1)

module _ {N : Type 0} (s : ℕ) (script : List (Item N)) where
  past_fits : (before lines : List (PlacedLine N)) → IsLined s script before lines
      → past_of before ≤ length script → past_of (before ++ lines) ≤ length script
  past_fits before [] is fits =
      subst (λ xs. past_of xs ≤ length script) (sym (append-nil before)) fits
  past_fits before (line ∷ lines) is fits =
      let within = (next_line_from script before (numbered line) is.1).within in
      let past = past_of_more before line in
      subst (λ xs. past_of xs ≤ length script) (append_assoc before (line ∷ []) lines)
      (past_fits (before ++ line ∷ []) lines is.2 (omega arith))

  closing_numbers : (naming : Naming N) (before lines : List (PlacedLine N)) (from below : ℕ)
      → IsClosed naming s script before lines → length script ≤ from → past_of before ≤ from
      → from + length lines ≤ below → AllByRecursion (λ line. line.number < below) lines
  closing_numbers naming before [] from below is fits past room = tt
  closing_numbers naming before (line ∷ lines) from below is fits past room =
      let number = is.1.number ∙ closing_number_is script before in
      let more = past_of_more before line in (
        omega arith,
        closing_numbers naming (before ++ line ∷ []) lines (from + 1) below is.2 (omega arith)
            (omega arith) (omega arith),
      )

module _ {N : Type 0} {naming : Naming N} (law : IsNaming naming) (s : ℕ)
    (script : List (Item N)) where
  -- they are below the bound that the script gives
  pub numbers_fit : (lines : List (PlacedLine N)) → IsJournal naming s script lines
      → ClosingsOkay script lines → AllByRecursion (λ line. line.number < room_of script) lines
  numbers_fit lines is okay =
      let parts = parts_after naming s script [] lines is in
      let few = (few_closing law s script lines parts okay).1 in
      subst (AllByRecursion (λ (line : PlacedLine N). line.number < room_of script))
      (sym parts.both)
      (all_joined (λ (line : PlacedLine N). line.number < room_of script) parts.own parts.closing
      (all_less (length script) (room_of script) parts.own (omega arith)
      (lined_below s script [] parts.own parts.lined))
      (closing_numbers s script naming parts.own parts.closing (length script) (room_of script)
      parts.closed (omega arith) (past_fits s script [] parts.own parts.lined (omega arith))
      (omega arith)))
