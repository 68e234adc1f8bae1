-- One line more at the end of a legal placed history: a row, a grant, a busy reply, a release.
use Rattle.std.proofs.Common.{◌≡◌, ℕ, ◌+◌, ◌-◌, ◌/◌, ◌%◌, Bool, true, false, cond, eqb, List, [], ◌∷◌, ◌++◌, Some, map, refl, sym, ap, ◌∙◌, subst, inl, inr, arith, append_assoc, append-nil, eq-eqb, ne_eqb}
use Rattle.std.proofs.lemmas.List.{map_push}
use Rattle.redodb_model.specs.Names.{Naming}
use Rattle.redodb_model.specs.Support.Names.{IsNaming}
use Rattle.redodb_model.specs.State.{State, empty, target_state}
use Rattle.redodb_model.specs.Command.{Command, Item, Lock, Unlock, target_of}
use Rattle.redodb_model.specs.Reply.{Reply, Okay}
use Rattle.redodb_model.specs.Reply as replies
use Rattle.redodb_model.specs.Step.{after, Replies, is_built_by, is_held_by}
use Rattle.redodb_model.specs.History.{left_by, LegalFrom, Legal}
use Rattle.redodb_model.proofs.OneMore.{legal_more}
use Rattle.redodb_model.specs.Placed.{Place, Row, Granted, Busy, Released, PlacedLine, line_of, is_claim, Fits, part_of, rows_in, grants_in, releases_in, Follows, IsPlacedAfter, IsPlaced}
use Rattle.redodb_model.specs.Support.Placed.{holds_by}
use Rattle.redodb_history_laws.specs.ByRows.{Stands, records_left}
use Rattle.redodb_history_laws.specs.Events.{GoesOnBy, moved_by}
use Rattle.redodb_history_laws.specs.Words.{word_before, row_word_of, row_words_after, row_words_of, claim_word_of}
use Rattle.redodb_history_laws.proofs.Counts.{Paired, paired_after, paired_by, grants_push, releases_push}
use Rattle.redodb_history_laws.proofs.Bridge.{tied_after}
use Rattle.redodb_history_laws.proofs.Answered.{from_answers, from_stands}
use Rattle.redodb_history_laws.proofs.Tied.{Tied, tied_at_first, flag, held_some}
use Rattle.redodb_history_laws.proofs.Orders.{placed_more}

abbrev zero_if : Bool → ℕ
zero_if b = cond b 0 1

-- the words of a line more
word_after : {N : Type 0} (place : Place N) (word : ℕ) (words more : List ℕ)
    → word_before place word (words ++ more) ≡ word_before place word words ++ more
word_after (Row r) word words more = refl
word_after place word words more = refl

abbrev pub line_at : {N : Type 0} → ℕ → ℕ → Command N → Reply N → Place N → PlacedLine N
line_at s number command reply place = record {
  session = s;
  number = number;
  command = command;
  reply = reply;
  place = place;
}

module _ (naming : Naming ℕ) (plan : ℕ → List (Item ℕ)) where
  words_more : (before lines : List (PlacedLine ℕ)) (line : PlacedLine ℕ)
      → row_words_after naming plan before (lines ++ line ∷ [])
      ≡ row_words_after naming plan before lines
      ++ word_before line.place
      (row_word_of naming plan (part_of line.session (before ++ lines)) line) []
  words_more before [] line =
      ap
      (λ (xs : List (PlacedLine ℕ)). word_before line.place
      (row_word_of naming plan (part_of line.session xs) line) [])
      (sym (append-nil before))
  words_more before (x ∷ lines) line =
      ap (word_before x.place (row_word_of naming plan (part_of x.session before) x))
      (words_more (before ++ x ∷ []) lines line
      ∙ ap
      (λ (xs : List (PlacedLine ℕ)). row_words_after naming plan (before ++ x ∷ []) lines
      ++ word_before line.place (row_word_of naming plan (part_of line.session xs) line) [])
      (append_assoc before (x ∷ []) lines))
      ∙ word_after x.place (row_word_of naming plan (part_of x.session before) x)
      (row_words_after naming plan (before ++ x ∷ []) lines)
      (word_before line.place
      (row_word_of naming plan (part_of line.session (before ++ (x ∷ lines))) line) [])

  -- the row words after one line more
  pub row_words_more : (lines : List (PlacedLine ℕ)) (line : PlacedLine ℕ)
      → row_words_of naming plan (lines ++ line ∷ [])
      ≡ row_words_of naming plan lines
      ++ word_before line.place (row_word_of naming plan (part_of line.session lines) line) []
  row_words_more lines line = words_more [] lines line

module _ {N : Type 0} (naming : Naming N) where
  -- a claim word by grants and releases
  pub word_is : (lines : List (PlacedLine N)) (t : N) → Paired naming lines
      → claim_word_of naming lines t ≡ grants_in naming lines t + releases_in naming lines t
  word_is lines t pair = elim (pair.pairs t) [
    | inl e ↦ let a : zero_if (eqb (grants_in naming lines t) (releases_in naming lines t))
        ≡ 0 = ap zero_if (eq-eqb (grants_in naming lines t) (releases_in naming lines t) e) in
        omega arith
    | inr e ↦ let a : zero_if (eqb (grants_in naming lines t) (releases_in naming lines t))
        ≡ 1 = ap zero_if
        (ne_eqb (grants_in naming lines t) (releases_in naming lines t)
        (λ q. omega arith)) in
        omega arith
  ]

module _ {N : Type 0} {naming : Naming N} (law : IsNaming naming) where
  tied_from : (state : State N) (before lines : List (PlacedLine N)) → Tied naming state before
      → IsPlacedAfter naming before lines → LegalFrom naming state (map line_of lines)
      → Tied naming (left_by naming state (map line_of lines)) (before ++ lines)
  tied_from state before [] tied placed legal =
      subst (Tied naming state) (sym (append-nil before)) tied
  tied_from state before (line ∷ lines) tied placed legal =
      let step =
      from_answers naming state before line.session line.command line.reply line.place tied placed.0
      legal.0 in
      subst
      (Tied naming
      (left_by naming (after naming state line.session line.command) (map line_of lines)))
      (append_assoc before (line ∷ []) lines)
      (tied_from (after naming state line.session line.command) (before ++ line ∷ []) lines
      (tied_after law state before line tied placed.1 step.0 step.1) placed.2 legal.1)

  -- after a legal placed history the locks are what its lines say, and builders hold their targets
  pub tied_by : (lines : List (PlacedLine N)) → IsPlaced naming lines
      → Legal naming (map line_of lines)
      → Tied naming (left_by naming empty (map line_of lines)) lines
  tied_by lines placed legal = tied_from empty [] lines (tied_at_first naming) placed legal

  -- a line that fits, follows and is valid can come at the end
  pub end_more : (lines : List (PlacedLine N)) (line : PlacedLine N) → IsPlaced naming lines
      → Legal naming (map line_of lines) → Fits line.place line.command line.reply
      → Follows naming lines line.place
      → Stands naming line.place (left_by naming empty (map line_of lines)).records
      (part_of line.session lines)
      line.session line.command line.reply
      → IsPlaced naming (lines ++ line ∷ []) × Legal naming (map line_of (lines ++ line ∷ []))
  end_more lines line placed legal fits follows stands =
      let tied = tied_by lines placed legal in
      let answers =
      from_stands naming (left_by naming empty (map line_of lines)) lines line.session line.command
      line.reply
      line.place tied fits follows stands in (
        placed_more naming [] lines line placed fits follows,
        subst (Legal naming) (sym (map_push line_of lines line))
            (legal_more naming empty (map line_of lines) (line_of line) legal answers),
      )

  claim_at : (lines : List (PlacedLine N)) (line : PlacedLine N) (t : N) → Paired naming lines
      → Follows naming lines line.place
      → claim_word_of naming (lines ++ line ∷ []) t
      ≡ claim_word_of naming lines t + moved_by naming line.place t
  claim_at lines line t pair follows =
      let a = word_is naming lines t pair in
      let b = word_is naming (lines ++ line ∷ []) t (paired_after law lines line pair follows) in
      omega (arith, grants_push naming lines line t, releases_push naming lines line t)

  -- the claim words after one line more
  pub claim_words_more : (lines : List (PlacedLine N)) (line : PlacedLine N)
      → IsPlaced naming (lines ++ line ∷ []) → IsPlaced naming lines
      → Follows naming lines line.place → (t : N)
      → claim_word_of naming (lines ++ line ∷ []) t
      ≡ claim_word_of naming lines t + moved_by naming line.place t
  claim_words_more lines line next placed follows t =
      claim_at lines line t (paired_by law lines placed) follows

  -- an even claim word: the next grant may come
  pub grant_follows : (lines : List (PlacedLine N)) (t : N) → IsPlaced naming lines
      → claim_word_of naming lines t % 2 ≡ 0
      → Follows naming lines (Granted t (claim_word_of naming lines t / 2 + 1))
  grant_follows lines t placed even =
      let pair = paired_by law lines placed in
      let a = word_is naming lines t pair in
      elim (pair.pairs t) [ inl e ↦ (omega arith, omega arith) | inr e ↦ absurd (omega arith) ]

  -- an odd one: a busy reply of the grant in force may come, and its release
  pub busy_follows : (lines : List (PlacedLine N)) (t : N) → IsPlaced naming lines
      → claim_word_of naming lines t % 2 ≡ 1
      → Follows naming lines (Busy t ((claim_word_of naming lines t - 1) / 2 + 1))
  busy_follows lines t placed odd =
      let pair = paired_by law lines placed in
      let a = word_is naming lines t pair in
      elim (pair.pairs t) [ inl e ↦ absurd (omega arith) | inr e ↦ (omega arith, omega arith) ]

  -- if a session holds a target by its own lines, the claim word is odd
  pub held_odd : (lines : List (PlacedLine N)) (s : ℕ) (t : N) → IsPlaced naming lines
      → Legal naming (map line_of lines) → holds_by naming (part_of s lines) (Some t) ≡ true
      → claim_word_of naming lines t % 2 ≡ 1
  held_odd lines s t placed legal holds =
      let tied = tied_by lines placed legal in
      let st = left_by naming empty (map line_of lines) in
      let some =
      held_some s (st.locks.holder t) (sym (flag naming st lines s (Some t) tied) ∙ holds) in
      omega (arith, word_is naming lines t (paired_by law lines placed), tied.held t)

  -- the four events: a row
  pub row_event : (lines : List (PlacedLine N)) (s number : ℕ) (command : Command N)
      (reply : Reply N)
      → IsPlaced naming lines → Legal naming (map line_of lines) → is_claim command reply ≡ false
      → Replies naming (records_left naming lines) s
      (holds_by naming (part_of s lines) (target_of command)) command
      reply
      → GoesOnBy naming lines (line_at s number command reply (Row (rows_in lines)))
  row_event lines s number command reply placed legal row told =
      end_more lines (line_at s number command reply (Row (rows_in lines))) placed legal row refl
      told

  -- a grant, if the claim word is even
  pub grant_event : (lines : List (PlacedLine N)) (s number : ℕ) (t : N) → IsPlaced naming lines
      → Legal naming (map line_of lines) → claim_word_of naming lines t % 2 ≡ 0
      → let g = claim_word_of naming lines t / 2 + 1 in
      GoesOnBy naming lines (line_at s number (Lock t) (replies.Granted g) (Granted t g))
  grant_event lines s number t placed legal even = let g = claim_word_of naming lines t / 2 + 1 in
      end_more lines (line_at s number (Lock t) (replies.Granted g) (Granted t g)) placed legal
      (refl, refl) (grant_follows lines t placed even) tt

  -- a busy reply, if it is odd
  pub busy_event : (lines : List (PlacedLine N)) (s number : ℕ) (t : N) → IsPlaced naming lines
      → Legal naming (map line_of lines) → claim_word_of naming lines t % 2 ≡ 1
      → let g = (claim_word_of naming lines t - 1) / 2 + 1 in
      GoesOnBy naming lines (line_at s number (Lock t) (replies.Busy g) (Busy t g))
  busy_event lines s number t placed legal odd =
      let g = (claim_word_of naming lines t - 1) / 2 + 1 in
      end_more lines (line_at s number (Lock t) (replies.Busy g) (Busy t g)) placed legal
      (refl, refl)
      (busy_follows lines t placed odd) tt

  -- a release, by a session that holds the target by its own lines and doesn't build it
  pub release_event : (lines : List (PlacedLine N)) (s number : ℕ) (t : N) → IsPlaced naming lines
      → Legal naming (map line_of lines) → holds_by naming (part_of s lines) (Some t) ≡ true
      → is_built_by s (target_state (records_left naming lines) t) ≡ false
      → let g = (claim_word_of naming lines t - 1) / 2 + 1 in
      GoesOnBy naming lines (line_at s number (Unlock t) Okay (Released t g))
  release_event lines s number t placed legal holds free =
      let g = (claim_word_of naming lines t - 1) / 2 + 1 in
      end_more lines (line_at s number (Unlock t) Okay (Released t g)) placed legal (refl, refl)
      (busy_follows lines t placed (held_odd lines s t placed legal holds)) (holds, free)

  -- a session's own lines determine what it holds, and all lines the grants
  pub locks_told : (lines : List (PlacedLine N)) → IsPlaced naming lines
      → Legal naming (map line_of lines)
      → (t : N)
      → ((left_by naming empty (map line_of lines)).locks.grants t ≡ grants_in naming lines t)
      ×
      ((s : ℕ)
      → is_held_by s ((left_by naming empty (map line_of lines)).locks.holder t)
      ≡ holds_by naming (part_of s lines) (Some t))
  locks_told lines placed legal t = let tied = tied_by lines placed legal in (
    tied.grants t,
    λ s. sym (flag naming (left_by naming empty (map line_of lines)) lines s (Some t) tied),
  )
