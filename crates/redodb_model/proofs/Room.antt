-- How many closing lines a journal has, if they are answered `ok`.
use Rattle.std.proofs.Common.{◌≡◌, ◌⊎◌, ℕ, ◌+◌, ◌<◌, ◌≤◌, Bool, true, false, cond, List, [], ◌∷◌, ◌++◌, length, map, Option, Some, None, refl, sym, ap, ◌∙◌, subst, arith, append-nil, inl, inr}
use Rattle.std.specs.List.{AllByRecursion, Contains, filter, filter_map, cons_option, count_by}
use Rattle.std.proofs.lemmas.Bool.{false≢true}
use Rattle.std.proofs.lemmas.List.{map-append}
use Rattle.std.proofs.lemmas.List.Elements.{filter_map-append, filter_agree}
use Rattle.std.proofs.lemmas.List.Sums.{sum_by-cons}
use Rattle.redodb_model.specs.Names.{Naming}
use Rattle.redodb_model.specs.Support.Names.{IsNaming}
use Rattle.redodb_model.specs.Support.Room.{is_failed}
use Rattle.redodb_model.specs.Command.{Command, Item, Unlock, Start, Done, Failed, asked_lock}
use Rattle.redodb_model.specs.Reply.{Reply, Okay}
use Rattle.redodb_model.specs.History.{Line}
use Rattle.redodb_model.specs.Placed.{PlacedLine, line_of}
use Rattle.redodb_model.specs.Closing.{is_okay, holds_then, holds, builds_then, builds_after, builds, held_in}
use Rattle.redodb_model.proofs.Letting.{lock_true, unlock_true, asked_first, asked_later, closing_held, held_is_asked}
use Rattle.redodb_model.proofs.Members.{contains_cases, contains_none}
use Rattle.redodb_model.proofs.OwnLines.{same_both, holds_more, builds_more}
use Rattle.redodb_model.proofs.Parts.{IsClosed}

-- a test that passes less keeps less
module _ {X : Type 0} where
  cond_few : (a b : Bool) (x : X) (xs ys : List X) → (b ≡ true → a ≡ true)
      → length ys ≤ length xs → length (cond b (x ∷ ys) ys) ≤ length (cond a (x ∷ xs) xs)
  cond_few true true x xs ys also few = omega arith
  cond_few true false x xs ys also few = omega arith
  cond_few false true x xs ys also few = absurd (false≢true (also refl))
  cond_few false false x xs ys also few = few

  cond_fewer : (a b : Bool) (x : X) (xs ys : List X) → (b ≡ true → a ≡ true)
      → length ys < length xs → length (cond b (x ∷ ys) ys) < length (cond a (x ∷ xs) xs)
  cond_fewer true true x xs ys also few = omega arith
  cond_fewer true false x xs ys also few = omega arith
  cond_fewer false true x xs ys also few = absurd (false≢true (also refl))
  cond_fewer false false x xs ys also few = few

  cond_less : (a b : Bool) (x : X) (xs ys : List X) → a ≡ true → b ≡ false
      → length ys ≤ length xs → length (cond b (x ∷ ys) ys) < length (cond a (x ∷ xs) xs)
  cond_less true true x xs ys passed failed few = absurd (false≢true (sym failed))
  cond_less true false x xs ys passed failed few = omega arith
  cond_less false b x xs ys passed failed few = absurd (false≢true passed)

  filter_few : (p q : X → Bool) (xs : List X) → ((x : X) → q x ≡ true → p x ≡ true)
      → length (filter q xs) ≤ length (filter p xs)
  filter_few p q [] also = omega arith
  filter_few p q (x ∷ xs) also =
      cond_few (p x) (q x) x (filter p xs) (filter q xs) (also x) (filter_few p q xs also)

  filter_fewer : (p q : X → Bool) (xs : List X) (t : X) → ((x : X) → q x ≡ true → p x ≡ true)
      → Contains xs t → p t ≡ true → q t ≡ false → length (filter q xs) < length (filter p xs)
  filter_fewer p q [] t also there passed failed = absurd (contains_none t there)
  filter_fewer p q (x ∷ xs) t also there passed failed = elim (contains_cases x xs t there) [
    | inl e ↦
        cond_less (p x) (q x) x (filter p xs) (filter q xs) (ap p e ∙ passed) (ap q e ∙ failed)
        (filter_few p q xs also)
    | inr k ↦ cond_fewer (p x) (q x) x (filter p xs) (filter q xs) (also x)
        (filter_fewer p q xs t also k passed failed)
  ]

abbrev pub asked_start : {N : Type 0} → Command N → Option N
asked_start (Start t) = Some t
asked_start command = None

module _ {N : Type 0} where
  abbrev pub AllOkay : List (PlacedLine N) → Type 0
  AllOkay lines = AllByRecursion (λ line. line.reply ≡ Okay) lines

  abbrev pub locked_by : List (Line N) → List N
  locked_by own = filter_map (λ line. asked_lock line.command) own

  abbrev pub started_by : List (Line N) → List N
  started_by own = filter_map (λ line. asked_start line.command) own

  asked_same : (ask : Command N → Option N) (own : List (Line N)) (line : Line N)
      → ask line.command ≡ None → filter_map (λ (l : Line N). ask l.command) (own ++ line ∷ [])
      ≡ filter_map (λ (l : Line N). ask l.command) own
  asked_same ask own line e =
      filter_map-append (λ (l : Line N). ask l.command) own (line ∷ [])
      ∙ ap (λ o. filter_map (λ (l : Line N). ask l.command) own
      ++ cons_option o []) e
      ∙ append-nil (filter_map (λ (l : Line N). ask l.command) own)

module _ {N : Type 0} (naming : Naming N) where
  -- the names that the session started and builds
  abbrev pub building_in : List (Line N) → List N
  building_in own = filter (builds naming own) (started_by own)

module _ {N : Type 0} {naming : Naming N} (law : IsNaming naming) where
  then_builds : (command : Command N) (reply : Reply N) (t : N) (building : Bool)
      → builds_then naming command reply t building ≡ true
      → (building ≡ true) ⊎ (asked_start command ≡ Some t)
  then_builds (Start u) reply t building e =
      elim (lock_true (is_okay reply) (naming.same u t) building e) [
        | inl h ↦ inl h
        | inr is ↦ inr (ap Some ((law.decides u t).0 is))
      ]
  then_builds (Done u stamp) reply t building e =
      inl (unlock_true (is_okay reply) (naming.same u t) building e)
  then_builds (Failed u) reply t building e =
      inl (unlock_true (is_okay reply) (naming.same u t) building e)
  then_builds command reply t building e = inl (same_both (is_okay reply) building ∙ e)

  started_or_before : (own : List (Line N)) (t : N) (building : Bool)
      → builds_after naming t building own ≡ true
      → (building ≡ true) ⊎ Contains (started_by own) t
  started_or_before [] t building e = inl e
  started_or_before (line ∷ own) t building e =
      elim (started_or_before own t (builds_then naming line.command line.reply t building) e) [
        | inl h ↦ elim (then_builds line.command line.reply t building h) [
          | inl before ↦ inl before
          | inr asked ↦ inr (asked_first (asked_start line.command) (started_by own) t asked)
        ]
        | inr there ↦ inr (asked_later (asked_start line.command) (started_by own) t there)
      ]

  built_is_started : (own : List (Line N)) (t : N) → builds naming own t ≡ true
      → Contains (started_by own) t
  built_is_started own t e = elim (started_or_before own t false e) [
    | inl h ↦ absurd (false≢true h)
    | inr asked ↦ asked
  ]

  module _ (own : List (Line N)) (line : Line N) (t : N) where
    freed : line.command ≡ Unlock t → line.reply ≡ Okay → (u : N)
        → holds naming (own ++ line ∷ []) u ≡ cond (naming.same t u) false (holds naming own u)
    freed e told u =
        holds_more naming u false own line
        ∙ (λ i. holds_then naming (e i) (told i) u (holds naming own u))

    ended : line.command ≡ Failed t → line.reply ≡ Okay → (u : N)
        → builds naming (own ++ line ∷ []) u ≡ cond (naming.same t u) false (builds naming own u)
    ended e told u =
        builds_more naming u false own line
        ∙ (λ i. builds_then naming (e i) (told i) u (builds naming own u))

    -- an unlock leaves fewer names held
    fewer_held : line.command ≡ Unlock t → line.reply ≡ Okay → holds naming own t ≡ true
        → length (held_in naming (own ++ line ∷ [])) < length (held_in naming own)
    fewer_held e told held =
        let less = filter_fewer (holds naming own) (holds naming (own ++ line ∷ [])) (locked_by own)
        t (λ u is. unlock_true true (naming.same t u) (holds naming own u) (sym (freed e told u)
        ∙ is)) (held_is_asked law own t held) held
        (freed e told t
        ∙ ap (λ b. cond b false (holds naming own t)) ((law.decides t t).1 refl)) in
        subst (λ names. length (filter (holds naming (own ++ line ∷ [])) names)
        < length (held_in naming own))
        (sym (asked_same asked_lock own line (ap asked_lock e))) less

    -- and no other names building
    same_building : line.command ≡ Unlock t → line.reply ≡ Okay
        → length (building_in naming (own ++ line ∷ [])) ≡ length (building_in naming own)
    same_building e told =
        ap (λ names. length (filter (builds naming (own ++ line ∷ [])) names))
        (asked_same asked_start own line (ap asked_start e))
        ∙ ap length (filter_agree (builds naming (own ++ line ∷ [])) (builds naming own)
        (λ u. builds_more naming u false own line
        ∙ (λ i. builds_then naming (e i) (told i) u (builds naming own u))) (started_by own))

    -- a failed leaves fewer names building
    fewer_building : line.command ≡ Failed t → line.reply ≡ Okay → builds naming own t ≡ true
        → length (building_in naming (own ++ line ∷ [])) < length (building_in naming own)
    fewer_building e told building =
        let less = filter_fewer (builds naming own) (builds naming (own ++ line ∷ []))
        (started_by own) t
        (λ u is. unlock_true true (naming.same t u) (builds naming own u) (sym (ended e told u)
        ∙ is)) (built_is_started own t building) building
        (ended e told t
        ∙ ap (λ b. cond b false (builds naming own t)) ((law.decides t t).1 refl)) in
        subst (λ names. length (filter (builds naming (own ++ line ∷ [])) names)
        < length (building_in naming own))
        (sym (asked_same asked_start own line (ap asked_start e))) less

    -- and the same names held
    same_held : line.command ≡ Failed t
        → length (held_in naming (own ++ line ∷ [])) ≡ length (held_in naming own)
    same_held e =
        ap (λ names. length (filter (holds naming (own ++ line ∷ [])) names))
        (asked_same asked_lock own line (ap asked_lock e))
        ∙ ap length (filter_agree (holds naming (own ++ line ∷ [])) (holds naming own)
        (λ u. holds_more naming u false own line
        ∙ ap (λ c. holds_then naming c line.reply u (holds naming own u)) e) (locked_by own))

    closing_step : (b : Bool) → builds naming own t ≡ b → holds naming own t ≡ true
        → line.command ≡ cond b (Failed t) (Unlock t) → line.reply ≡ Okay
        → (cond (is_failed line.command) 1 0 + length (building_in naming (own ++ line ∷ []))
        ≤ length (building_in naming own))
        × (1 + (length (held_in naming (own ++ line ∷ []))
        + length (building_in naming (own ++ line ∷ [])))
        ≤ length (held_in naming own) + length (building_in naming own))
    closing_step true building held e told =
        let one : cond {A = ℕ} (is_failed line.command) 1 0 ≡ 1 =
        ap (λ c. cond {A = ℕ} (is_failed c) 1 0) e in
        let fewer = fewer_building e told building in
        let same = same_held e in
        (omega arith, omega arith)
    closing_step false building held e told =
        let none : cond {A = ℕ} (is_failed line.command) 1 0 ≡ 0 =
        ap (λ c. cond {A = ℕ} (is_failed c) 1 0) e in
        let fewer = fewer_held e told held in
        let same = same_building e told in
        (omega arith, omega arith)

  module _ (s : ℕ) (script : List (Item N)) where
    -- as many closing lines as there are held and building names, and as many failed as building
    -- ones
    pub closed_few : (before lines : List (PlacedLine N)) → IsClosed naming s script before lines
        → AllOkay lines
        → (count_by (λ line. is_failed line.command) lines
        ≤ length (building_in naming (map line_of before)))
        × (length lines ≤ length (held_in naming (map line_of before))
        + length (building_in naming (map line_of before)))
    closed_few before [] is okay = (omega arith, omega arith)
    closed_few before (line ∷ lines) is okay =
        let own = map line_of before in
        let (t, held, e) = closing_held naming own line.command is.1.closes in
        let step = closing_step own (line_of line) t (builds naming own t) refl held e okay.0 in
        let first = step.0 in
        let second = step.1 in
        let rest = closed_few (before ++ line ∷ []) lines is.2 okay.1 in
        let same = map-append line_of before (line ∷ []) in
        let more : (count_by (λ line. is_failed line.command) lines
        ≤ length (building_in naming (own ++ line_of line ∷ [])))
        × (length lines ≤ length (held_in naming (own ++ line_of line ∷ []))
        + length (building_in naming (own ++ line_of line ∷ []))) =
        subst (λ xs. (count_by (λ (line : PlacedLine N). is_failed line.command) lines
        ≤ length (building_in naming xs))
        × (length lines ≤ length (held_in naming xs) + length (building_in naming xs))) same rest in
        let few = more.0 in
        let short = more.1 in
        let count =
        sum_by-cons (λ (l : PlacedLine N). cond (is_failed l.command) 1 0) line lines in
        (omega arith, omega arith)
