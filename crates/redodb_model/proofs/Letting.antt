-- Closing commands are accepted, and a session without one holds nothing.
use Rattle.std.proofs.Common.{◌≡◌, ◌⊎◌, ℕ, Bool, true, false, cond, List, [], ◌∷◌, Option, Some, None, option_map, refl, sym, ap, ◌∙◌, subst, inl, inr}
use Rattle.std.specs.List.{Contains, filter_map, cons_option}
use Rattle.std.proofs.lemmas.Bool.{false≢true, eq-eqb, false_from_ne_true}
use Rattle.std.proofs.lemmas.List.Elements.{All-contains, filter_passes}
use Rattle.std.specs.declared.cmp.Ordering.{Ordering}
use Rattle.std.specs.declared.cmp.Ordering.TheVariants.{Greater}
use Rattle.redodb_model.specs.Names.{Naming}
use Rattle.redodb_model.specs.Support.Names.{IsNaming}
use Rattle.redodb_model.specs.State.{State, TargetState, Building, target_state, is_building, empty}
use Rattle.redodb_model.specs.State as states
use Rattle.redodb_model.specs.Command.{Command, Lock, Unlock, Failed, asked_lock}
use Rattle.redodb_model.specs.Reply.{Reply, Okay}
use Rattle.redodb_model.specs.Step.{Answers, is_held_by, is_built_by}
use Rattle.redodb_model.specs.History.{Line, Legal, left_by, part_of}
use Rattle.redodb_model.specs.Closing.{is_okay, is_granted, lesser, lesser_of, least, holds_then, holds_after, holds, builds, held_in, letting_go, closing_of}
use Rattle.redodb_model.proofs.Held.{BuildersHold, builders_hold, builders_hold_at_first}
use Rattle.redodb_model.proofs.Members.{contains_first, contains_later, contains_none, contains_filter}
use Rattle.redodb_model.proofs.OwnLines.{holds_by_part, builds_by_part}

lesser_either : {N : Type 0} (o : Ordering) (n m : N)
    → (lesser o n m ≡ n) ⊎ (lesser o n m ≡ m)
lesser_either Greater n m = inr refl
lesser_either o n m = inl refl

pub asked_first : {N : Type 0} (o : Option N) (names : List N) (t : N) → o ≡ Some t
    → Contains (cons_option o names) t
asked_first None names t e = absurd (cc)
asked_first (Some u) names t e =
    let is : u ≡ t = cc in subst (Contains (u ∷ names)) is (contains_first u names)

pub asked_later : {N : Type 0} (o : Option N) (names : List N) (t : N) → Contains names t
    → Contains (cons_option o names) t
asked_later None names t h = h
asked_later (Some u) names t h = contains_later u names t h

pub lock_true : (granted same held : Bool) → cond granted (cond same true held) held ≡ true
    → (held ≡ true) ⊎ (same ≡ true)
lock_true true true held e = inr refl
lock_true true false held e = inl e
lock_true false same held e = inl e

pub unlock_true : (okay same held : Bool)
    → cond okay (cond same false held) held ≡ true → held ≡ true
unlock_true true true held e = absurd (false≢true e)
unlock_true true false held e = e
unlock_true false same held e = e

module _ {N : Type 0} (naming : Naming N) where
  least_of : (n : N) (names : List N) (o : Option N) → least naming names ≡ o
      → ((m : N) → least naming names ≡ Some m → Contains names m)
      → Contains (n ∷ names) (lesser_of naming n o)
  least_of n names None e more = contains_first n names
  least_of n names (Some m) e more = elim (lesser_either (naming.order n m) n m) [
    | inl is ↦ subst (Contains (n ∷ names)) (sym is) (contains_first n names)
    | inr is ↦ subst (Contains (n ∷ names)) (sym is) (contains_later n names m (more m e))
  ]

  -- the least of the names is one of them
  pub least_in : (names : List N) (t : N) → least naming names ≡ Some t → Contains names t
  least_in [] t e = absurd (cc)
  least_in (n ∷ names) t e =
      let same : lesser_of naming n (least naming names) ≡ t = cc in
      subst (Contains (n ∷ names)) same
      (least_of n names (least naming names) refl (least_in names))

  pub least_none : (names : List N) → least naming names ≡ None → names ≡ []
  least_none [] e = refl
  least_none (n ∷ names) e = absurd (cc)

  closing_by : (own : List (Line N)) (o : Option N) (command : Command N)
      → least naming (held_in naming own) ≡ o
      → option_map (letting_go naming own) o ≡ Some command
      → (t : N) × (holds naming own t ≡ true) × (command ≡ letting_go naming own t)
  closing_by own None command is e = absurd (cc)
  closing_by own (Some t) command is e = (
    t,
    All-contains (λ n. holds naming own n ≡ true) (held_in naming own) t
        (filter_passes (holds naming own) (filter_map (λ (line : Line N). asked_lock line.command)
        own)) (least_in (held_in naming own) t is),
    cc,
  )

  -- a closing command is about a target that the session holds
  pub closing_held : (own : List (Line N)) (command : Command N)
      → closing_of naming own ≡ Some command
      → (t : N) × (holds naming own t ≡ true) × (command ≡ letting_go naming own t)
  closing_held own command e = closing_by own (least naming (held_in naming own)) command refl e

  none_by : (own : List (Line N)) (o : Option N) → option_map (letting_go naming own) o ≡ None
      → o ≡ None
  none_by own None e = refl
  none_by own (Some t) e = absurd (cc)

module _ {N : Type 0} {naming : Naming N} (law : IsNaming naming) where
  then_held : (command : Command N) (reply : Reply N) (t : N) (held : Bool)
      → holds_then naming command reply t held ≡ true
      → (held ≡ true) ⊎ (asked_lock command ≡ Some t)
  then_held (Lock u) reply t held e =
      elim (lock_true (is_granted reply) (naming.same u t) held e) [
        | inl h ↦ inl h
        | inr is ↦ inr (ap Some ((law.decides u t).0 is))
      ]
  then_held (Unlock u) reply t held e =
      inl (unlock_true (is_okay reply) (naming.same u t) held e)
  then_held command reply t held e = inl e

  -- a session held before what it holds, or it locked it
  asked_or_before : (own : List (Line N)) (t : N) (held : Bool)
      → holds_after naming t held own ≡ true
      → (held ≡ true) ⊎ Contains (filter_map (λ (line : Line N). asked_lock line.command) own) t
  asked_or_before [] t held e = inl e
  asked_or_before (line ∷ own) t held e =
      let rest = filter_map (λ (other : Line N). asked_lock other.command) own in
      elim (asked_or_before own t (holds_then naming line.command line.reply t held) e) [
        | inl h ↦ elim (then_held line.command line.reply t held h) [
          | inl before ↦ inl before
          | inr asked ↦ inr (asked_first (asked_lock line.command) rest t asked)
        ]
        | inr there ↦ inr (asked_later (asked_lock line.command) rest t there)
      ]

  pub held_is_asked : (own : List (Line N)) (t : N) → holds naming own t ≡ true
      → Contains (filter_map (λ (line : Line N). asked_lock line.command) own) t
  held_is_asked own t e = elim (asked_or_before own t false e) [
    | inl h ↦ absurd (false≢true h)
    | inr asked ↦ asked
  ]

  pub held_is_in : (own : List (Line N)) (t : N) → holds naming own t ≡ true
      → Contains (held_in naming own) t
  held_is_in own t e =
      (contains_filter (holds naming own)
      (filter_map (λ (line : Line N). asked_lock line.command) own) t).1 (held_is_asked own t e, e)

  pub is_held : (own : List (Line N)) (t : N) → Contains (held_in naming own) t
      → holds naming own t ≡ true
  is_held own t there =
      ((contains_filter (holds naming own)
      (filter_map (λ (line : Line N). asked_lock line.command) own) t).0 there).1

  -- a session without a closing command holds nothing
  pub closing_none : (own : List (Line N)) → closing_of naming own ≡ None → (t : N)
      → holds naming own t ≡ false
  closing_none own e t =
      false_from_ne_true (holds naming own t) (λ is.
      contains_none t (subst (λ names. Contains names t)
      (least_none naming (held_in naming own)
      (none_by naming own (least naming (held_in naming own)) e)) (held_is_in own t is)))

  -- what a session holds and doesn't build isn't building
  not_building : (st : State N) (s : ℕ) (t : N) (a : TargetState) → target_state st.records t ≡ a
      → BuildersHold st → is_held_by s (st.locks.holder t) ≡ true → is_built_by s a ≡ false
      → is_building a ≡ false
  not_building st s t (Building b) is h held n =
      absurd (false≢true (sym n ∙ ap (is_held_by s) (sym (h.held t b is)) ∙ held))
  not_building st s t state is h held n = refl

  -- the closing commands of a target that the session holds are accepted
  pub letting_answers : (b : Bool) (st : State N) (s : ℕ) (t : N) → BuildersHold st
      → is_held_by s (st.locks.holder t) ≡ true
      → is_built_by s (target_state st.records t) ≡ b
      → Answers naming st s (cond b (Failed t) (Unlock t)) Okay
  letting_answers true st s t h held e = rw e refl
  letting_answers false st s t h held e =
      let none : is_building (target_state st.records t) ≡ false =
      not_building st s t (target_state st.records t) refl h held e in
      rw (held, none) refl

  -- a closing command is accepted in the state that a legal history leaves
  pub closing_accepted : (lines : List (Line N)) (s : ℕ) (command : Command N)
      → Legal naming lines → closing_of naming (part_of s lines) ≡ Some command
      → Answers naming (left_by naming empty lines) s command Okay
  closing_accepted lines s command legal e =
      let (t, held, is) = closing_held naming (part_of s lines) command e in
      subst (λ c. Answers naming (left_by naming empty lines) s c Okay) (sym is)
      (letting_answers (builds naming (part_of s lines) t) (left_by naming empty lines) s t
      (builders_hold law empty lines builders_hold_at_first)
      (sym (holds_by_part law empty lines s t legal) ∙ held)
      (sym (builds_by_part law empty lines s t legal)))

  no_holder : (lines : List (Line N)) (t : N) (o : Option ℕ) → Legal naming lines
      → ((s : ℕ) → closing_of naming (part_of s lines) ≡ None)
      → (left_by naming empty lines).locks.holder t ≡ o → o ≡ None
  no_holder lines t None legal none is = refl
  no_holder lines t (Some s) legal none is =
      absurd (false≢true (sym (closing_none (part_of s lines) (none s) t)
      ∙ holds_by_part law empty lines s t legal ∙ ap (is_held_by s) is ∙ eq-eqb s s refl))

  no_builder : (st : State N) (t : N) (a : TargetState) → target_state st.records t ≡ a
      → BuildersHold st → st.locks.holder t ≡ None → is_building a ≡ false
  no_builder st t (Building b) is h free = let held = h.held t b is in absurd (cc)
  no_builder st t state is h free = refl

  -- if no session has a closing command left, nothing is held and nothing is building
  pub nothing_held : (lines : List (Line N)) → Legal naming lines
      → ((s : ℕ) → closing_of naming (part_of s lines) ≡ None) → (t : N)
      → ((left_by naming empty lines).locks.holder t ≡ None)
      × (is_building (target_state (left_by naming empty lines).records t) ≡ false)
  nothing_held lines legal none t =
      let st = left_by naming empty lines in
      let free = no_holder lines t (st.locks.holder t) legal none refl in (
        free,
        no_builder st t (target_state st.records t) refl
            (builders_hold law empty lines builders_hold_at_first) free,
      )
