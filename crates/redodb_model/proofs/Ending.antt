-- The state determines a session's closing commands: it closes its targets in their order.
use Rattle.std.proofs.Common.{◌≡◌, ◌⊎◌, ℕ, Bool, true, false, cond, List, [], ◌∷◌, ◌++◌, Option, Some, None, option_map, refl, sym, ap, ◌∙◌, subst, inl, inr}
use Rattle.std.specs.Cmp.{IsTotalOrder}
use Rattle.std.specs.List.{Contains, filter_map}
use Rattle.std.specs.Ordering.{ordering_reverse}
use Rattle.std.specs.declared.cmp.Ordering.{Ordering}
use Rattle.std.specs.declared.cmp.Ordering.TheVariants.{Less, Greater}
use Rattle.std.proofs.lemmas.Bool.{false≢true, eqb-true, eq-eqb, false_from_ne_true}
use Rattle.std.proofs.Math.Path.{fun_ext}
use Rattle.redodb_model.specs.Names.{Naming}
use Rattle.redodb_model.specs.Support.Names.{IsNaming}
use Rattle.redodb_model.specs.State.{State, Cell, TargetState, Building, target_state, is_building, empty}
use Rattle.redodb_model.specs.State as states
use Rattle.redodb_model.specs.Command.{Command, Unlock, Failed, asked_lock}
use Rattle.redodb_model.specs.Reply.{Okay}
use Rattle.redodb_model.specs.Step.{Answers, after, with_cell, locks_freed, is_held_by, is_built_by}
use Rattle.redodb_model.specs.History.{Line, Legal, LegalFrom, left_by, part_of}
use Rattle.redodb_model.specs.Closing.{lesser, lesser_of, least, holds, builds, held_in, holds_then, builds_then, letting_go, closing_of, ClosesAfter}
use Rattle.redodb_model.specs.Support.Ending.{AreHeld, okay_line, cell_without, holder_without, closing_lines_of, state_without}
use Rattle.redodb_model.proofs.Held.{BuildersHold, from_put, to_put, builders_hold_after, builders_hold, builders_hold_at_first}
use Rattle.redodb_model.proofs.Letting.{least_in, held_is_in, is_held, letting_answers}
use Rattle.redodb_model.proofs.Lists.{first_before, rest_ascending}
use Rattle.redodb_model.proofs.Members.{contains_first, contains_later, contains_cases, contains_none}
use Rattle.redodb_model.proofs.OneMore.{left_by-append, legal_both}
use Rattle.redodb_model.proofs.OwnLines.{not_built, held_own, builds_own, holds_more, builds_more, holds_by_part, builds_by_part}

lesser_same : {N : Type 0} (o : Ordering) (n m t : N) → n ≡ t → m ≡ t → lesser o n m ≡ t
lesser_same Greater n m t en em = em
lesser_same o n m t en em = en

held_some : (s : ℕ) (o : Option ℕ) → is_held_by s o ≡ true → o ≡ Some s
held_some s None e = absurd (cc)
held_some s (Some h) e = ap Some (eqb-true h s e)

-- a session builds what it holds and somebody builds
built_by_holder : {N : Type 0} (st : State N) (s : ℕ) (t : N) (a : TargetState)
    → target_state st.records t ≡ a → BuildersHold st → st.locks.holder t ≡ Some s
    → is_building a ≡ true → is_built_by s a ≡ true
built_by_holder st s t (Building b) is h held e =
    ap (is_held_by s) (sym (h.held t b is) ∙ held) ∙ eq-eqb s s refl
built_by_holder st s t state is h held e = absurd (false≢true e)

-- a session that holds nothing builds nothing
built_by_none : {N : Type 0} (st : State N) (s : ℕ) (t : N) (a : TargetState)
    → target_state st.records t ≡ a → BuildersHold st → is_held_by s (st.locks.holder t) ≡ false
    → is_built_by s a ≡ false
built_by_none st s t (Building b) is h free = ap (is_held_by s) (sym (h.held t b is)) ∙ free
built_by_none st s t state is h free = refl

-- a state in which a session holds nothing
without_none : {N : Type 0} (st : State N) (s : ℕ) → BuildersHold st
    → ((t : N) → is_held_by s (st.locks.holder t) ≡ false) → state_without s st ≡ st
without_none st s h free =
    let cells : (λ t. cell_without s (st.records.cell t)) ≡ st.records.cell =
    fun_ext (λ t. ap (λ b. cond b (record (st.records.cell t) { state = states.Failed })
    (st.records.cell t)) (built_by_none st s t (target_state st.records t) refl h (free t))) in
    let holders : (λ t. holder_without s (st.locks.holder t)) ≡ st.locks.holder =
    fun_ext (λ t. ap (λ b. cond b None (st.locks.holder t)) (free t)) in
    λ i. record {
      records = record st.records { cell = cells i };
      locks = record st.locks { holder = holders i };
    }

module _ {N : Type 0} {naming : Naming N} (law : IsNaming naming) where
  failed_leaves : (st : State N) (s : ℕ) (t : N)
      → is_built_by s (target_state st.records t) ≡ true → after naming st s (Failed t)
      ≡ record st {
        records = with_cell naming st.records t
            (record (st.records.cell t) { state = states.Failed });
      }
  failed_leaves st s t e = rw e refl

  unlock_leaves : (st : State N) (s : ℕ) (t : N) → is_held_by s (st.locks.holder t) ≡ true
      → is_building (target_state st.records t) ≡ false → after naming st s (Unlock t)
      ≡ record st { locks = locks_freed naming st.locks t }
  unlock_leaves st s t e f = rw (e, f) refl

  -- the session's `failed` and `unlock` don't change the state without the session
  without_failed : (st : State N) (s : ℕ) (t : N)
      → is_built_by s (target_state st.records t) ≡ true
      → state_without s (after naming st s (Failed t)) ≡ state_without s st
  without_failed st s t e =
      let failed : Cell = record (st.records.cell t) { state = states.Failed } in
      let here : failed ≡ cell_without s (st.records.cell t) =
      ap (λ b. cond b failed (st.records.cell t)) (sym e) in
      let cells : (λ m. cell_without s ((with_cell naming st.records t failed).cell m))
      ≡ (λ m. cell_without s (st.records.cell m)) =
      fun_ext (λ m.
      to_put law (λ (c : Cell). cell_without s c ≡ cell_without s (st.records.cell m)) t m failed
      st.records.cell
      (λ d. here ∙ ap (λ k. cell_without s (st.records.cell k)) d) (λ d. refl)) in
      ap (state_without s) (failed_leaves st s t e)
      ∙ (λ i. record (state_without s st) { records = record st.records { cell = cells i } })

  without_unlocked : (st : State N) (s : ℕ) (t : N) → is_held_by s (st.locks.holder t) ≡ true
      → is_building (target_state st.records t) ≡ false
      → state_without s (after naming st s (Unlock t)) ≡ state_without s st
  without_unlocked st s t e f =
      let free : holder_without s (st.locks.holder t) ≡ None =
      ap (λ b. cond b None (st.locks.holder t)) e in
      let holders : (λ m. holder_without s ((locks_freed naming st.locks t).holder m))
      ≡ (λ m. holder_without s (st.locks.holder m)) =
      fun_ext (λ m.
      to_put law (λ (o : Option ℕ). holder_without s o ≡ holder_without s (st.locks.holder m)) t m
      None st.locks.holder
      (λ d. sym free ∙ ap (λ k. holder_without s (st.locks.holder k)) d) (λ d. refl)) in
      ap (state_without s) (unlock_leaves st s t e f)
      ∙ (λ i. record (state_without s st) { locks = record st.locks { holder = holders i } })

module _ {N : Type 0} {naming : Naming N} (law : IsNaming naming)
    (total : IsTotalOrder naming.order) where
  -- t is no later than u
  abbrev NotAfter : N → N → Type 0
  NotAfter t u = (t ≡ u) ⊎ (naming.order t u ≡ Less)

  lesser_first : (t n m : N) → n ≡ t → NotAfter t m → lesser (naming.order n m) n m ≡ t
  lesser_first t n m is (inl same) = lesser_same (naming.order n m) n m t is (sym same)
  lesser_first t n m is (inr less) =
      ap (λ o. lesser o n m) (ap (λ k. naming.order k m) is ∙ less) ∙ is

  lesser_later : (t n : N) → NotAfter t n → lesser (naming.order n t) n t ≡ t
  lesser_later t n (inl same) = lesser_same (naming.order n t) n t t (sym same) refl
  lesser_later t n (inr less) =
      ap (λ o. lesser o n t) (total.antisymm n t ∙ ap ordering_reverse less)

  least_more : (t n : N) (o : Option N) → n ≡ t → ((m : N) → o ≡ Some m → NotAfter t m)
      → lesser_of naming n o ≡ t
  least_more t n None is first = is
  least_more t n (Some m) is first = lesser_first t n m is (first m refl)

  -- a name of the list that is no later than any of it is the least
  least_first : (t : N) (names : List N) → Contains names t
      → ((u : N) → Contains names u → NotAfter t u) → least naming names ≡ Some t
  least_first t [] h first = absurd (contains_none t h)
  least_first t (n ∷ names) h first = elim (contains_cases n names t h) [
    | inl is ↦ ap Some (least_more t n (least naming names) is
        (λ m e. first m (contains_later n names m (least_in naming names m e))))
    | inr there ↦
        let rest : least naming names ≡ Some t =
        least_first t names there (λ u k. first u (contains_later n names u k)) in
        ap (λ o. Some (lesser_of naming n o)) rest
        ∙ ap Some (lesser_later t n (first n (contains_first n names)))
  ]

  closing_first : (own : List (Line N)) (t : N) → holds naming own t ≡ true
      → ((u : N) → holds naming own u ≡ true → NotAfter t u)
      → closing_of naming own ≡ Some (letting_go naming own t)
  closing_first own t h first =
      ap (option_map (letting_go naming own)) (least_first t (held_in naming own)
      (held_is_in law own t h) (λ u there. first u (is_held law own u there)))

  ended_by : (own : List (Line N)) (o : Option N) → least naming (held_in naming own) ≡ o
      → ((u : N) → holds naming own u ≡ true → ⊥) → option_map (letting_go naming own) o ≡ None
  ended_by own None is none = refl
  ended_by own (Some t) is none =
      absurd (none t (is_held law own t (least_in naming (held_in naming own) t is)))

  module _ (s : ℕ) where
    -- what the session's own lines say of the state
    pub record TellsOwn (own : List (Line N)) (st : State N) : Type 0 where
      pub held : (t : N) → holds naming own t ≡ is_held_by s (st.locks.holder t)
      pub built : (t : N) → builds naming own t ≡ is_built_by s (target_state st.records t)

    -- these lines end the session in this state, for all own lines that agree with it
    pub record Ends (st : State N) (lines : List (Line N)) : Type 0 where
      pub legal : LegalFrom naming st lines
      pub left : left_by naming st lines ≡ state_without s st
      pub closes : (own : List (Line N)) → TellsOwn own st → ClosesAfter naming own lines

    -- the same ones of these targets are building in both states
    abbrev BuildAlike : State N → State N → List N → Type 0
    BuildAlike plan st ts =
        (t : N) → Contains ts t
        → is_building (target_state plan.records t) ≡ is_building (target_state st.records t)

    -- if the session holds these targets, their closing lines end it
    abbrev EndsBy : State N → List N → Type 0
    EndsBy plan ts =
        (st : State N) → BuildersHold st → AreHeld naming s st ts → BuildAlike plan st ts
        → Ends st (closing_lines_of s plan ts)

    tells_more : (own : List (Line N)) (st : State N) (command : Command N) → TellsOwn own st
        → Answers naming st s command Okay
        → TellsOwn (own ++ okay_line s command ∷ []) (after naming st s command)
    tells_more own st command tells told = record {
      held = λ t. holds_more naming t false own (okay_line s command)
          ∙ ap (holds_then naming command Okay t) (tells.held t)
          ∙ sym (held_own law st s command Okay t told);
      built = λ t. builds_more naming t false own (okay_line s command)
          ∙ ap (builds_then naming command Okay t) (tells.built t)
          ∙ sym (builds_own law st s command Okay t told);
    }

    ends_more : (st : State N) (command : Command N) (lines : List (Line N))
        → ((own : List (Line N)) → TellsOwn own st → closing_of naming own ≡ Some command)
        → Answers naming st s command Okay
        → state_without s (after naming st s command) ≡ state_without s st
        → Ends (after naming st s command) lines → Ends st (okay_line s command ∷ lines)
    ends_more st command lines first told same rest = record {
      legal = (told, rest.legal);
      left = rest.left ∙ same;
      closes = λ own tells. (
        first own tells,
        rest.closes (own ++ okay_line s command ∷ []) (tells_more own st command tells told),
      );
    }

    held_member : (own : List (Line N)) (st : State N) (ts : List N) (u : N) → TellsOwn own st
        → AreHeld naming s st ts → holds naming own u ≡ true → Contains ts u
    held_member own st ts u tells listed e =
        (listed.1 u).1 (held_some s (st.locks.holder u) (sym (tells.held u) ∙ e))

    first_held : (st : State N) (t : N) (ts : List N) → AreHeld naming s st (t ∷ ts)
        → is_held_by s (st.locks.holder t) ≡ true
    first_held st t ts listed =
        ap (is_held_by s) ((listed.1 t).0 (contains_first t ts)) ∙ eq-eqb s s refl

    -- the closing command is about the first of the targets
    closing_here : (b : Bool) (st : State N) (t : N) (ts : List N)
        → AreHeld naming s st (t ∷ ts) → is_built_by s (target_state st.records t) ≡ b
        → (own : List (Line N)) → TellsOwn own st
        → closing_of naming own ≡ Some (cond b (Failed t) (Unlock t))
    closing_here b st t ts listed e own tells =
        closing_first own t (tells.held t ∙ first_held st t ts listed) (λ u h.
        elim (contains_cases t ts u (held_member own st (t ∷ ts) u tells listed h)) [
          | inl same ↦ inl same
          | inr there ↦ inr (first_before law t ts listed.0 u there)
        ])
        ∙ ap (λ built. Some (cond built (Failed t) (Unlock t))) (tells.built t ∙ e)

    apart : (t : N) (ts : List N) (u : N) → (st : State N) → AreHeld naming s st (t ∷ ts)
        → Contains ts u → t ≡ u → ⊥
    apart t ts u st listed there same =
        law.irreflexive t
        (subst (λ k. naming.order t k ≡ Less) (sym same) (first_before law t ts listed.0 u there))

    -- the session holds the other targets when it unlocks the first
    held_rest : (st : State N) (t : N) (ts : List N) → AreHeld naming s st (t ∷ ts)
        → is_building (target_state st.records t) ≡ false
        → AreHeld naming s (after naming st s (Unlock t)) ts
    held_rest st t ts listed none =
        subst (λ (next : State N). AreHeld naming s next ts)
        (sym (unlock_leaves law st s t (first_held st t ts listed) none)) (
          rest_ascending law t ts listed.0,
          λ u. (
            λ there. to_put law (λ (o : Option ℕ). o ≡ Some s) t u None st.locks.holder
                (λ same. absurd (apart t ts u st listed there same))
                (λ other. (listed.1 u).0 (contains_later t ts u there)),
            λ h. elim (from_put law (λ (o : Option ℕ). o ≡ Some s) t u None st.locks.holder h) [
              | inl p ↦ absurd (let wrong = p.1 in cc)
              | inr p ↦ elim (contains_cases t ts u ((listed.1 u).1 p.1)) [
                | inl same ↦ absurd (p.0 same)
                | inr there ↦ there
              ]
            ],
          ),
        )

    unlocks_first : (plan st : State N) (t : N) (ts : List N) → EndsBy plan ts → BuildersHold st
        → AreHeld naming s st (t ∷ ts) → is_building (target_state st.records t) ≡ false
        → BuildAlike plan st ts → Ends st (okay_line s (Unlock t) ∷ closing_lines_of s plan ts)
    unlocks_first plan st t ts rest builders listed none alike =
        let held = first_held st t ts listed in
        let built = not_built (target_state st.records t) s none in
        ends_more st (Unlock t) (closing_lines_of s plan ts)
        (closing_here false st t ts listed built)
        (letting_answers law false st s t builders held built)
        (without_unlocked law st s t held none)
        (rest (after naming st s (Unlock t)) (builders_hold_after law st s (Unlock t) builders)
        (held_rest st t ts listed none)
        (λ u there. alike u there
        ∙ ap (λ (next : State N). is_building (target_state next.records u))
        (sym (unlock_leaves law st s t held none))))

    ends_first : (b : Bool) (plan st : State N) (t : N) (ts : List N) → EndsBy plan ts
        → BuildersHold st → AreHeld naming s st (t ∷ ts)
        → is_building (target_state st.records t) ≡ b → BuildAlike plan st ts → Ends st
        ((cond b (okay_line s (Failed t) ∷ []) [] ++ okay_line s (Unlock t) ∷ [])
        ++ closing_lines_of s plan ts)
    ends_first false plan st t ts rest builders listed e alike =
        unlocks_first plan st t ts rest builders listed e alike
    ends_first true plan st t ts rest builders listed e alike =
        let built =
        built_by_holder st s t (target_state st.records t) refl builders
        ((listed.1 t).0 (contains_first t ts)) e in
        let failed = failed_leaves law st s t built in
        let next = after naming st s (Failed t) in
        let cell : Cell = record (st.records.cell t) { state = states.Failed } in
        let none : is_building (target_state next.records t) ≡ false =
        ap (λ (left : State N). is_building (target_state left.records t)) failed
        ∙ to_put law (λ (c : Cell). is_building c.state ≡ false) t t cell st.records.cell
        (λ same. refl) (λ other. absurd (other refl)) in
        ends_more st (Failed t) (okay_line s (Unlock t) ∷ closing_lines_of s plan ts)
        (closing_here true st t ts listed built)
        (letting_answers law true st s t builders (first_held st t ts listed) built)
        (without_failed law st s t built)
        (unlocks_first plan next t ts rest (builders_hold_after law st s (Failed t) builders) listed
        none (λ u there. alike u there
        ∙ sym (ap (λ (left : State N). is_building (target_state left.records u)) failed
        ∙ to_put law (λ (c : Cell). is_building c.state
        ≡ is_building (target_state st.records u)) t u cell st.records.cell
        (λ same. absurd (apart t ts u st listed there same)) (λ other. refl))))

    ends_all : (plan : State N) (ts : List N) → EndsBy plan ts
    ends_all plan [] st builders listed alike = record {
      legal = tt;
      left = sym (without_none st s builders (λ t.
          false_from_ne_true (is_held_by s (st.locks.holder t))
          (λ e. contains_none t ((listed.1 t).1 (held_some s (st.locks.holder t) e)))));
      closes = λ own tells. ended_by own (least naming (held_in naming own)) refl
          (λ u e. contains_none u (held_member own st [] u tells listed e));
    }
    ends_all plan (t ∷ ts) st builders listed alike =
        subst (λ b. Ends st ((cond b (okay_line s (Failed t) ∷ []) []
        ++ okay_line s (Unlock t) ∷ []) ++ closing_lines_of s plan ts))
        (sym (alike t (contains_first t ts)))
        (ends_first (is_building (target_state st.records t)) plan st t ts (ends_all plan ts)
        builders listed refl (λ u there. alike u (contains_later t ts u there)))

    -- a session ends in any state in which builders hold their targets
    pub ends_from : (st : State N) (ts : List N) → BuildersHold st → AreHeld naming s st ts
        → Ends st (closing_lines_of s st ts)
    ends_from st ts builders listed = ends_all st ts st builders listed (λ t there. refl)

    ends_after : (before : List (Line N)) (ts : List N)
        → AreHeld naming s (left_by naming empty before) ts
        → Ends (left_by naming empty before)
        (closing_lines_of s (left_by naming empty before) ts)
    ends_after before ts listed =
        ends_from (left_by naming empty before) ts
        (builders_hold law empty before builders_hold_at_first) listed

    -- after a legal history the closing lines are those that the state determines
    pub closes_by_state : (before : List (Line N)) (ts : List N) → Legal naming before
        → AreHeld naming s (left_by naming empty before) ts
        → ClosesAfter naming (part_of s before)
        (closing_lines_of s (left_by naming empty before) ts)
        × Legal naming (before ++ closing_lines_of s (left_by naming empty before) ts)
    closes_by_state before ts legal listed =
        let ends = ends_after before ts listed in (
          ends.closes (part_of s before) (record {
            held = λ t. holds_by_part law empty before s t legal;
            built = λ t. builds_by_part law empty before s t legal;
          }),
          legal_both naming empty before
              (closing_lines_of s (left_by naming empty before) ts) legal ends.legal,
        )

    -- and they leave the state without the session
    pub leaves_without : (before : List (Line N)) (ts : List N)
        → AreHeld naming s (left_by naming empty before) ts
        → left_by naming empty (before ++ closing_lines_of s (left_by naming empty before) ts)
        ≡ state_without s (left_by naming empty before)
    leaves_without before ts listed =
        left_by-append naming empty before (closing_lines_of s (left_by naming empty before) ts)
        ∙ (ends_after before ts listed).left
