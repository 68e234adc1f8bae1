-- The closing lines of a session are legal, over numbers and over their names.
use Rattle.std.proofs.Common.{◌≡◌, ◌≢◌, ◌+◌, ◌*◌, ◌<◌, ◌≤◌, ℕ, Bool, true, false, cond, List, [], ◌∷◌, ◌++◌, Option, Some, None, is_some, refl, sym, ap, ◌∙◌, subst, map, length, length-append, inl, inr, arith}
use Rattle.std.specs.Prelude.{nat_eq}
use Rattle.std.specs.List.{AllByRecursion, Contains, IsDistinct}
use Rattle.std.specs.Cmp.Lexicographic.{nat_list_cmp_total}
use Rattle.std.specs.declared.cmp.Ordering.{Ordering}
use Rattle.std.proofs.lemmas.Bool.{false≢true, eq-eqb}
use Rattle.std.proofs.lemmas.List.{map-append}
use Rattle.std.proofs.lemmas.List.Elements.{Contains-append_cases}
use Rattle.redodb_names.specs.Support.Names.{AreNames}
use Rattle.redodb_model.specs.Names.{Text, numbers, texts, text_at, by_text}
use Rattle.redodb_model.specs.State.{State, is_building, target_state}
use Rattle.redodb_model.specs.Command.{Unlock, Failed}
use Rattle.redodb_model.specs.Step.{after, is_held_by}
use Rattle.redodb_model.specs.History.{Line, LegalFrom, left_by}
use Rattle.redodb_model.specs.Renaming.{AllBelow, IsBelow, IsLineBelow, named_line}
use Rattle.redodb_model.specs.Support.Ending.{AreHeld, okay_line, letting_lines, closing_lines_of, holder_without, state_without}
use Rattle.redodb_model.specs.Support.Renaming.{named_state, numbering}
use Rattle.redodb_model.proofs.Ending.{ends_from}
use Rattle.redodb_model.proofs.Held.{BuildersHold, builders_hold}
use Rattle.redodb_model.proofs.HistoriesByName.{legal_from_by_name, left_by_name}
use Rattle.redodb_model.proofs.RecordsByName.{state_at_name, value_at_name}
use Rattle.redodb_model.proofs.Texts.{texts_are_names}
use Rattle.redodb_live.specs.Support.ClosingLines.{letting}
use Rattle.redodb_live.specs.Support.Within.{IsStateWithin}
use Rattle.redodb_live.specs.Support.Kept.{IsKept}
use Rattle.redodb_live.proofs.Answering.{renaming, alike}
use Rattle.redodb_live.proofs.Keeping.{taken_below}
use Rattle.redodb_live.proofs.Lines.{all_both, distinct_both}
use Rattle.redodb_live.proofs.Within.{IsStateWithin-after}

-- closing lines are the same in any order of names
any_letting : (a b : ℕ → ℕ → Ordering) (s : ℕ) (building : Bool) (t : ℕ) (rest : List (Line ℕ))
    (st : State ℕ)
    → ((next : State ℕ) → LegalFrom (numbers a) next rest → LegalFrom (numbers b) next rest)
    → LegalFrom (numbers a) st (letting s building t ++ rest)
    → LegalFrom (numbers b) st (letting s building t ++ rest)
any_letting a b s true t rest st more h = (
  h.0,
  (h.1.0, more (after (numbers b) (after (numbers b) st s (Failed t)) s (Unlock t)) h.1.1),
)
any_letting a b s false t rest st more h =
    (h.0, more (after (numbers b) st s (Unlock t)) h.1)

pub any_order : (a b : ℕ → ℕ → Ordering) (s : ℕ) (plan : State ℕ) (ts : List ℕ) (st : State ℕ)
    → LegalFrom (numbers a) st (closing_lines_of s plan ts)
    → LegalFrom (numbers b) st (closing_lines_of s plan ts)
any_order a b s plan [] st h = tt
any_order a b s plan (t ∷ ts) st h =
    any_letting a b s (is_building (target_state plan.records t)) t (closing_lines_of s plan ts) st
    (any_order a b s plan ts) h

-- a fact that is true of the closing lines of each target
all_letting : (P : Line ℕ → Type 0) (s : ℕ) (building : Bool) (t : ℕ) → P (okay_line s (Failed t))
    → P (okay_line s (Unlock t)) → AllByRecursion P (letting s building t)
all_letting P s true t failed unlocked = (failed, (unlocked, tt))
all_letting P s false t failed unlocked = (unlocked, tt)

pub all_closing : (P : Line ℕ → Type 0) (s : ℕ) (plan : State ℕ) (n : ℕ) (ts : List ℕ)
    → AllBelow n ts → ((t : ℕ) → t < n → P (okay_line s (Failed t)) × P (okay_line s (Unlock t)))
    → AllByRecursion P (closing_lines_of s plan ts)
all_closing P s plan n [] below each = tt
all_closing P s plan n (t ∷ ts) below each =
    let both = each t below.0 in
    all_both P (letting_lines s plan t) (closing_lines_of s plan ts)
    (all_letting P s (is_building (target_state plan.records t)) t both.0 both.1)
    (all_closing P s plan n ts below.1 each)

-- there are at most two for each target
few_letting : (s : ℕ) (building : Bool) (t : ℕ) → length (letting s building t) ≤ 2
few_letting s true t = omega arith
few_letting s false t = omega arith

pub few_lines : (s : ℕ) (plan : State ℕ) (ts : List ℕ)
    → length (closing_lines_of s plan ts) ≤ 2 * length ts
few_lines s plan [] = omega arith
few_lines s plan (t ∷ ts) =
    let here : length (letting_lines s plan t) ≤ 2 =
    few_letting s (is_building (target_state plan.records t)) t in
    omega (
      arith,
      here,
      few_lines s plan ts,
      length-append (letting_lines s plan t) (closing_lines_of s plan ts),
    )

-- a state within the names stays within them
pub within_left : (n : ℕ) (order : ℕ → ℕ → Ordering) (lines : List (Line ℕ)) (st : State ℕ)
    → AllByRecursion (λ line. IsBelow n line.command) lines → IsStateWithin n st
    → IsStateWithin n (left_by (numbers order) st lines)
within_left n order [] st below within = within
within_left n order (line ∷ lines) st below within =
    within_left n order lines (after (numbers order) st line.session line.command) below.1
    (IsStateWithin-after n order st line.session line.command within below.0)

named_letting : (name : ℕ → Text) (s : ℕ) (building : Bool) (t : ℕ)
    → map (named_line name) (letting s building t)
    ≡ cond building (okay_line s (Failed (name t)) ∷ []) [] ++ okay_line s (Unlock (name t)) ∷ []
named_letting name s true t = refl
named_letting name s false t = refl

without_some : (s : ℕ) (b : Bool) (o : Option ℕ) → is_held_by s o ≡ b
    → is_some (cond b None o) ≡ true → (is_some o ≡ true) × (o ≢ Some s)
without_some s true o e taken = absurd (false≢true taken)
without_some s false o e taken = (
  taken,
  λ same. false≢true (sym e ∙ ap (is_held_by s) same ∙ eq-eqb s s refl),
)

module _ (names : List Text) (are : AreNames names) (st : State ℕ) (s : ℕ) where
  abbrev here : State Text
  here = named_state (numbering names) st

  pub closing_by_name : (ts : List ℕ) → AllBelow (length names) ts
      → map (named_line (text_at names)) (closing_lines_of s st ts)
      ≡ closing_lines_of s (named_state (numbering names) st) (map (text_at names) ts)
  closing_by_name [] below = refl
  closing_by_name (t ∷ ts) below =
      let name = text_at names in
      let same : is_building (target_state (named_state (numbering names) st).records (name t))
      ≡ is_building (target_state st.records t) =
      ap is_building (state_at_name (renaming names are) st.records t below.0) in
      map-append (named_line name) (letting_lines s st t) (closing_lines_of s st ts)
      ∙ ap (λ (prefix : List (Line Text)). prefix
      ++ map (named_line name) (closing_lines_of s st ts))
      (named_letting name s (is_building (target_state st.records t)) t
      ∙ ap (λ (b : Bool). cond b (okay_line s (Failed (name t)) ∷ []) []
      ++ okay_line s (Unlock (name t)) ∷ []) (sym same))
      ∙ ap (λ (rest : List (Line Text)).
      letting_lines s (named_state (numbering names) st) (name t) ++ rest)
      (closing_by_name ts below.1)

  module _ (within : IsStateWithin (length names) st)
      (builders : BuildersHold (named_state (numbering names) st)) (ts : List ℕ)
      (below : AllBelow (length names) ts)
      (held : AreHeld texts s (named_state (numbering names) st) (map (text_at names) ts))
    where
      abbrev closed : State Text → List (Line Text)
      closed at = closing_lines_of s at (map (text_at names) ts)

      legal_texts : LegalFrom texts here (closed here)
      legal_texts =
          (ends_from texts_are_names nat_list_cmp_total s here (map (text_at names) ts) builders
          held).legal

      without : left_by texts here (closed here) ≡ state_without s here
      without =
          (ends_from texts_are_names nat_list_cmp_total s here (map (text_at names) ts) builders
          held).left

      builders_then : BuildersHold (left_by texts here (closed here))
      builders_then = builders_hold texts_are_names here (closed here) builders

      pub lines_below : AllByRecursion (IsLineBelow (length names)) (closing_lines_of s st ts)
      lines_below =
          all_closing (IsLineBelow (length names)) s st (length names) ts below
          (λ t b. (((b, tt), tt), ((b, tt), tt)))

      commands_below : AllByRecursion (λ line. IsBelow (length names) line.command)
          (closing_lines_of s st ts)
      commands_below =
          all_closing (λ line. IsBelow (length names) line.command) s st (length names) ts below
          (λ t b. ((b, tt), (b, tt)))

      module _ (order : ℕ → ℕ → Ordering) where
        pub legal_numbers : LegalFrom (numbers order) st (closing_lines_of s st ts)
        legal_numbers =
            any_order (by_text names).order order s st ts st
            ((legal_from_by_name (renaming names are) texts texts_are_names (by_text names).order
            (alike names are) st (closing_lines_of s st ts) within.records lines_below).1
            (subst (LegalFrom texts here) (sym (closing_by_name ts below)) legal_texts))

        pub left_texts : named_state (numbering names)
            (left_by (numbers order) st (closing_lines_of s st ts))
            ≡ left_by texts (named_state (numbering names) st)
            (closing_lines_of s (named_state (numbering names) st) (map (text_at names) ts))
        left_texts =
            left_by_name (renaming names are) texts texts_are_names order st
            (closing_lines_of s st ts) commands_below
            ∙ ap (left_by texts (named_state (numbering names) st)) (closing_by_name ts below)

        module _ (next : State ℕ)
            (left : next ≡ left_by (numbers order) st (closing_lines_of s st ts))
          where
            named_left : named_state (numbering names) next ≡ left_by texts here (closed here)
            named_left = ap (named_state (numbering names)) left ∙ left_texts

            within_then : IsStateWithin (length names) next
            within_then =
                subst (IsStateWithin (length names)) (sym left)
                (within_left (length names) order (closing_lines_of s st ts) st commands_below
                within)

            -- the session's targets are free, and all others as before
            holder_then : (u : ℕ) → u < length names
                → next.locks.holder u ≡ holder_without s (st.locks.holder u)
            holder_then u b =
                let law = renaming names are in
                sym (value_at_name law None next.locks.holder u b)
                ∙ ap (λ (at : State Text). at.locks.holder (text_at names u))
                (named_left ∙ without)
                ∙ ap (holder_without s) (value_at_name law None st.locks.holder u b)

            still_taken : (u : ℕ) → is_some (next.locks.holder u) ≡ true
                → (is_some (st.locks.holder u) ≡ true) × (st.locks.holder u ≢ Some s)
            still_taken u taken =
                let b = taken_below (length names) next.locks u within_then.holder taken in
                without_some s (is_held_by s (st.locks.holder u)) (st.locks.holder u) refl
                (sym (ap (λ (o : Option ℕ). is_some o) (holder_then u b)) ∙ taken)

            pub kept_then : (calls : ℕ) → IsKept names st calls → IsDistinct nat_eq ts
                → ((t : ℕ) → Contains ts t → st.locks.holder t ≡ Some s)
                → IsKept names next (calls + length (closing_lines_of s st ts))
            kept_then calls kept once mine = record {
              within = within_then;
              builders = subst BuildersHold (sym named_left) builders_then;
              closing = λ us apart taken.
                  let both = kept.closing (us ++ ts)
                  (distinct_both us ts apart once
                  (λ u there in_ts. (still_taken u (taken u there)).1 (mine u in_ts)))
                  (λ u there. elim (Contains-append_cases us ts u there) [
                    | inl in_us ↦ (still_taken u (taken u in_us)).0
                    | inr in_ts ↦ ap (λ (o : Option ℕ). is_some o) (mine u in_ts)
                  ]) in
                  omega (arith, both, few_lines s st ts, length-append us ts);
            }
