-- New names and steps keep the database's invariant.
use Rattle.std.proofs.Common.{◌≡◌, ◌+◌, ◌*◌, ◌^◌, ℕ, ◌<◌, ◌≤◌, true, List, [], ◌∷◌, Option, Some, None, is_some, sym, ap, ◌∙◌, subst, inl, inr, length, arith}
use Rattle.std.specs.Prelude.{nat_eq}
use Rattle.std.specs.List.{IsDistinct}
use Rattle.std.specs.declared.cmp.Ordering.{Ordering}
use Rattle.std.proofs.lemmas.Bool.{eqb-true, false≢true, cases_lt}
use Rattle.std.proofs.lemmas.Map.Steps.{length-le_from_distinct_below}
use Rattle.std.proofs.lemmas.Map.Views.{Contains-from_any}
use Rattle.redodb_names.specs.Support.Names.{AreNames, Extends}
use Rattle.redodb_model.specs.Names.{Text, numbers, texts, text_at}
use Rattle.redodb_model.specs.State.{State, Locks, Mark, Building, empty, idle, target_state}
use Rattle.redodb_model.specs.Command.{Command}
use Rattle.redodb_model.specs.Reply.{Reply}
use Rattle.redodb_model.specs.Step.{Answers, after}
use Rattle.redodb_model.specs.Renaming.{IsBelow, named_command}
use Rattle.redodb_model.specs.Support.Renaming.{named_state, numbering, value_at}
use Rattle.redodb_model.specs.Support.Unknown.{IsUnknown}
use Rattle.redodb_model.specs.Support.Users.{IsUnused}
use Rattle.redodb_model.proofs.Held.{BuildersHold, builders_hold_after, builders_hold_at_first}
use Rattle.redodb_model.proofs.HistoriesByName.{empty_by_name}
use Rattle.redodb_model.proofs.Members.{contains_first}
use Rattle.redodb_model.proofs.StepsByName.{after_by_name}
use Rattle.redodb_model.proofs.Texts.{texts_are_names}
use Rattle.redodb_live.specs.Support.Within.{IsStateWithin}
use Rattle.redodb_live.specs.Support.Kept.{AreTaken, IsKept}
use Rattle.redodb_live.proofs.Within.{IsStateWithin-empty, IsStateWithin-after}
use Rattle.redodb_live.proofs.Answering.{renaming, state_kept, within_kept}

none_taken : (ts : List ℕ) → AreTaken empty.locks ts → 0 + 2 * length ts < 2 ^ 32
none_taken [] taken = omega arith
none_taken (t ∷ ts) taken = absurd (false≢true (taken t (contains_first t ts)))

pub IsKept-empty : (names : List Text) → IsKept names empty 0
IsKept-empty names = record {
  within = IsStateWithin-empty (length names);
  builders = subst BuildersHold (sym (empty_by_name (numbering names))) builders_hold_at_first;
  closing = λ ts once taken. none_taken ts taken;
}

pub taken_below : (n : ℕ) (locks : Locks ℕ) (t : ℕ) → ((k : ℕ) → n ≤ k → locks.holder k ≡ None)
    → is_some (locks.holder t) ≡ true → t < n
taken_below n locks t none taken = elim (cases_lt t n) [
  | inl below ↦ below
  | inr past ↦ absurd (false≢true (sym (ap (λ (o : Option ℕ). is_some o) (none t past)) ∙ taken))
]

-- at most as many targets are held as there are names
pub few_taken : (n : ℕ) (locks : Locks ℕ) (ts : List ℕ)
    → ((k : ℕ) → n ≤ k → locks.holder k ≡ None) → IsDistinct nat_eq ts → AreTaken locks ts
    → length ts ≤ n
few_taken n locks ts none once taken =
    length-le_from_distinct_below ts n once
    (λ q is. taken_below n locks q none (taken q (Contains-from_any eqb-true q ts is)))

pub IsKept-Extends : (old new : List Text) → AreNames old → AreNames new → Extends old new
    → (st : State ℕ) (calls : ℕ) → IsKept old st calls → IsKept new st calls
IsKept-Extends old new old_are new_are grows st calls kept = record {
  within = within_kept old new old_are new_are grows st kept.within;
  builders = subst BuildersHold (sym (state_kept old new old_are new_are grows st kept.within))
      kept.builders;
  closing = kept.closing;
}

module _ (names : List Text) (are : AreNames names) (order : ℕ → ℕ → Ordering) (st : State ℕ)
    (s : ℕ) (command : Command ℕ) (reply : Reply Text) (calls : ℕ)
  where
    pub IsKept-after : calls + 1 + 2 * length names < 2 ^ 32 → IsBelow (length names) command
        → IsKept names st calls
        → Answers texts (named_state (numbering names) st) s
        (named_command (text_at names) command) reply
        → IsKept names (after (numbers order) st s command) (calls + 1)
    IsKept-after left below kept answers =
        let next = after (numbers order) st s command in
        let within : IsStateWithin (length names) next =
        IsStateWithin-after (length names) order st s command kept.within below in
        record {
          within = within;
          builders = subst BuildersHold
              (sym (after_by_name (renaming names are) texts texts_are_names order st s command
              below))
              (builders_hold_after texts_are_names (named_state (numbering names) st) s
              (named_command (text_at names) command) kept.builders);
          closing = λ ts once taken.
              omega (
                arith,
                left,
                few_taken (length names) next.locks ts within.holder once taken,
              );
        }

-- a builder holds its target, and so does that of the target's name
builder_at : (st : State ℕ) (at : Option ℕ)
    → ((t s : ℕ) → target_state st.records t ≡ Building s → st.locks.holder t ≡ Some s) → (s : ℕ)
    → (value_at idle st.records.cell at).state ≡ Building s
    → value_at None st.locks.holder at ≡ Some s
builder_at st None builders s is = absurd (cc)
builder_at st (Some t) builders s is = builders t s is

-- a state over the numbers of names, in which builders hold
module _ (names : List Text) (st : State ℕ)
    (unknown : (n : ℕ) → length names ≤ n → IsUnknown st n)
    (unused : (n : ℕ) → length names ≤ n → IsUnused st.records n)
    (ungranted : (n : ℕ) → length names ≤ n → st.locks.grants n ≡ 0)
  where
    below : (n : ℕ) → (length names ≤ n → ⊥) → n < length names
    below n not_past = elim (cases_lt n (length names)) [
      | inl less ↦ less
      | inr past ↦ absurd (not_past past)
    ]

    loaded_within : IsStateWithin (length names) st
    loaded_within = record {
      records = record {
        cells = λ k past. (unknown k past).cell;
        changes = λ k m row. (
          below k (λ past. false≢true
              (sym (ap (λ (o : Option Mark). is_some o) ((unknown k past).change m)) ∙ row)),
          below m (λ past. false≢true
              (sym (ap (λ (o : Option Mark). is_some o) ((unused m past).change k)) ∙ row)),
        );
        createds = λ k m row. (
          below k (λ past. false≢true (sym ((unknown k past).created m) ∙ row)),
          below m (λ past. false≢true (sym ((unused m past).created k) ∙ row)),
        );
      };
      always = λ k past. (unknown k past).always;
      holder = λ k past. (unknown k past).holder;
      grants = ungranted;
    }

    pub IsKept-loaded : (calls : ℕ)
        → ((t s : ℕ) → target_state st.records t ≡ Building s → st.locks.holder t ≡ Some s)
        → calls + 2 * length names < 2 ^ 32 → IsKept names st calls
    IsKept-loaded calls builders left = record {
      within = loaded_within;
      builders = record {
        held = λ t s is. builder_at st ((numbering names).number t) builders s is;
      };
      closing = λ ts once taken.
          let few = few_taken (length names) st.locks ts loaded_within.holder once taken in
          omega (arith, left, few);
    }
