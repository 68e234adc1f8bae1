-- The rows of targets are put one by one, in the order of their numbers.
use Rattle.std.proofs.Common.{◌≡◌, ◌≢◌, ℕ, ◌+◌, ◌<◌, ◌≤◌, Bool, true, false, List, length, Option, refl, sym, ap, ◌∙◌, subst, arith, inl, inr}
use Rattle.std.specs.Prelude.{codes}
use Rattle.std.proofs.lemmas.Bool.{cases_eq, cases_lt}
use Rattle.redodb_model.specs.Names.{Text, text_at}
use Rattle.redodb_model.specs.State.{Mark, Rows, State, no_rows}
use Rattle.redodb_records.specs.Rows.{with_always}
use Rattle.redodb_live.specs.Answers.{flag_word}
use Rattle.redodb_dump.specs.Dumps.{IsDumped}
use Rattle.redodb_dump.specs.Support.Read.{AreRowsUpTo, AreSameButOf, AreTargetsUpTo, HasNoRowsFrom}
use Rattle.redodb_dump.proofs.NextRows.{HasNoneOf}
use Rattle.redodb_dump.proofs.ReadRows.{put_other, put_same}

-- an always row

abbrev pub with_flag : Rows ℕ → ℕ → Bool → Rows ℕ
with_flag rows t true = with_always rows t
with_flag rows t false = rows

pub flag_put : (always : Bool) (word : Text) (old new : Rows ℕ) (t : ℕ) → word ≡ flag_word always
    → (word ≡ codes "1" → new ≡ with_always old t) → (word ≡ codes "0" → new ≡ old)
    → new ≡ with_flag old t always
flag_put true word old new t is set unset = set is
flag_put false word old new t is set unset = unset is

flag_change : (rows : Rows ℕ) (t : ℕ) (always : Bool)
    → (with_flag rows t always).change ≡ rows.change
flag_change rows t true = refl
flag_change rows t false = refl

flag_created : (rows : Rows ℕ) (t : ℕ) (always : Bool)
    → (with_flag rows t always).created ≡ rows.created
flag_created rows t true = refl
flag_created rows t false = refl

flag_here : (rows : Rows ℕ) (t : ℕ) (always : Bool) → rows.always t ≡ false
    → (with_flag rows t always).always t ≡ always
flag_here rows t true none = put_same t true rows.always
flag_here rows t false none = none

flag_elsewhere : (rows : Rows ℕ) (t : ℕ) (always : Bool) (u : ℕ) → u ≢ t
    → (with_flag rows t always).always u ≡ rows.always u
flag_elsewhere rows t true u off = put_other t u true rows.always off
flag_elsewhere rows t false u off = refl

pub no_rows_flagged : (rows : Rows ℕ) (t : ℕ) (always : Bool) (u : ℕ) → HasNoRowsFrom rows u 0
    → HasNoRowsFrom (with_flag rows t always) u 0
no_rows_flagged rows t always u none = record {
  change = λ n from. ap (λ (f : ℕ → ℕ → Option Mark). f u n) (flag_change rows t always)
      ∙ none.change n from;
  created = λ n from. ap (λ (f : ℕ → ℕ → Bool). f u n) (flag_created rows t always)
      ∙ none.created n from;
}

-- one more target

module _ (names : List Text) (st : State Text) (old flagged new : Rows ℕ) (t : ℕ)
    (are : AreTargetsUpTo names st old t)
    (is : flagged ≡ with_flag old t (st.records.rows.always (text_at names t)))
    (own : AreRowsUpTo names st new t (length names)) (same : AreSameButOf t flagged new)
  where
    abbrev always : Bool
    always = st.records.rows.always (text_at names t)

    change_kept : (u n : ℕ) → u ≢ t → new.change u n ≡ old.change u n
    change_kept u n off =
        same.change u n off ∙ ap (λ (rows : Rows ℕ). rows.change u n) is
        ∙ ap (λ (f : ℕ → ℕ → Option Mark). f u n) (flag_change old t always)

    created_kept : (u n : ℕ) → u ≢ t → new.created u n ≡ old.created u n
    created_kept u n off =
        same.created u n off ∙ ap (λ (rows : Rows ℕ). rows.created u n) is
        ∙ ap (λ (f : ℕ → ℕ → Bool). f u n) (flag_created old t always)

    none_kept : (u least : ℕ) → u ≢ t → HasNoRowsFrom old u least → HasNoRowsFrom new u least
    none_kept u least off none = record {
      change = λ n from. change_kept u n off ∙ none.change n from;
      created = λ n from. created_kept u n off ∙ none.created n from;
    }

    rows_kept : (u : ℕ) → u ≢ t → AreRowsUpTo names st old u (length names)
        → AreRowsUpTo names st new u (length names)
    rows_kept u off rows = record {
      change = λ n below. change_kept u n off ∙ rows.change n below;
      created = λ n below. created_kept u n off ∙ rows.created n below;
      others = none_kept u (length names) off rows.others;
    }

    always_kept : (u : ℕ) → u ≢ t → new.always u ≡ old.always u
    always_kept u off =
        same.always u ∙ ap (λ (rows : Rows ℕ). rows.always u) is
        ∙ flag_elsewhere old t always u off

    always_here : new.always t ≡ always
    always_here =
        same.always t ∙ ap (λ (rows : Rows ℕ). rows.always t) is
        ∙ flag_here old t always (are.no_always t (omega arith))

    pub target_put : AreTargetsUpTo names st new (t + 1)
    target_put = record {
      targets = λ u less. elim (cases_eq u t) [
        | inl at ↦ subst (λ v. AreRowsUpTo names st new v (length names)) (sym at) own
        | inr off ↦ rows_kept u off (are.targets u (omega (arith, less, off)))
      ];
      always = λ u less. elim (cases_eq u t) [
        | inl at ↦ subst (λ v. new.always v ≡ st.records.rows.always (text_at names v)) (sym at)
            always_here
        | inr off ↦ always_kept u off ∙ are.always u (omega (arith, less, off))
      ];
      others = λ u more.
          none_kept u 0 (λ e. omega (arith, more, e)) (are.others u (omega (arith, more)));
      no_always = λ u more.
          always_kept u (λ e. omega (arith, more, e)) ∙ are.no_always u (omega (arith, more));
    }

-- at first there are none
pub none_yet : (names : List Text) (st : State Text) → AreTargetsUpTo names st no_rows 0
none_yet names st = record {
  targets = λ t less. absurd (omega (arith, less));
  always = λ t less. absurd (omega (arith, less));
  others = λ t more. record { change = λ n from. refl; created = λ n from. refl };
  no_always = λ t more. refl;
}

-- targets without rows don't matter
pub targets_until : (names : List Text) (st : State Text) (is : IsDumped names st) (rows : Rows ℕ)
    (least count : ℕ) → AreTargetsUpTo names st rows least → least ≤ count
    → ((u : ℕ) → least ≤ u → u < count → HasNoneOf names st is u)
    → AreTargetsUpTo names st rows count
targets_until names st is rows least count are up none = record {
  targets = λ t less. elim (cases_lt t least) [
    | inl below ↦ are.targets t below
    | inr from ↦
        let bare = are.others t from in
        let own = none t from less in
        record {
          change = λ n below. bare.change n (omega arith) ∙ sym (own.rows n below).0;
          created = λ n below. bare.created n (omega arith) ∙ sym (own.rows n below).1;
          others = record {
            change = λ n from. bare.change n (omega arith);
            created = λ n from. bare.created n (omega arith);
          };
        }
  ];
  always = λ t less. elim (cases_lt t least) [
    | inl below ↦ are.always t below
    | inr from ↦ are.no_always t from ∙ sym (none t from less).always
  ];
  others = λ t more. are.others t (omega (arith, up, more));
  no_always = λ t more. are.no_always t (omega (arith, up, more));
}
