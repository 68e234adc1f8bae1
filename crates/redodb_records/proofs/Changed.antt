-- The rows if one target is replaced by another.
use Rattle.std.proofs.Common.{◌≡◌, ◌≢◌, ℕ, ◌<◌, Bool, true, false, cond, ◌||◌, List, length, set, refl, sym, ap, ◌∙◌, subst, get_or, inl, inr, Option, Some, None, eqb, ne_eqb, eq-eqb}
use Rattle.std.proofs.Math.Path.{fun_ext}
use Rattle.std.proofs.lemmas.Bool.{cases_eq}
use Rattle.redodb_model.specs.Names.{put}
use Rattle.redodb_model.specs.State.{Mark, Rows}
use Rattle.redodb_records.specs.Rows.{Slot, TargetRows, slot_at, has_slot, target_at, room_of, rows_of, with_change, with_created, without_rows, by_number}
use Rattle.redodb_records.specs.Support.Target.{cleared}
use Rattle.redodb_records.proofs.Cleared.{slot_at-blanked, has_slot-blanked}
use Rattle.redodb_records.proofs.Inverses.{found_target, target_same, target_other}

-- rows with the same values are the same
pub rows_ext : (a b : Rows ℕ) → ((t n : ℕ) → a.change t n ≡ b.change t n)
    → ((t n : ℕ) → a.created t n ≡ b.created t n) → ((t : ℕ) → a.always t ≡ b.always t) → a ≡ b
rows_ext a b change created always =
    ap (λ (f : ℕ → ℕ → Option Mark). record { change = f; created = a.created; always = a.always })
    (fun_ext (λ t. fun_ext (change t)))
    ∙ (ap (λ (f : ℕ → ℕ → Bool). record { change = b.change; created = f; always = a.always })
    (fun_ext (λ t. fun_ext (created t)))
    ∙ ap (λ (f : ℕ → Bool). record { change = b.change; created = b.created; always = f })
    (fun_ext always))

-- a property of each target's value, if it is true of the new one and of the others as they are
each_target : {Y : Type 0} (f : TargetRows → Y) (g : ℕ
    → Y) (targets : List TargetRows) (t : ℕ) (new : TargetRows) → t < length targets → f new ≡ g t
    → ((u : ℕ) → u ≢ t → f (target_at targets u) ≡ g u) → (u : ℕ)
    → f (target_at (set targets t new) u) ≡ g u
each_target f g targets t new below own others u = elim (cases_eq u t) [
  | inl here ↦ ap (λ k. f (target_at (set targets t new) k)) here
      ∙ (ap f (target_same targets t new below) ∙ (own ∙ ap g (sym here)))
  | inr off ↦ ap f (target_other targets t u new off) ∙ others u off
]

-- the rows of t are these, and the other targets keep theirs
pub record IsRowsWith (old : Rows ℕ) (t : ℕ) (target : TargetRows) (new : Rows ℕ) : Type 0 where
  pub change : (n : ℕ) → (slot_at target.slots n).change ≡ new.change t n
  pub created : (n : ℕ) → (slot_at target.slots n).created ≡ new.created t n
  pub always : target.always ≡ new.always t
  pub other_change : (u n : ℕ) → u ≢ t → old.change u n ≡ new.change u n
  pub other_created : (u n : ℕ) → u ≢ t → old.created u n ≡ new.created u n
  pub other_always : (u : ℕ) → u ≢ t → old.always u ≡ new.always u

pub rows_set : (targets : List TargetRows) (t : ℕ) (target : TargetRows) (rows : Rows ℕ)
    → t < length targets → IsRowsWith (rows_of targets) t target rows
    → rows_of (set targets t target) ≡ rows
rows_set targets t target rows below h = rows_ext (rows_of (set targets t target)) rows
    (λ u n. each_target (λ x. (slot_at x.slots n).change)
    (λ k. rows.change k n) targets t target below (h.change n) (λ k off. h.other_change k n off) u)
    (λ u n. each_target (λ x. (slot_at x.slots n).created) (λ k. rows.created k n) targets t target
    below (h.created n) (λ k off. h.other_created k n off) u)
    (each_target (λ x. x.always) rows.always targets t target below h.always h.other_always)

put_same : {X : Type 0} (n : ℕ) (x : X) (f : ℕ → X) → put by_number n x f n ≡ x
put_same n x f = ap (λ b. cond b x (f n)) (eq-eqb n n refl)

put_other : {X : Type 0} (n m : ℕ) (x : X) (f : ℕ → X) → m ≢ n → put by_number n x f m ≡ f m
put_other n m x f off = ap (λ b. cond b x (f m)) (ne_eqb n m (λ e. off (sym e)))

-- the field of a record or of another
pub field_of_cond : {X Y : Type 0} (f : X → Y) (b : Bool) (x y : X)
    → f (cond b x y) ≡ cond b (f x) (f y)
field_of_cond f true x y = refl
field_of_cond f false x y = refl

pub cond_same : {X : Type 0} (b : Bool) (x : X) → cond b x x ≡ x
cond_same true x = refl
cond_same false x = refl

-- t's change row on n is written
pub record WritesChange (old new : TargetRows) (n : ℕ) (mark : Mark) : Type 0 where
  pub rows : (k : ℕ) → slot_at new.slots k
      ≡ cond (eqb n k) (record (slot_at old.slots k) { change = Some mark }) (slot_at old.slots k)
  pub room : (k : ℕ) → has_slot new.slots k ≡ has_slot old.slots k
  pub always : new.always ≡ old.always

change_set : (targets : List TargetRows) (t n : ℕ) (new : TargetRows) (mark : Mark)
    → t < length targets → WritesChange (target_at targets t) new n mark
    → rows_of (set targets t new) ≡ with_change (rows_of targets) t n mark
change_set targets t n new mark below w =
    let rows : Rows ℕ = rows_of targets in
    let row : ℕ → Option Mark = put by_number n (Some mark) (rows.change t) in
    rows_set targets t new (with_change rows t n mark) below (record {
      change = λ k.
          ap (λ (s : Slot). s.change) (w.rows k)
          ∙ (field_of_cond (λ (s : Slot). s.change) (eqb n k)
          (record (slot_at (target_at targets t).slots k) { change = Some mark })
          (slot_at (target_at targets t).slots k)
          ∙ sym (ap (λ (f : ℕ → Option Mark). f k) (put_same t row rows.change)));
      created = λ k.
          ap (λ (s : Slot). s.created) (w.rows k)
          ∙ (field_of_cond (λ (s : Slot). s.created) (eqb n k)
          (record (slot_at (target_at targets t).slots k) { change = Some mark })
          (slot_at (target_at targets t).slots k)
          ∙ cond_same (eqb n k) (rows.created t k));
      always = w.always;
      other_change =
          λ u k off. sym (ap (λ (f : ℕ → Option Mark). f k) (put_other t u row rows.change off));
      other_created = λ u k off. refl;
      other_always = λ u off. refl;
    })

-- t's created row on n is written
pub record WritesCreated (old new : TargetRows) (n : ℕ) : Type 0 where
  pub rows : (k : ℕ) → slot_at new.slots k
      ≡ cond (eqb n k) (record (slot_at old.slots k) { created = true }) (slot_at old.slots k)
  pub room : (k : ℕ) → has_slot new.slots k ≡ has_slot old.slots k
  pub always : new.always ≡ old.always

created_set : (targets : List TargetRows) (t n : ℕ) (new : TargetRows) → t < length targets
    → WritesCreated (target_at targets t) new n
    → rows_of (set targets t new) ≡ with_created (rows_of targets) t n
created_set targets t n new below w =
    let rows : Rows ℕ = rows_of targets in
    let row : ℕ → Bool = put by_number n true (rows.created t) in
    rows_set targets t new (with_created rows t n) below (record {
      change = λ k.
          ap (λ (s : Slot). s.change) (w.rows k)
          ∙ (field_of_cond (λ (s : Slot). s.change) (eqb n k)
          (record (slot_at (target_at targets t).slots k) { created = true })
          (slot_at (target_at targets t).slots k)
          ∙ cond_same (eqb n k) (rows.change t k));
      created = λ k.
          ap (λ (s : Slot). s.created) (w.rows k)
          ∙ (field_of_cond (λ (s : Slot). s.created) (eqb n k)
          (record (slot_at (target_at targets t).slots k) { created = true })
          (slot_at (target_at targets t).slots k)
          ∙ sym (ap (λ (f : ℕ → Bool). f k) (put_same t row rows.created)));
      always = w.always;
      other_change = λ u k off. refl;
      other_created =
          λ u k off. sym (ap (λ (f : ℕ → Bool). f k) (put_other t u row rows.created off));
      other_always = λ u off. refl;
    })

-- t gets a slot for n
pub record AddsSlot (old new : TargetRows) (n : ℕ) : Type 0 where
  pub rows : (k : ℕ) → slot_at new.slots k ≡ slot_at old.slots k
  pub room : (k : ℕ) → has_slot new.slots k ≡ (eqb k n || has_slot old.slots k)
  pub always : new.always ≡ old.always

rows_stay : (targets : List TargetRows) (t n : ℕ) (new : TargetRows) → t < length targets
    → AddsSlot (target_at targets t) new n → rows_of (set targets t new) ≡ rows_of targets
rows_stay targets t n new below w = rows_set targets t new (rows_of targets) below (record {
  change = λ k. ap (λ (s : Slot). s.change) (w.rows k);
  created = λ k. ap (λ (s : Slot). s.created) (w.rows k);
  always = w.always;
  other_change = λ u k off. refl;
  other_created = λ u k off. refl;
  other_always = λ u off. refl;
})

cleared_set : (targets : List TargetRows) (t : ℕ) → t < length targets
    → rows_of (set targets t (cleared (target_at targets t))) ≡ without_rows (rows_of targets) t
cleared_set targets t below =
    let rows : Rows ℕ = rows_of targets in
    let slots : List Slot = (target_at targets t).slots in
    rows_set targets t (cleared (target_at targets t)) (without_rows rows t) below (record {
      change = λ n. ap (λ (s : Slot). s.change) (slot_at-blanked slots n)
          ∙ sym (ap (λ (f : ℕ → Option Mark). f n) (put_same t (λ m. None) rows.change));
      created = λ n. ap (λ (s : Slot). s.created) (slot_at-blanked slots n)
          ∙ sym (ap (λ (f : ℕ → Bool). f n) (put_same t (λ m. false) rows.created));
      always = sym (put_same t false rows.always);
      other_change =
          λ u n off. sym (ap (λ (f : ℕ → Option Mark). f n)
          (put_other t u (λ m. None) rows.change off));
      other_created =
          λ u n off. sym (ap (λ (f : ℕ → Bool). f n)
          (put_other t u (λ m. false) rows.created off));
      other_always = λ u off. sym (put_other t u false rows.always off);
    })

-- the same in the terms of the code
pub change_written : {targets now : List TargetRows} {old : TargetRows} (t n : ℕ) (new : TargetRows)
    (mark : Mark) → targets ≡ now → t < length now → old ≡ get_or targets t old → WritesChange old new n mark
    → rows_of (set targets t new) ≡ with_change (rows_of now) t n mark
change_written {targets} t n new mark is t_in at w =
    let found = found_target t is t_in at in
    change_set targets t n new mark found.0 (subst (λ x. WritesChange x new n mark) found.1 w)
    ∙ ap (λ ts. with_change (rows_of ts) t n mark) is

pub created_written : {targets now : List TargetRows} {old : TargetRows} (t n : ℕ) (new : TargetRows)
    → targets ≡ now → t < length now → old ≡ get_or targets t old → WritesCreated old new n
    → rows_of (set targets t new) ≡ with_created (rows_of now) t n
created_written {targets} t n new is t_in at w =
    let found = found_target t is t_in at in
    created_set targets t n new found.0 (subst (λ x. WritesCreated x new n) found.1 w)
    ∙ ap (λ ts. with_created (rows_of ts) t n) is

pub slot_added_rows : {targets now : List TargetRows} {old : TargetRows} (t n : ℕ) (new : TargetRows)
    → targets ≡ now → t < length now → old ≡ get_or targets t old → AddsSlot old new n
    → rows_of (set targets t new) ≡ rows_of now
slot_added_rows {targets} t n new is t_in at w =
    let found = found_target t is t_in at in
    rows_stay targets t n new found.0 (subst (λ x. AddsSlot x new n) found.1 w) ∙ ap rows_of is

pub rows_cleared : {targets now : List TargetRows} {old new : TargetRows} (t : ℕ) → targets ≡ now
    → t < length now → old ≡ get_or targets t old → new ≡ cleared old
    → rows_of (set targets t new) ≡ without_rows (rows_of now) t
rows_cleared {targets} {now} {old} {new} t is t_in at blank =
    let found = found_target t is t_in at in
    ap (λ x. rows_of (set targets t x)) (blank ∙ ap cleared found.1)
    ∙ (cleared_set targets t found.0 ∙ ap (λ ts. without_rows (rows_of ts) t) is)

pub room_cleared : {targets now : List TargetRows} {old new : TargetRows} (t : ℕ) → targets ≡ now
    → t < length now → old ≡ get_or targets t old → new ≡ cleared old
    → (u k : ℕ) → room_of (set targets t new) u k ≡ room_of now u k
room_cleared {targets} {now} {old} {new} t is t_in at blank u k =
    let found = found_target t is t_in at in
    each_target (λ x. has_slot x.slots k) (λ v. room_of targets v k) targets t new found.0
    (ap (λ (x : TargetRows). has_slot x.slots k) (blank ∙ ap cleared found.1)
    ∙ has_slot-blanked (target_at targets t).slots k) (λ v off. refl) u
    ∙ ap (λ ts. room_of ts u k) is
