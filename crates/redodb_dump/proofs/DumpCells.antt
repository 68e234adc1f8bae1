-- The words of a cell say what is known of a name but its rows.
use Rattle.std.proofs.Common.{◌≡◌, ℕ, ◌≤◌, Bool, true, false, ◌&&◌, List, [], ◌∷◌, length, get_or, drop, Option, Some, None, refl, sym, ap, ◌∙◌, arith, if◌then◌else◌}
use Rattle.std.specs.Prelude.{◌==◌, is_none}
use Rattle.std.specs.List.{AllByRecursion}
use Rattle.std.proofs.lemmas.Bool.Decides.{nat_tests}
use Rattle.redodb_model.specs.Names.{Text}
use Rattle.redodb_model.specs.State.{Cell, TargetState, Idle}
use Rattle.redodb_model.specs.Support.State.{is_idle}
use Rattle.redodb_text.specs.Texts.{stamp_word}
use Rattle.redodb_text.proofs.Steps.{both}
use Rattle.redodb_dump.specs.Dumps.{build_words, cell_words, done_word, is_plain}
use Rattle.redodb_dump.specs.Support.Forms.{IsToldCell}
use Rattle.redodb_dump.proofs.DumpWords.{IsWord, done_is_word, digest_is_word, holder_is_word, number_is_word, same_digest, same_done, same_holder, same_number, same_stage, same_stamp, stage_is_word, stamp_word_is_word}

pub build_are_words : (cell : Cell) (grants : ℕ) (holder : Option ℕ) → IsToldCell cell grants holder
    → AllByRecursion IsWord (build_words cell grants holder)
build_are_words cell grants holder is =
    let builds = is.form.builds in
    let many = is.grants in (
      stage_is_word cell.state,
      (
        number_is_word cell.builds (omega arith),
        (
          done_is_word cell.file cell.done is.form.done,
          (
            digest_is_word cell.digest is.form.digest,
            (
              number_is_word grants (omega arith),
              (holder_is_word holder is.holder, tt),
            ),
          ),
        ),
      ),
    )

pub cell_are_words : (cell : Cell) (grants : ℕ) (holder : Option ℕ) → IsToldCell cell grants holder
    → AllByRecursion IsWord (cell_words cell grants holder)
cell_are_words cell grants holder is =
    (stamp_word_is_word cell.file is.form.file, by (is_plain cell grants holder))
  where
    by : (b : Bool)
        → AllByRecursion IsWord (if b then [] else build_words cell grants holder)
    by true = tt
    by false = build_are_words cell grants holder is

pub few_cell_words : (cell : Cell) (grants : ℕ) (holder : Option ℕ)
    → length (cell_words cell grants holder) ≤ 7
few_cell_words cell grants holder = by (is_plain cell grants holder)
  where
    by : (b : Bool)
        → length (stamp_word cell.file ∷ (if b then [] else build_words cell grants holder)) ≤ 7
    by true = omega arith
    by false = omega arith

-- the same is known but rows
pub record AreAlike (a b : Cell) (g h : ℕ) (owner other : Option ℕ) : Type 0 where
  pub cell : a ≡ b
  pub grants : g ≡ h
  pub holder : owner ≡ other

abbrev pub told_cell : Option Text → TargetState → ℕ → Option Text → Option (List ℕ) → Cell
told_cell file state builds done digest =
    record { file = file; state = state; builds = builds; done = done; digest = digest }

idle_is : (state : TargetState) → is_idle state ≡ true → state ≡ Idle
idle_is Idle e = refl
idle_is state e = absurd cc

none_is : {X : Type 0} (o : Option X) → is_none o ≡ true → o ≡ None
none_is None e = refl
none_is (Some x) e = absurd cc

zero_is : (n : ℕ) → (n == 0) ≡ true → n ≡ 0
zero_is n e = grind (arith, nat_tests)

pub plain_is : (cell : Cell) (grants : ℕ) (holder : Option ℕ) → is_plain cell grants holder ≡ true
    → AreAlike cell (told_cell cell.file Idle 0 None None) grants 0 holder None
plain_is cell grants holder e =
    let idle = is_idle cell.state in
    let unbuilt = cell.builds == 0 in
    let undone = is_none cell.done in
    let plain = is_none cell.digest in
    let free = both (idle && unbuilt && undone && plain && grants == 0) (is_none holder) e in
    let granted = both (idle && unbuilt && undone && plain) (grants == 0) free.0 in
    let digest = both (idle && unbuilt && undone) plain granted.0 in
    let done = both (idle && unbuilt) undone digest.0 in
    let state = both idle unbuilt done.0 in
    let state_is = idle_is cell.state state.0 in
    let builds_is = zero_is cell.builds state.1 in
    let done_is = none_is cell.done done.1 in
    let digest_is = none_is cell.digest digest.1 in
    record {
      cell = λ i. told_cell cell.file (state_is i) (builds_is i) (done_is i) (digest_is i);
      grants = zero_is grants granted.1;
      holder = none_is holder free.1;
    }

same_built : (a b : Cell) (g h : ℕ) (holder other : Option ℕ) → IsToldCell a g holder
    → IsToldCell b h other → a.file ≡ b.file → build_words a g holder ≡ build_words b h other
    → AreAlike a b g h holder other
same_built a b g h holder other p q file e =
    let builds_small = p.form.builds in
    let builds_small' = q.form.builds in
    let grants_small = p.grants in
    let grants_small' = q.grants in
    let held : holder ≡ other =
    same_holder holder other p.holder q.holder (ap (λ ws. get_or ws 5 []) e) in
    let state : a.state ≡ b.state =
    same_stage a.state b.state other (λ s is. sym held ∙ p.builder s is) q.builder
    (ap (λ ws. get_or ws 0 []) e) in
    let builds : a.builds ≡ b.builds =
    same_number a.builds b.builds (omega arith) (omega arith) (ap (λ ws. get_or ws 1 []) e) in
    let done : a.done ≡ b.done =
    same_done a.file a.done b.done
    (ap (λ ws. get_or ws 2 []) e ∙ ap (λ f. done_word f b.done) (sym file)) in
    let digest : a.digest ≡ b.digest =
    same_digest a.digest b.digest p.form.digest q.form.digest (ap (λ ws. get_or ws 3 []) e) in
    record {
      cell = λ i. told_cell (file i) (state i) (builds i) (done i) (digest i);
      grants =
          same_number g h (omega arith) (omega arith) (ap (λ ws. get_or ws 4 []) e);
      holder = held;
    }

pub same_cell : (a b : Cell) (g h : ℕ) (holder other : Option ℕ) → IsToldCell a g holder
    → IsToldCell b h other → cell_words a g holder ≡ cell_words b h other
    → AreAlike a b g h holder other
same_cell a b g h holder other p q e =
    by (is_plain a g holder) (is_plain b h other) refl refl (ap (drop 1) e)
  where
    file : a.file ≡ b.file
    file = same_stamp a.file b.file p.form.file q.form.file (ap (λ ws. get_or ws 0 []) e)

    by : (x y : Bool) → is_plain a g holder ≡ x → is_plain b h other ≡ y
        → (if x then [] else build_words a g holder) ≡ (if y then [] else build_words b h other)
        → AreAlike a b g h holder other
    by true true one another e =
        let left = plain_is a g holder one in
        let right = plain_is b h other another in
        record {
          cell = left.cell ∙ ap (λ f. told_cell f Idle 0 None None) file ∙ sym right.cell;
          grants = left.grants ∙ sym right.grants;
          holder = left.holder ∙ sym right.holder;
        }
    by true false one another e = absurd (omega (arith, ap length e))
    by false true one another e = absurd (omega (arith, ap length e))
    by false false one another e = same_built a b g h holder other p q file e
