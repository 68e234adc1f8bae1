-- What is out of date in two states that differ only at some names.
use Rattle.std.proofs.Common.{◌≡◌, ◌⊎◌, ◌↔◌, ◌∙◌, Bool, List, [], ◌∷◌, IsTrue, refl, sym, subst, inl, inr}
use Rattle.std.specs.Prelude.{IsSome, Contains}
use Rattle.std.proofs.lemmas.Bool.{cases_Bool, false≢true}
use Rattle.redodb_model.specs.State.{Records, Cell, TargetState, Idle, Built, mark_in}
use Rattle.redodb_model.specs.OutOfDate.{IsTarget, HasFile, HasRow, ReasonIn, HasReason, Depends, Chain, OutOfDate}
use Rattle.redodb_model.specs.Support.OutOfDate.{TouchesSeed, InRegion, DifferAt}

pub differ_back : {N : Type 0} {seeds : List N} {old new : Records N}
    → DifferAt seeds old new → DifferAt seeds new old
differ_back d = record {
  cell = λ n far. sym (d.cell n far);
  change = λ t n far. sym (d.change t n far);
  created = λ t n far. sym (d.created t n far);
  always = λ t far. sym (d.always t far);
}

-- a state differs from itself nowhere
pub differ_nowhere : {N : Type 0} (seeds : List N) (r : Records N) → DifferAt seeds r r
differ_nowhere seeds r = record {
  cell = λ n far. refl;
  change = λ t n far. refl;
  created = λ t n far. refl;
  always = λ t far. refl;
}

-- after two changes states differ only at the seeds of both
pub differ_then : {N : Type 0} {first second both : List N} {a b c : Records N}
    → ((n : N) → Contains first n ⊎ Contains second n → Contains both n)
    → DifferAt first a b → DifferAt second b c → DifferAt both a c
differ_then within d e = record {
  cell = λ n far. d.cell n (λ c. far (within n (inl c))) ∙ e.cell n (λ c. far (within n (inr c)));
  change = λ t n far.
      d.change t n (λ c. far (within t (inl c))) ∙ e.change t n (λ c. far (within t (inr c)));
  created = λ t n far.
      d.created t n (λ c. far (within t (inl c))) ∙ e.created t n (λ c. far (within t (inr c)));
  always = λ t far.
      d.always t (λ c. far (within t (inl c))) ∙ e.always t (λ c. far (within t (inr c)));
}

module _ {N : Type 0} {seeds : List N} {old new : Records N} (d : DifferAt seeds old new) where
  row_kept : (t n : N) → (Contains seeds t → ⊥) → HasRow old t n → HasRow new t n
  row_kept t n far row = elim row [
    | inl change ↦ inl (subst IsSome (d.change t n far) change)
    | inr created ↦ inr (subst IsTrue (d.created t n far) created)
  ]

  target_kept : (t : N) → (Contains seeds t → ⊥) → IsTarget old t → IsTarget new t
  target_kept t far = subst (λ (c : Cell). c.state ≡ Idle → ⊥) (d.cell t far)

  step_kept : (t n : N) → (Contains seeds t → ⊥) → Depends old t n → Depends new t n
  step_kept t n far step =
      (target_kept t far step.0, subst IsSome (d.change t n far) step.1)

  -- a reason in a state of a target that is no seed, and has rows only on names with the same cell
  reason_kept_in : (t : N) → (Contains seeds t → ⊥)
      → ((n : N) → HasRow old t n → old.cell n ≡ new.cell n)
      → (s : TargetState) → ReasonIn s old t → ReasonIn s new t
  reason_kept_in t far same Built reason = elim reason [
    | inl edited ↦ inl (subst (λ (c : Cell). c.file ≡ c.done → ⊥) (d.cell t far) edited)
    | inr more ↦ inr (elim more [
      | inl always ↦ inl (subst IsTrue (d.always t far) always)
      | inr news ↦ inr (elim news [
        | inl (n, row, file) ↦ inl (
          n,
          subst IsTrue (d.created t n far) row,
          subst (λ (c : Cell). IsSome c.file) (same n (inr row)) file,
        )
        | inr (n, mark, row, other) ↦
            let has : IsSome (old.rows.change t n) = subst IsSome (sym row) refl in
            inr (
              n,
              mark,
              sym (d.change t n far) ∙ row,
              subst (λ (c : Cell). mark ≡ mark_in c.state c → ⊥) (same n (inl has)) other,
            )
      ])
    ])
  ]
  reason_kept_in t far same state reason = reason

  reason_kept : (t : N) → (Contains seeds t → ⊥)
      → ((n : N) → HasRow old t n → old.cell n ≡ new.cell n) → HasReason old t → HasReason new t
  reason_kept t far same reason =
      subst (λ (c : Cell). ReasonIn c.state new t) (d.cell t far)
      (reason_kept_in t far same (old.cell t).state reason)

-- whatever has a reason is a target
target_with_reason : {N : Type 0} (r : Records N) (t : N) (s : TargetState)
    → ReasonIn s r t → s ≡ Idle → ⊥
target_with_reason r t Idle reason e = reason
target_with_reason r t state reason e = cc

module _ {N : Type 0} {seeds : List N} {old new : Records N} (d : DifferAt seeds old new) where
  -- outside of the region there is no seed, and no step leads into it
  no_seed : (t : N) → (InRegion new seeds t → ⊥) → Contains seeds t → ⊥
  no_seed t out seed = out ([], inl seed)

  no_row : (t : N) → (InRegion new seeds t → ⊥) → IsTarget new t
      → (n : N) → HasRow new t n → Contains seeds n → ⊥
  no_row t out target n row seed = out ([], inr (target, (n, seed, row)))

  stays_out : (t n : N) → (InRegion new seeds t → ⊥) → Depends new t n → InRegion new seeds n → ⊥
  stays_out t n out step in_region = out (n ∷ in_region.0, (step, in_region.1))

  chain_kept : (ns : List N) (t : N) → (InRegion new seeds t → ⊥)
      → Chain (Depends old) (HasReason old) t ns → Chain (Depends new) (HasReason new) t ns
  chain_kept [] t out reason =
      let far : Contains seeds t → ⊥ = no_seed t out in
      let target : IsTarget new t =
      target_kept d t far (target_with_reason old t (old.cell t).state reason) in
      reason_kept d t far (λ n row. d.cell n (no_row t out target n (row_kept d t n far row))) reason
  chain_kept (n ∷ ns) t out chain =
      let step : Depends new t n = step_kept d t n (no_seed t out) chain.0 in
      (step, chain_kept ns n (stays_out t n out step) chain.1)

  chain_was : (ns : List N) (t : N) → (InRegion new seeds t → ⊥)
      → Chain (Depends new) (HasReason new) t ns → Chain (Depends old) (HasReason old) t ns
  chain_was [] t out reason =
      let target : IsTarget new t = target_with_reason new t (new.cell t).state reason in
      reason_kept (differ_back d) t (no_seed t out)
      (λ n row. sym (d.cell n (no_row t out target n row))) reason
  chain_was (n ∷ ns) t out chain = (
    step_kept (differ_back d) t n (no_seed t out) chain.0,
    chain_was ns n (stays_out t n out chain.0) chain.1,
  )

  -- outside of the region the same targets are out of date as before
  pub as_before_outside : (t : N) → (InRegion new seeds t → ⊥) → OutOfDate old t ↔ OutOfDate new t
  as_before_outside t out =
      (λ was. (was.0, chain_kept was.0 t out was.1), λ is. (is.0, chain_was is.0 t out is.1))

  -- a target that touches no seed, and has a reason or depends on a target outside of the region
  -- that is out of date, was out of date before
  pub was_out_of_date : (t : N) → (TouchesSeed new seeds t → ⊥)
      → HasReason new t
      ⊎ ((n : N) × Depends new t n × (InRegion new seeds n → ⊥) × OutOfDate new n)
      → OutOfDate old t
  was_out_of_date t away due =
      let far : Contains seeds t → ⊥ = λ seed. away (inl seed) in
      elim due [
        | inl reason ↦
            let target : IsTarget new t = target_with_reason new t (new.cell t).state reason in (
              [],
              reason_kept (differ_back d) t far
                  (λ n row. sym (d.cell n (λ seed. away (inr (target, (n, seed, row)))))) reason,
            )
        | inr w ↦
            let before : OutOfDate old w.0 = (as_before_outside w.0 w.2).1 w.3 in
            (w.0 ∷ before.0, (step_kept (differ_back d) t w.0 far w.1, before.1))
      ]

  -- a test that is true of what was out of date outside of the region, and in the region of each
  -- target with a reason and of each that depends on a name with the test, is true of all that is
  -- out of date
  module _ (test : N → Bool)
      (outside : (t : N) → (InRegion new seeds t → ⊥) → OutOfDate old t → IsTrue (test t))
      (reasons : (t : N) → InRegion new seeds t → HasReason new t → IsTrue (test t))
      (spreads : (t n : N) → InRegion new seeds t → Depends new t n
      → IsTrue (test n) → IsTrue (test t))
    where
      where_inside : (t : N) → (InRegion new seeds t → IsTrue (test t)) → OutOfDate new t
          → IsTrue (test t)
      where_inside t inside is = elim (cases_Bool (test t)) [
        | inl holds ↦ holds
        | inr fails ↦
            let not_in : InRegion new seeds t → ⊥ = λ i. false≢true (sym fails ∙ inside i) in
            outside t not_in ((as_before_outside t not_in).1 is)
      ]

      pub derived_along : (ns : List N) (t : N) → Chain (Depends new) (HasReason new) t ns
          → IsTrue (test t)
      derived_along [] t reason = where_inside t (λ i. reasons t i reason) ([], reason)
      derived_along (n ∷ ns) t chain =
          where_inside t (λ i. spreads t n i chain.0 (derived_along ns n chain.1)) (n ∷ ns, chain)

module _ {N : Type 0} (r : Records N) where
  pub out_of_date_by_step : (t n : N) → Depends r t n → OutOfDate r n → OutOfDate r t
  out_of_date_by_step t n step is = (n ∷ is.0, (step, is.1))

  pub least_along : (test : N → Bool) → ((t : N) → HasReason r t → IsTrue (test t))
      → ((t n : N) → Depends r t n → IsTrue (test n) → IsTrue (test t))
      → (ns : List N) (t : N) → Chain (Depends r) (HasReason r) t ns → IsTrue (test t)
  least_along test reasons spreads [] t reason = reasons t reason
  least_along test reasons spreads (n ∷ ns) t chain =
      spreads t n chain.0 (least_along test reasons spreads ns n chain.1)

-- names changed that are out of date now, and none lost its file: what was out of date is
module _ {N : Type 0} {seeds : List N} {old new : Records N} (d : DifferAt seeds old new)
    (files : (n : N) → HasFile old n → HasFile new n)
    (decide : (n : N) → Contains seeds n ⊎ (Contains seeds n → ⊥))
    (outs : (n : N) → Contains seeds n → OutOfDate new n)
  where
    -- a target with a reason before has one now, or depends on a seed
    out_by_reason : (t : N) → (Contains seeds t → ⊥) → (s : TargetState) → (new.cell t).state ≡ s
        → ReasonIn s old t → OutOfDate new t
    out_by_reason t far Idle is reason = absurd reason
    out_by_reason t far Built is reason =
        let own : ReasonIn Built new t → OutOfDate new t =
        λ r. ([], subst (λ (s : TargetState). ReasonIn s new t) (sym is) r) in
        elim reason [
          | inl edited ↦ own (inl (subst (λ (c : Cell). c.file ≡ c.done → ⊥) (d.cell t far) edited))
          | inr more ↦ elim more [
            | inl always ↦ own (inr (inl (subst IsTrue (d.always t far) always)))
            | inr news ↦ elim news [
              | inl (n, row, file) ↦
                  own (inr (inr (inl (n, subst IsTrue (d.created t n far) row, files n file))))
              | inr (n, mark, row, other) ↦ elim (decide n) [
                | inl seed ↦
                    let has : IsSome (old.rows.change t n) = subst IsSome (sym row) refl in
                    out_of_date_by_step new t n (
                      (λ idle. let none : Built ≡ Idle = sym is ∙ idle in cc),
                      subst IsSome (d.change t n far) has,
                    ) (outs n seed)
                | inr same ↦ own (inr (inr (inr (
                  n,
                  mark,
                  sym (d.change t n far) ∙ row,
                  subst (λ (c : Cell). mark ≡ mark_in c.state c → ⊥) (d.cell n same) other,
                ))))
              ]
            ]
          ]
        ]
    out_by_reason t far state is reason =
        ([], subst (λ (s : TargetState). ReasonIn s new t) (sym is) tt)

    pub still_out : (ns : List N) (t : N) → Chain (Depends old) (HasReason old) t ns
        → OutOfDate new t
    still_out [] t own = elim (decide t) [
      | inl seed ↦ outs t seed
      | inr far ↦
          out_by_reason t far (new.cell t).state refl
          (subst (λ (c : Cell). ReasonIn c.state old t) (d.cell t far) own)
    ]
    still_out (n ∷ ns) t chain = elim (decide t) [
      | inl seed ↦ outs t seed
      | inr far ↦
          out_of_date_by_step new t n (step_kept d t n far chain.0) (still_out ns n chain.1)
    ]
