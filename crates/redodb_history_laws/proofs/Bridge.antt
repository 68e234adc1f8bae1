-- A placed history is legal exactly if each of its lines is valid (`Stands`).
use Rattle.std.proofs.Common.{◌≡◌, ℕ, ◌+◌, true, cond, eqb, List, [], ◌∷◌, ◌++◌, Option, Some, None, is_some, map, sym, ap, ◌∙◌, subst, inl, inr, arith, eqb-true}
use Rattle.std.proofs.lemmas.Bool.{cases_Bool, false≢true}
use Rattle.redodb_model.specs.Names.{Naming}
use Rattle.redodb_model.specs.Support.Names.{IsNaming}
use Rattle.redodb_model.specs.State.{State, empty}
use Rattle.redodb_model.specs.Step.{after, is_held_by}
use Rattle.redodb_model.specs.History.{LegalFrom}
use Rattle.redodb_model.proofs.Held.{BuildersHold, builders_hold_after}
use Rattle.redodb_model.specs.Placed.{Place, Granted, Released, PlacedLine, line_of, part_of, is_grant, is_release, grants_in, releases_in, Follows, IsPlacedAfter, IsPlaced}
use Rattle.redodb_history_laws.specs.ByRows.{Stands, StandAfter, AllStand}
use Rattle.redodb_history_laws.proofs.Counts.{one_if, no_step, own_push, grants_push, releases_push}
use Rattle.redodb_history_laws.proofs.Tied.{not_held, Tied, tied_at_first, flag, locks_by, state_by}
use Rattle.redodb_history_laws.proofs.Answered.{from_answers, from_stands}

module _ {N : Type 0} {naming : Naming N} (law : IsNaming naming) where
  grants_at : (state : State N) (before : List (PlacedLine N)) (line : PlacedLine N)
      (place : Place N)
      (t : N)
      → Tied naming state before
      → grants_in naming (before ++ line ∷ []) t
      ≡ grants_in naming before t + one_if (is_grant naming t place)
      → (locks_by naming place state.locks line.session).grants t
      ≡ grants_in naming (before ++ line ∷ []) t
  grants_at state before line (Granted u g) t tied push = elim (cases_Bool (naming.same u t)) [
    | inl e ↦
        let p = rw e at push in
        rw e (omega (arith, tied.grants u, ap (grants_in naming before) ((law.decides u t).0 e)))
    | inr e ↦ let p = rw e at push in rw e (omega (arith, tied.grants t))
  ]
  grants_at state before line place t tied push = let a = tied.grants t in omega arith

  held_at : (state : State N) (before : List (PlacedLine N)) (line : PlacedLine N) (place : Place N)
      (t : N)
      → Tied naming state before → Follows naming before place
      → grants_in naming (before ++ line ∷ []) t
      ≡ grants_in naming before t + one_if (is_grant naming t place)
      → releases_in naming (before ++ line ∷ []) t
      ≡ releases_in naming before t + one_if (is_release naming t place)
      → grants_in naming (before ++ line ∷ []) t
      ≡ releases_in naming (before ++ line ∷ []) t + one_if
      (is_some ((locks_by naming place state.locks line.session).holder t))
  held_at state before line (Granted u g) t tied h gs rs = elim (cases_Bool (naming.same u t)) [
    | inl e ↦
        let same = (law.decides u t).0 e in
        let p = rw e at gs in
        let c = ap (grants_in naming before) same in
        let d = ap (releases_in naming before) same in
        rw e (omega (arith, h.0, h.1))
    | inr e ↦ let p = rw e at gs in rw e (omega (arith, tied.held t))
  ]
  held_at state before line (Released u g) t tied h gs rs = elim (cases_Bool (naming.same u t)) [
    | inl e ↦
        let same = (law.decides u t).0 e in
        let p = rw e at rs in
        let c = ap (grants_in naming before) same in
        let d = ap (releases_in naming before) same in
        rw e (omega (arith, h.0, h.1))
    | inr e ↦ let p = rw e at rs in rw e (omega (arith, tied.held t))
  ]
  held_at state before line place t tied h gs rs = let a = tied.held t in omega arith

  holder_is : (s v : ℕ) (holder : Option ℕ) → is_held_by s holder ≡ true
      → one_if (is_held_by v holder) ≡ one_if (eqb s v)
  holder_is s v None e = absurd (false≢true e)
  holder_is s v (Some h) e = ap (λ k. one_if (eqb k v)) (eqb-true h s e)

  own_at : (state : State N) (before : List (PlacedLine N)) (line : PlacedLine N) (place : Place N)
      (v : ℕ)
      (t : N)
      → Tied naming state before → Follows naming before place
      → Stands naming place state.records (part_of line.session before) line.session line.command
      line.reply
      → grants_in naming (part_of v (before ++ line ∷ [])) t
      ≡ grants_in naming (part_of v before) t + cond (eqb line.session v)
      (one_if (is_grant naming t place)) 0
      → releases_in naming (part_of v (before ++ line ∷ [])) t
      ≡ releases_in naming (part_of v before) t + cond (eqb line.session v)
      (one_if (is_release naming t place)) 0
      → grants_in naming (part_of v (before ++ line ∷ [])) t
      ≡ releases_in naming (part_of v (before ++ line ∷ [])) t + one_if
      (is_held_by v ((locks_by naming place state.locks line.session).holder t))
  own_at state before line (Granted u g) v t tied h stands gs rs =
      let z = no_step (eqb line.session v) in
      elim (cases_Bool (naming.same u t)) [
        | inl e ↦
            let same = (law.decides u t).0 e in
            let p = rw e at gs in
            let c = ap (grants_in naming before) same in
            let d = ap (releases_in naming before) same in
            let free : grants_in naming before t ≡ releases_in naming before t =
            omega (arith, h.0, h.1) in
            let y = not_held v (state.locks.holder t) (omega (arith, tied.held t)) in
            rw e (omega (arith, tied.own v t))
        | inr e ↦ let p = rw e at gs in rw e (omega (arith, tied.own v t))
      ]
  own_at state before line (Released u g) v t tied h stands gs rs =
      let z = no_step (eqb line.session v) in
      elim (cases_Bool (naming.same u t)) [
        | inl e ↦
            let p = rw e at rs in
            let mine : is_held_by line.session (state.locks.holder t) ≡ true =
            subst (λ n. is_held_by line.session (state.locks.holder n) ≡ true)
            ((law.decides u t).0 e)
            (sym (flag naming state before line.session (Some u) tied) ∙ stands.0) in
            let y = holder_is line.session v (state.locks.holder t) mine in
            rw e (omega (arith, tied.own v t))
        | inr e ↦ let p = rw e at rs in rw e (omega (arith, tied.own v t))
      ]
  own_at state before line place v t tied h stands gs rs =
      omega (arith, tied.own v t, no_step (eqb line.session v))

  -- the ties go on over a line
  pub tied_after : (state : State N) (before : List (PlacedLine N)) (line : PlacedLine N)
      → Tied naming state before → Follows naming before line.place
      → Stands naming line.place state.records (part_of line.session before) line.session
      line.command line.reply
      → after naming state line.session line.command
      ≡ state_by naming line.place state (part_of line.session before) line.session line.command
      → Tied naming (after naming state line.session line.command) (before ++ line ∷ [])
  tied_after state before line tied h stands e =
      let there : Tied naming
      (state_by naming line.place state (part_of line.session before) line.session line.command)
      (before ++ line ∷ []) =
      record {
        grants =
            λ t. grants_at state before line line.place t tied (grants_push naming before line t);
        held =
            λ t.
            held_at state before line line.place t tied h (grants_push naming before line t)
            (releases_push naming before line t);
        own =
            λ v t.
            own_at state before line line.place v t tied h stands
            (own_push (λ x. is_grant naming t x.place) v before line)
            (own_push (λ x. is_release naming t x.place) v before line);
        builders =
            subst BuildersHold e
            (builders_hold_after law state line.session line.command tied.builders);
      } in
      subst (λ (d : State N). Tied naming d (before ++ line ∷ [])) (sym e) there

  -- a placed history is legal exactly if each of its lines is valid
  pub legal_stands : (state : State N) (before lines : List (PlacedLine N))
      → Tied naming state before
      → IsPlacedAfter naming before lines → LegalFrom naming state (map line_of lines)
      → StandAfter naming state.records before lines
  legal_stands state before [] tied placed legal = tt
  legal_stands state before (line ∷ lines) tied placed legal =
      let step =
      from_answers naming state before line.session line.command line.reply line.place tied placed.0
      legal.0 in
      let next = tied_after state before line tied placed.1 step.0 step.1 in (
        step.0,
        subst (λ (d : State N). StandAfter naming d.records (before ++ line ∷ []) lines) step.1
            (legal_stands (after naming state line.session line.command) (before ++ line ∷ [])
            lines next
            placed.2 legal.1),
      )

  pub stands_legal : (state : State N) (before lines : List (PlacedLine N))
      → Tied naming state before
      → IsPlacedAfter naming before lines → StandAfter naming state.records before lines
      → LegalFrom naming state (map line_of lines)
  stands_legal state before [] tied placed all = tt
  stands_legal state before (line ∷ lines) tied placed all =
      let answers =
      from_stands naming state before line.session line.command line.reply line.place tied placed.0
      placed.1
      all.0 in
      let step =
      from_answers naming state before line.session line.command line.reply line.place tied placed.0
      answers in
      let next = tied_after state before line tied placed.1 step.0 step.1 in (
        answers,
        stands_legal (after naming state line.session line.command) (before ++ line ∷ []) lines
            next placed.2
            (subst (λ (d : State N). StandAfter naming d.records (before ++ line ∷ []) lines)
            (sym step.1) all.1),
      )

  pub legal_by_rows : (lines : List (PlacedLine N)) → IsPlaced naming lines
      → (LegalFrom naming empty (map line_of lines) → AllStand naming lines)
      × (AllStand naming lines → LegalFrom naming empty (map line_of lines))
  legal_by_rows lines placed = (
    legal_stands empty [] lines (tied_at_first naming) placed,
    stands_legal empty [] lines (tied_at_first naming) placed,
  )
