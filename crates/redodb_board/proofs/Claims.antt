-- Steps on a claim word.
use Rattle.std.proofs.Common.{◌≡◌, ℕ, ◌+◌, ◌%◌, ◌^◌, ◌<◌, eqb, cond, List, [], ◌∷◌, length, get_or, set, true, false, Option, Some, None, refl, sym, ap, ◌∙◌, subst, arith, length-set, get_or-set_same, get_or-set_other, eq-eqb, ne_eqb}
use Rattle.std.specs.Prelude.{MatchOption}
use Rattle.std.specs.Int.Bits.{bit_or}
use mathlib.Core.Logic.{dite}
use mathlib.Core.Option.{some, none}
use native.Mathlib.Decide.{ℕ_discrete}
use lib.ListN.{get_elem?}
use Rattle.atomic_table.specs.Table.{step, keeps, Allows}
use Rattle.redodb_model.specs.Command.{Command, Lock}
use Rattle.redodb_model.specs.Reply.{Reply, Okay, Refused}
use Rattle.redodb_model.specs.State.{Locks}
use Rattle.redodb_model.specs.Step.{Answers, lock_reply}
use Rattle.redodb_model.specs.Renaming.{IsReplyBelow}
use Rattle.redodb_model.specs.Placed.{Place, Released, is_row}
use Rattle.redodb_model.specs.Journals.{Numbered}
use Rattle.redodb_journal.specs.Plans.{PlanOf}
use Rattle.redodb_board.specs.Rows.{naming_of, rows_of}
use Rattle.redodb_board.specs.Core.{Line, Core, Way, claim, free, rows_then, place_at, holds_at, way_at, done, word, Begins, claim_of, claim_word}
use Rattle.redodb_board.specs.Views.{ViewOf, view}
use Rattle.redodb_board.specs.Rule.{Orderly}
use Rattle.redodb_board.specs.Plays.{next, own_way}
use Rattle.redodb_board.specs.Support.Plays.{made, Goes, lock_line, free_line, Claims, claimed, freed}
use Rattle.redodb_board.proofs.Ways as ways
use Rattle.redodb_board.proofs.Sound.{Sound}
use Rattle.redodb_board.proofs.Totals.{few_grants}
use Rattle.redodb_board.proofs.Parts.{claim-locks, free-locks}
use Rattle.redodb_board.proofs.ClaimWords.{lock-is, free-is, claims-locked, claims-freed, claim-small, claim_no_row}
use Rattle.redodb_board.proofs.Kept.{St, board}
use Rattle.redodb_board.proofs.Placing as placing
use Rattle.redodb_board.proofs.Placing.{lone, same_next}

module _ (p : PlanOf) (s : St) (o : Orderly p s) (id t : ℕ) (j : List Line) (seen also : List ℕ)
    (me : get_elem? s.views id ≡ some (view p ((t, j) ∷ []) seen also))
    (is-session : t < length p.scripts) (n : Numbered ℕ) (is-next : next p t j ≡ Some n) (u : ℕ)
    (low : u < length p.names) where
  abbrev c₁ : Core
  c₁ = placing.core p s o id t j seen also me is-session n is-next

  abbrev n₁ : ℕ
  n₁ = get_or s.words (rows_of p + 1 + u) 0

  good₁ : Sound p c₁
  good₁ = placing.good p s o id t j seen also me is-session n is-next

  abbrev x₁ : Command ℕ
  x₁ = n.command

  claim-is : n₁ ≡ claim_of c₁.state.locks u
  claim-is = o.claims u low

  small₁ : n₁ < 4294967296
  small₁ = let a = few_grants p o.log o.plan o.legal u in
      omega (arith, claim-is, claim-small (c₁.state.locks.holder u) (c₁.state.locks.grants u))

  -- the word of u becomes m, and so do the claims
  claim-words : (m : ℕ) (k : Locks ℕ)
      → ((v : ℕ) → claim_of k v ≡ cond (eqb u v) m (claim_of c₁.state.locks v)) → (v : ℕ)
      → v < length p.names
      → get_or (set s.words (rows_of p + 1 + u) m) (rows_of p + 1 + v) 0 ≡ claim_of k v
  claim-words m k each v h =
      let long = o.wide in
      dite (ℕ_discrete u v)
      (λ q. ap (λ x. get_or (set s.words (rows_of p + 1 + u) m) (rows_of p + 1 + x) 0) (sym q)
      ∙ get_or-set_same s.words (rows_of p + 1 + u) m 0 (omega arith)
      ∙ sym (each v ∙ ap (λ b. cond b m (claim_of c₁.state.locks v)) (eq-eqb u v q)))
      (λ ne. get_or-set_other s.words (rows_of p + 1 + u) (rows_of p + 1 + v) m 0
      (λ q. ne (omega arith))
      ∙ o.claims v h
      ∙ sym (each v ∙ ap (λ b. cond b m (claim_of c₁.state.locks v)) (ne_eqb u v ne)))

  -- no claim changes the seats' word
  first-word : (m : ℕ)
      → get_or (set s.words (rows_of p + 1 + u) m) 0 0 ≡ get_or s.words 0 0
  first-word m = get_or-set_other s.words (rows_of p + 1 + u) 0 m 0 (λ q. omega arith)

  -- no claim changes a row
  same-rows : (m : ℕ) (l : Line) → (done p c₁ l).rows ≡ c₁.rows → (r : ℕ) → r < rows_of p
      → get_or (set s.words (rows_of p + 1 + u) m) (r + 1) 0 ≡ get_or (done p c₁ l).rows r 0
  same-rows m l rows r h =
      get_or-set_other s.words (rows_of p + 1 + u) (r + 1) m 0 (λ q. omega arith) ∙ o.rows r h
      ∙ ap (λ l. get_or l r 0) (sym rows)

  begins₁ : (l : Line) → (done p c₁ l).rows ≡ c₁.rows → Begins (done p c₁ l).rows seen
  begins₁ l rows =
      subst (λ r. Begins r seen) (sym rows)
      (placing.mine p s o id t j seen also me is-session n is-next).seen

  -- the rows after a line that steps on no row
  still : (l : Line) → l.session ≡ t → l.command ≡ x₁ → (w : Way) → way_at c₁ t x₁ ≡ w
      → ((n : ℕ) → rows_then w c₁.rows n ≡ c₁.rows) → (done p c₁ l).rows ≡ c₁.rows
  still l e f w is rests =
      (λ i. rows_then (way_at c₁ (e i) (f i)) c₁.rows
      (word p l.session l.number l.command (holds_at c₁ l.session l.command)))
      ∙ ap
      (λ v. rows_then v c₁.rows
      (word p l.session l.number l.command (holds_at c₁ l.session l.command)))
      is
      ∙ rests (word p l.session l.number l.command (holds_at c₁ l.session l.command))

  goes₁ : (w : Way) → own_way j x₁ ≡ w
      → (way_at c₁ t x₁ ≡ w) × ways.Goes (naming_of p).order c₁.state t x₁ w
  goes₁ w e =
      let is = placing.way-is p s o id t j seen also me is-session n is-next ∙ e in (
        is,
        subst (ways.Goes (naming_of p).order c₁.state t x₁) is
            (ways.goes (naming_of p).order c₁.state t x₁ good₁.builders),
      )

  module _ (to-lock : own_way j x₁ ≡ claim u) where
    g₁ : (way_at c₁ t x₁ ≡ claim u) × (x₁ ≡ Lock u)
    g₁ = goes₁ (claim u) to-lock

    abbrev reply₁ : Reply ℕ
    reply₁ = lock_reply (c₁.state.locks.holder u) (c₁.state.locks.grants u)

    answer₁ : Answers (naming_of p) c₁.state t x₁ reply₁
    answer₁ = subst (λ y. Answers (naming_of p) c₁.state t y reply₁) (sym g₁.1) refl

    below₁ : (a : Option ℕ) (g : ℕ) → IsReplyBelow (length p.names) (lock_reply a g)
    below₁ None g = tt
    below₁ (Some h) g = tt

    abbrev b₁ : IsReplyBelow (length p.names) reply₁
    b₁ = below₁ (c₁.state.locks.holder u) (c₁.state.locks.grants u)

    abbrev it₁ : Line
    it₁ = placing.it p s o id t j seen also me is-session n is-next reply₁ answer₁ b₁

    rows₁ : (done p c₁ it₁).rows ≡ c₁.rows
    rows₁ = still it₁ refl refl (claim u) g₁.0 (λ m. refl)

    it-is : it₁ ≡ lock_line t n u n₁
    it-is =
        ap (λ w. made t n reply₁ (place_at c₁ w)) g₁.0
        ∙ ap (λ (y : Reply ℕ × Place ℕ). made t n y.0 y.1)
        (lock-is u (c₁.state.locks.holder u) (c₁.state.locks.grants u) (good₁.granted u))
        ∙ ap (lock_line t n u) (sym claim-is)

    no-row : is_row it₁.place ≡ true → (done p c₁ it₁).rows ≡ seen
    no-row r =
        absurd
        (let e : true ≡ false = sym r ∙ ap (λ w. is_row (place_at c₁ w)) g₁.0
        ∙ claim_no_row u (c₁.state.locks.grants u) (c₁.state.locks.holder u) in
        cc)

    abbrev v₁ : ViewOf
    v₁ =
        placing.w' p s o id t j seen also me is-session n is-next reply₁ answer₁ b₁ seen
        (begins₁ it₁ rows₁)

    locked : Orderly p (board (set s.words (rows_of p + 1 + u) (bit_or n₁ 1)) (set s.views id v₁) s)
    locked =
        placing.placed p s o id t j seen also me is-session n is-next reply₁ answer₁ b₁ seen
        (begins₁ it₁ rows₁) (set s.words (rows_of p + 1 + u) (bit_or n₁ 1))
        (length-set s.words (rows_of p + 1 + u) (bit_or n₁ 1))
        (first-word (bit_or n₁ 1))
        (same-rows (bit_or n₁ 1) it₁ rows₁)
        (claim-words (bit_or n₁ 1) (done p c₁ it₁).state.locks (λ v.
        ap (λ (k : Locks ℕ). claim_of k v) (claim-locks p c₁ t x₁ u g₁.1)
        ∙ claims-locked (naming_of p).order c₁.state.locks t u v (c₁.state.locks.holder u) refl
        (good₁.granted u)
        ∙ ap (λ m. cond (eqb u v) (bit_or m 1) (claim_of c₁.state.locks v)) (sym claim-is)))

    lock-goes : Goes (lone p t j seen also) t j (lock_line t n u n₁) seen v₁
    lock-goes =
        subst (λ l. Goes (lone p t j seen also) t j l seen v₁) it-is
        (placing.goes p s o id t j seen also me is-session n is-next reply₁ answer₁ b₁ seen
        (begins₁ it₁ rows₁) no-row)

  module _ (to-free : own_way j x₁ ≡ free u) where
    g₂ : (way_at c₁ t x₁ ≡ free u) × ways.Goes (naming_of p).order c₁.state t x₁ (free u)
    g₂ = goes₁ (free u) to-free

    answer₂ : Answers (naming_of p) c₁.state t x₁ Okay
    answer₂ =
        subst (λ y. Answers (naming_of p) c₁.state t y Okay) (sym g₂.1.0)
        (subst
        (λ v. MatchOption v (◌≡◌ {A = Reply ℕ} Okay Okay)
        (λ f. ◌≡◌ {A = Reply ℕ} Okay (Refused f)))
        (sym g₂.1.1) refl)

    some₂ : 0 < c₁.state.locks.grants u
    some₂ = good₁.granted u t g₂.1.2

    abbrev it₂ : Line
    it₂ = placing.it p s o id t j seen also me is-session n is-next Okay answer₂ tt

    rows₂ : (done p c₁ it₂).rows ≡ c₁.rows
    rows₂ = still it₂ refl refl (free u) g₂.0 (λ m. refl)

    it-is₂ : it₂ ≡ free_line t n u n₁
    it-is₂ =
        ap (λ w. made t n Okay (place_at c₁ w)) g₂.0
        ∙ ap (λ g. made t n Okay (Released u g)) (free-is t (c₁.state.locks.grants u) some₂)
        ∙ ap (λ a. free_line t n u (claim_word a (c₁.state.locks.grants u))) (sym g₂.1.2)
        ∙ ap (free_line t n u) (sym claim-is)

    no-row₂ : is_row it₂.place ≡ true → (done p c₁ it₂).rows ≡ seen
    no-row₂ r = absurd (let e : true ≡ false = sym r ∙ ap (λ w. is_row (place_at c₁ w)) g₂.0 in cc)

    abbrev v₂ : ViewOf
    v₂ =
        placing.w' p s o id t j seen also me is-session n is-next Okay answer₂ tt seen
        (begins₁ it₂ rows₂)

    -- n₁ + 1 fits a word
    tiny₂ : (n₁ + 1) % 2 ^ 64 ≡ n₁ + 1
    tiny₂ = let a = small₁ in omega arith

    released : Orderly p
        (board (set s.words (rows_of p + 1 + u) ((n₁ + 1) % 2 ^ 64)) (set s.views id v₂) s)
    released =
        subst (λ m. Orderly p (board (set s.words (rows_of p + 1 + u) m) (set s.views id v₂) s))
        (sym tiny₂) (
        placing.placed p s o id t j seen also me is-session n is-next Okay answer₂ tt seen
        (begins₁ it₂ rows₂) (set s.words (rows_of p + 1 + u) (n₁ + 1))
        (length-set s.words (rows_of p + 1 + u) (n₁ + 1))
        (first-word (n₁ + 1))
        (same-rows (n₁ + 1) it₂ rows₂)
        (claim-words (n₁ + 1) (done p c₁ it₂).state.locks (λ v.
        ap (λ (k : Locks ℕ). claim_of k v) (free-locks p c₁ t x₁ u g₂.1)
        ∙ claims-freed (naming_of p).order c₁.state.locks t u v t g₂.1.2 some₂
        ∙ ap (λ m. cond (eqb u v) (m + 1) (claim_of c₁.state.locks v)) (sym claim-is))))

    free-goes : Goes (lone p t j seen also) t j (free_line t n u n₁) seen v₂
    free-goes =
        subst (λ l. Goes (lone p t j seen also) t j l seen v₂) it-is₂
        (placing.goes p s o id t j seen also me is-session n is-next Okay answer₂ tt seen
        (begins₁ it₂ rows₂) no-row₂)

same_target : (p : PlanOf) (u x : ℕ) → rows_of p + 1 + u ≡ rows_of p + 1 + x → u ≡ x
same_target p u x e = omega arith

-- a line for every session, command and target of the view and the word
tells : (p : PlanOf) (t u r : ℕ) (j : List Line) (n : Numbered ℕ) (seen also : List ℕ) (w : ViewOf)
    (line : ℕ → Numbered ℕ → ℕ → ℕ → Line) → next p t j ≡ Some n
    → Goes (lone p t j seen also) t j (line t n u r) seen w
    → Claims line (rows_of p + 1 + u) (lone p t j seen also) r w
tells p t u r j n seen also w line is goes x y h m one his at =
    subst (λ z. Goes (lone p t j seen also) x h (line x m z r) seen w) (same_target p u y at)
    (subst
    (λ (z : (ℕ × List Line) × Numbered ℕ). Goes (lone p t j seen also) z.0.0 z.0.1
    (line z.0.0 z.1 u r) seen w)
    (same_next p t x j h n m is his one) goes)

-- a `fetch_or` of 1
pub locks : (p : PlanOf) (slots id t u : ℕ) (j : List Line) (seen also : List ℕ)
    (c : List (ℕ × Unit {0})) (n : Numbered ℕ)
    → t < length p.scripts → next p t j ≡ Some n → u < length p.names
    → own_way j n.command ≡ claim u
    → Allows (Orderly p) slots id (lone p t j seen also, c) (rows_of p + 1 + u) (λ n. bit_or n 1)
    (claimed (step slots (rows_of p + 1 + u) 1 0 none) (lone p t j seen also, c))
locks p slots id t u j seen also c n is-session is-next low to-lock s o wide me _ =
    let r : ℕ = get_or s.words (rows_of p + 1 + u) 0 in
    let w : ViewOf = v₁ p s o id t j seen also me is-session n is-next u low to-lock in (
      w,
      keeps,
      tt,
      locked p s o id t j seen also me is-session n is-next u low to-lock,
      (
        tells p t u r j n seen also w lock_line is-next
            (lock-goes p s o id t j seen also me is-session n is-next u low to-lock),
        small₁ p s o id t j seen also me is-session n is-next u low,
        refl,
      ),
    )

-- a `fetch_add` of 1 by the holder
pub frees : (p : PlanOf) (slots id t u : ℕ) (j : List Line) (seen also : List ℕ)
    (c : List (ℕ × Unit {0})) (n : Numbered ℕ)
    → t < length p.scripts → next p t j ≡ Some n → u < length p.names
    → own_way j n.command ≡ free u
    → Allows (Orderly p) slots id (lone p t j seen also, c) (rows_of p + 1 + u)
    (λ n. (n + 1) % 2 ^ 64)
    (freed (step slots (rows_of p + 1 + u) 1 0 none) (lone p t j seen also, c))
frees p slots id t u j seen also c n is-session is-next low to-free s o wide me _ =
    let r : ℕ = get_or s.words (rows_of p + 1 + u) 0 in
    let w : ViewOf = v₂ p s o id t j seen also me is-session n is-next u low to-free in (
      w,
      keeps,
      tt,
      released p s o id t j seen also me is-session n is-next u low to-free,
      (
        tells p t u r j n seen also w free_line is-next
            (free-goes p s o id t j seen also me is-session n is-next u low to-free),
        small₁ p s o id t j seen also me is-session n is-next u low,
        refl,
      ),
    )
