-- An exchange on the first row that was not seen, and a load of it before that.
use Rattle.std.proofs.Common.{◌≡◌, ◌≢◌, ℕ, ◌+◌, ◌<◌, eqb, List, [], ◌∷◌, ◌++◌, length, get_or, set, Bool, Some, refl, sym, ap, ◌∙◌, subst, arith, length-set, get_or-set_same, get_or-set_other}
use Rattle.std.specs.Prelude.{MatchOption}
use Rattle.std.proofs.lemmas.List.{length_push, get_or_push, get_or_append_left, get_or_past, append-nil}
use mathlib.Core.Logic.{dite}
use mathlib.Core.Option.{some, none}
use native.Mathlib.Decide.{ℕ_discrete, dec_lt}
use lib.ListN.{get_elem?}
use prog.Atomic.{either}
use Rattle.atomic_table.specs.Table.{step, Act, keeps, Valid, carried_after, stepped, Allows}
use Rattle.redodb_model.specs.Command.{Command}
use Rattle.redodb_model.specs.Reply.{Reply}
use Rattle.redodb_model.specs.State.{Locks}
use Rattle.redodb_model.specs.Step.{Answers, Replies, lock_reply}
use Rattle.redodb_model.proofs.Unique.{one_reply}
use Rattle.redodb_model.specs.Placed.{Row}
use Rattle.redodb_model.specs.Journals.{Numbered}
use Rattle.redodb_journal.specs.Plans.{PlanOf}
use Rattle.redodb_board.specs.Rows.{naming_of, rows_of}
use Rattle.redodb_board.specs.Core.{Line, Core, row, rows_then, place_at, holds_at, way_at, done, replay, word, Begins, claim_of}
use Rattle.redodb_board.specs.Views.{ViewOf, view}
use Rattle.redodb_board.specs.Rule.{HasPart, Fits, Orderly}
use Rattle.redodb_board.specs.Plays.{own, own_way, next}
use Rattle.redodb_board.specs.Support.Plays.{made, SaysRow, row_line, Goes, Lost, Peeked, Won, tried, peeked, lost}
use Rattle.redodb_board.proofs.Bounds.{records_replayed}
use Rattle.redodb_board.proofs.Orders.{by_text_is_naming}
use Rattle.redodb_board.proofs.Ways as ways
use Rattle.redodb_board.proofs.Parts.{row-locks}
use Rattle.redodb_board.proofs.Kept.{St, board, exchanged, kept, filled, whole, further}
use Rattle.redodb_board.proofs.Placing as placing
use Rattle.redodb_board.proofs.Placing.{lone, same_next}

module _ (p : PlanOf) (s : St) (o : Orderly p s) (id t : ℕ) (j : List Line) (seen also : List ℕ)
    (me : get_elem? s.views id ≡ some (view p ((t, j) ∷ []) seen also))
    (is-session : t < length p.scripts) (n : Numbered ℕ) (is-next : next p t j ≡ Some n)
    (near : length seen < rows_of p) (none-there : get_or s.words (length seen + 1) 0 ≡ 0)
    (in-row : own_way j n.command ≡ row) (reply : Reply ℕ)
    (says : SaysRow (lone p t j seen also) t j n.command reply) where
  abbrev c₀ : Core
  c₀ = placing.core p s o id t j seen also me is-session n is-next

  abbrev x₀ : Command ℕ
  x₀ = n.command

  so : c₀.rows ≡ seen
  so =
      whole p s o seen near (placing.mine p s o id t j seen also me is-session n is-next).seen
      none-there

  is-own : holds_at c₀ t x₀ ≡ own j x₀
  is-own = placing.own-is p s o id t j seen also me is-session n is-next

  is-way : way_at c₀ t x₀ ≡ row
  is-way = placing.way-is p s o id t j seen also me is-session n is-next ∙ in-row

  abbrev w₀ : ℕ
  w₀ = word p t n.number x₀ (own j x₀)

  goes₀ : ways.Goes (naming_of p).order c₀.state t x₀ row
  goes₀ =
      subst (ways.Goes (naming_of p).order c₀.state t x₀) is-way
      (ways.goes (naming_of p).order c₀.state t x₀
      (placing.good p s o id t j seen also me is-session n is-next).builders)

  records-is : c₀.state.records ≡ replay p seen
  records-is =
      records_replayed p o.log o.plan o.legal ∙ ap (replay p) so

  answer : Answers (naming_of p) c₀.state t x₀ reply
  answer =
      subst
      (λ a. MatchOption a (Replies (naming_of p) c₀.state.records t (holds_at c₀ t x₀) x₀ reply)
      (λ u. reply ≡ lock_reply (c₀.state.locks.holder u) (c₀.state.locks.grants u)))
      (sym goes₀.0)
      (subst
      (λ (y : Rattle.redodb_model.specs.State.Records ℕ × Bool). Replies (naming_of p) y.0 t y.1
      x₀ reply)
      (λ i. (sym records-is i, sym is-own i)) says.0)

  abbrev e₀ : Line
  e₀ = placing.it p s o id t j seen also me is-session n is-next reply answer says.1

  rows-is : (done p c₀ e₀).rows ≡ seen ++ w₀ ∷ []
  rows-is =
      ap (λ w. rows_then w c₀.rows (word p t n.number x₀ (holds_at c₀ t x₀))) is-way
      ∙ (λ i. so i ++ word p t n.number x₀ (is-own i) ∷ [])

  it-is : e₀ ≡ made t n reply (Row (length seen))
  it-is =
      ap (λ w. made t n reply (place_at c₀ w)) is-way
      ∙ ap (λ l. made t n reply (Row (length l))) so

  row-begins : Begins (done p c₀ e₀).rows (seen ++ w₀ ∷ [])
  row-begins = ([], rows-is ∙ sym (append-nil (seen ++ w₀ ∷ [])))

  row-words : (r : ℕ) → r < rows_of p
      → get_or (set s.words (length seen + 1) w₀) (r + 1) 0 ≡ get_or (done p c₀ e₀).rows r 0
  row-words r h =
      let long = o.wide in
      dite (ℕ_discrete r (length seen))
      (λ e. ap (λ x. get_or (set s.words (length seen + 1) w₀) (x + 1) 0) e
      ∙ get_or-set_same s.words (length seen + 1) w₀ 0 (omega arith)
      ∙ sym (ap (λ l. get_or l r 0) rows-is ∙ get_or_push seen w₀ 0 r (sym e)))
      (λ ne. get_or-set_other s.words (length seen + 1) (r + 1) w₀ 0 (λ q. ne (omega arith))
      ∙ o.rows r h ∙ ap (λ l. get_or l r 0) so
      ∙ sym (ap (λ l. get_or l r 0) rows-is ∙ past r w₀ ne))
    where
      past : (r w : ℕ) → r ≢ length seen → get_or (seen ++ w ∷ []) r 0 ≡ get_or seen r 0
      past r w ne =
          dite (dec_lt r (length seen)) (λ l. get_or_append_left seen (w ∷ []) 0 r l)
          (λ g. let big : length seen < r = omega arith in
          get_or_past (seen ++ w ∷ []) r 0 (let a = length_push seen w in omega arith)
          ∙ sym (get_or_past seen r 0 (omega arith)))

  row-claims : (u : ℕ) → u < length p.names
      → get_or (set s.words (length seen + 1) w₀) (rows_of p + 1 + u) 0
      ≡ claim_of (done p c₀ e₀).state.locks u
  row-claims u h =
      get_or-set_other s.words (length seen + 1) (rows_of p + 1 + u) w₀ 0 (λ q. omega arith)
      ∙ o.claims u h
      ∙ ap (λ (k : Locks ℕ). claim_of k u) (sym (row-locks p c₀ t x₀ goes₀))

  abbrev v₀ : ViewOf
  v₀ =
      placing.w' p s o id t j seen also me is-session n is-next reply answer says.1
      (seen ++ w₀ ∷ []) row-begins

  won : Orderly p (board (set s.words (length seen + 1) w₀) (set s.views id v₀) s)
  won =
      placing.placed p s o id t j seen also me is-session n is-next reply answer says.1
      (seen ++ w₀ ∷ []) row-begins (set s.words (length seen + 1) w₀)
      (length-set s.words (length seen + 1) w₀)
      (get_or-set_other s.words (length seen + 1) 0 w₀ 0 (λ q. omega arith)) row-words row-claims

  goes-here : Goes (lone p t j seen also) t j (row_line (lone p t j seen also) t n reply)
      (seen ++ w₀ ∷ []) v₀
  goes-here =
      subst (λ l. Goes (lone p t j seen also) t j l (seen ++ w₀ ∷ []) v₀) it-is
      (placing.goes p s o id t j seen also me is-session n is-next reply answer says.1
      (seen ++ w₀ ∷ []) row-begins (λ _. rows-is))

  -- any reply of the database here is this one
  tells : Won (lone p t j seen also) v₀
  tells x h m other one his said =
      let same = same_next p t x j h n m is-next his one in
      let said' : SaysRow (lone p t j seen also) t j x₀ other =
      subst
      (λ (y : (ℕ × List Line) × Numbered ℕ). SaysRow (lone p t j seen also) y.0.0 y.0.1
      y.1.command other)
      (sym same) said in
      let it : reply ≡ other =
      one_reply (by_text_is_naming p.names) (replay p seen) t (own j x₀) x₀ reply other says.0
      said'.0 in
      subst
      (λ (y : ((ℕ × List Line) × Numbered ℕ) × Reply ℕ). Goes (lone p t j seen also) y.0.0.0
      y.0.0.1 (row_line (lone p t j seen also) y.0.0.0 y.0.1 y.1)
      (seen ++ word p y.0.0.0 y.0.1.number y.0.1.command (own y.0.0.1 y.0.1.command) ∷ []) v₀)
      (λ i. (same i, it i)) goes-here

-- a row that was found filled
module _ (p : PlanOf) (s : St) (o : Orderly p s) (id t : ℕ) (j : List Line) (seen also : List ℕ)
    (c : List (ℕ × Unit {0})) (me : get_elem? s.views id ≡ some (lone p t j seen also))
    (near : length seen < rows_of p)
    (some-there : get_or s.words (length seen + 1) 0 ≢ 0) where
  abbrev found : ℕ
  found = get_or s.words (length seen + 1) 0

  abbrev v₁ : ViewOf
  v₁ = view p ((t, j) ∷ []) (seen ++ found ∷ []) also

  fits₁ : Fits p o.log v₁
  fits₁ =
      let f = o.fits id (lone p t j seen also) me in
      record { own = f.own; seen = further p s o seen near f.seen some-there; also = f.also }

  lost-here : Lost (lone p t j seen also) found v₁
  lost-here = record {
    now = refl;
    told = record { log = o.log; plan = o.plan; legal = o.legal; fits = fits₁ };
  }

  abbrev v₂ : ViewOf
  v₂ = view p ((t, j) ∷ []) seen (seen ++ found ∷ [])

  fits₂ : Fits p o.log v₂
  fits₂ =
      let f = o.fits id (lone p t j seen also) me in
      record { own = f.own; seen = f.seen; also = further p s o seen near f.seen some-there }

  peeked-here : Peeked (lone p t j seen also) found v₂
  peeked-here = record {
    now = refl;
    told = record { log = o.log; plan = o.plan; legal = o.legal; fits = fits₂ };
  }

  -- the history stays the same, whatever of the row is known
  stays : (w : ViewOf) → w.parts ≡ (t, j) ∷ [] → Fits p o.log w
      → Orderly p (stepped s (length seen + 1) found id c w keeps)
  stays w same fits =
      kept p s o id (length seen + 1) (lone p t j seen also) w me
      (λ u h has. (h, subst (λ x. HasPart x u h) same has))
      (λ u h has. (h, subst (λ x. HasPart x u h) (sym same) has)) fits

pub tries : (p : PlanOf) (slots id t r : ℕ) (j : List Line) (seen also : List ℕ)
    (c : List (ℕ × Unit {0})) (n : Numbered ℕ)
    → t < length p.scripts → next p t j ≡ Some n → r ≡ length seen → r < rows_of p
    → own_way j n.command ≡ row → (reply : Reply ℕ)
    → SaysRow (lone p t j seen also) t j n.command reply
    → Allows (Orderly p) slots id (lone p t j seen also, c) (r + 1)
    (λ m. either (eqb m 0) (word p t n.number n.command (own j n.command)) m)
    (tried (step slots (r + 1) 0 (word p t n.number n.command (own j n.command)) none)
    (lone p t j seen also, c))
tries p slots id t r j seen also c n is-session is-next at near in-row reply says =
    let w₁ : ℕ = word p t n.number n.command (own j n.command) in
    subst
    (λ x. Allows (Orderly p) slots id (lone p t j seen also, c) (x + 1)
    (λ m. either (eqb m 0) w₁ m)
    (tried (step slots (x + 1) 0 w₁ none) (lone p t j seen also, c)))
    (sym at) (λ s o wide me _.
    let m : ℕ = get_or s.words (length seen + 1) 0 in
    exchanged m 0 w₁
    (λ (x : ℕ). (w : ViewOf) × (a : Act (Unit {0})) × Valid s.homes c a
    × Orderly p (stepped s (length seen + 1) x id c w a)
    × tried (step slots (length seen + 1) 0 w₁ none) (lone p t j seen also, c) m
    (w, carried_after c a))
    (λ zero-there. (
      v₀ p s o id t j seen also me is-session n is-next within zero-there in-row reply says,
      keeps,
      tt,
      won p s o id t j seen also me is-session n is-next within zero-there in-row reply says,
      (
        refl,
        (λ _. tells p s o id t j seen also me is-session n is-next within zero-there in-row reply
            says),
        (λ ne. absurd (ne zero-there)),
        refl,
      ),
    ))
    (λ some-there. (
      v₁ p s o id t j seen also c me within some-there,
      keeps,
      tt,
      stays p s o id t j seen also c me within some-there
          (v₁ p s o id t j seen also c me within some-there) refl
          (fits₁ p s o id t j seen also c me within some-there),
      (
        refl,
        (λ e. absurd (some-there e)),
        (λ _. lost-here p s o id t j seen also c me within some-there),
        refl,
      ),
    )))
  where
    within : length seen < rows_of p
    within = omega arith

-- a load of the row before the exchange
pub peeks : (p : PlanOf) (slots id t r : ℕ) (j : List Line) (seen also : List ℕ)
    (c : List (ℕ × Unit {0})) → r ≡ length seen → r < rows_of p
    → Allows (Orderly p) slots id (lone p t j seen also, c) (r + 1) (λ m. m)
    (peeked (step slots (r + 1) 0 0 none) (lone p t j seen also, c))
peeks p slots id t r j seen also c at near =
    subst
    (λ x. Allows (Orderly p) slots id (lone p t j seen also, c) (x + 1) (λ m. m)
    (peeked (step slots (x + 1) 0 0 none) (lone p t j seen also, c)))
    (sym at) (λ s o wide me _.
    let m : ℕ = get_or s.words (length seen + 1) 0 in
    dite (ℕ_discrete m 0)
    (λ zero-there. (
      lone p t j seen also,
      keeps,
      tt,
      kept p s o id (length seen + 1) (lone p t j seen also) (lone p t j seen also) me
          (λ u h has. (h, has)) (λ u h has. (h, has)) (o.fits id (lone p t j seen also) me),
      (refl, (λ _. refl), (λ ne. absurd (ne zero-there)), refl),
    ))
    (λ some-there. (
      v₂ p s o id t j seen also c me within some-there,
      keeps,
      tt,
      stays p s o id t j seen also c me within some-there
          (v₂ p s o id t j seen also c me within some-there) refl
          (fits₂ p s o id t j seen also c me within some-there),
      (
        refl,
        (λ e. absurd (some-there e)),
        (λ _. peeked-here p s o id t j seen also c me within some-there),
        refl,
      ),
    )))
  where
    within : length seen < rows_of p
    within = omega arith

-- the exchange after a load that found the row filled
pub loses : (p : PlanOf) (slots id t r w : ℕ) (j : List Line) (seen also : List ℕ)
    (c : List (ℕ × Unit {0})) → r ≡ length seen → r < rows_of p → length seen < length also
    → Allows (Orderly p) slots id (lone p t j seen also, c) (r + 1)
    (λ m. either (eqb m 0) w m)
    (lost (step slots (r + 1) 0 w none) (lone p t j seen also, c))
loses p slots id t r w j seen also c at near shown =
    subst
    (λ x. Allows (Orderly p) slots id (lone p t j seen also, c) (x + 1)
    (λ m. either (eqb m 0) w m)
    (lost (step slots (x + 1) 0 w none) (lone p t j seen also, c)))
    (sym at) (λ s o wide me _.
    let m : ℕ = get_or s.words (length seen + 1) 0 in
    let f = o.fits id (lone p t j seen also) me in
    let there : m ≢ 0 = filled p s o also f.also (length seen) shown within in
    exchanged m 0 w
    (λ (x : ℕ). (u : ViewOf) × (a : Act (Unit {0})) × Valid s.homes c a
    × Orderly p (stepped s (length seen + 1) x id c u a)
    × lost (step slots (length seen + 1) 0 w none) (lone p t j seen also, c) m
    (u, carried_after c a))
    (λ zero-there. absurd (there zero-there))
    (λ some-there. (
      v₁ p s o id t j seen also c me within some-there,
      keeps,
      tt,
      stays p s o id t j seen also c me within some-there
          (v₁ p s o id t j seen also c me within some-there) refl
          (fits₁ p s o id t j seen also c me within some-there),
      (refl, some-there, lost-here p s o id t j seen also c me within some-there, refl),
    )))
  where
    within : length seen < rows_of p
    within = omega arith
