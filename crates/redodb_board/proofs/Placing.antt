-- What a session does next, at the history's end.
use Rattle.std.proofs.Common.{◌≡◌, ℕ, ◌+◌, ◌<◌, List, [], ◌∷◌, ◌++◌, length, get_or, map, set, true, Option, Some, None, refl, sym, ap, ◌∙◌, subst, inl, ⊎_elim}
use mathlib.Core.Option.{some}
use lib.ListN.{get_elem?}
use Rattle.redodb_model.specs.Command.{Command, target_of}
use Rattle.redodb_model.specs.Reply.{Reply}
use Rattle.redodb_model.specs.Closing.{holds, builds}
use Rattle.redodb_model.specs.History as histories
use Rattle.redodb_model.specs.History.{left_by}
use Rattle.redodb_model.specs.State.{State, empty, target_state}
use Rattle.redodb_model.specs.Step.{Answers, holds_name, is_held_by, is_built_by}
use Rattle.redodb_model.specs.Renaming.{IsReplyBelow}
use Rattle.redodb_model.specs.Placed.{line_of, part_of, is_row}
use Rattle.redodb_model.specs.Journals.{Numbered, next_of}
use Rattle.redodb_model.proofs.OwnLines.{holds_by_part, builds_by_part}
use Rattle.redodb_journal.specs.Plans.{PlanOf, script_of}
use Rattle.redodb_board.specs.Rows.{naming_of, rows_of}
use Rattle.redodb_board.specs.Core.{Line, Core, start, way, place_at, holds_at, way_at, builds_target, builds_name, done, IsLegal, after_all, Begins, claim_of}
use Rattle.redodb_board.specs.Views.{Part, ViewOf, view}
use Rattle.redodb_board.specs.Rule.{Fits, Orderly}
use Rattle.redodb_board.specs.Plays.{held_name, built_name, next, own, own_build, own_way}
use Rattle.redodb_board.specs.Support.Plays.{made, Goes}
use Rattle.redodb_history_laws.proofs.Closed.{part_lines}
use Rattle.redodb_history_laws.proofs.Own.{push_own}
use Rattle.redodb_board.proofs.Bounds.{state_from}
use Rattle.redodb_board.proofs.Bridge.{legal_from}
use Rattle.redodb_board.proofs.Held.{holds_alike, builds_alike}
use Rattle.redodb_board.proofs.Orders.{by_text_is_naming}
use Rattle.redodb_board.proofs.Parts.{after-push, legal-push, own-part}
use Rattle.redodb_board.proofs.Sound.{Sound, sound}
use Rattle.redodb_board.proofs.Kept.{St, board, fits_other, fits_set, apart_set, stand_set, begins_done}

module _ (p : PlanOf) (s : St) (o : Orderly p s) (id t : ℕ) (j : List Line) (seen also : List ℕ)
    (me : get_elem? s.views id ≡ some (view p ((t, j) ∷ []) seen also))
    (is-session : t < length p.scripts) (n : Numbered ℕ) (is-next : next p t j ≡ Some n) where
  abbrev pub core : Core
  core = after_all p start o.log

  pub mine : Fits p o.log (view p ((t, j) ∷ []) seen also)
  mine = o.fits id (view p ((t, j) ∷ []) seen also) me

  journal : part_of t o.log ≡ j
  journal = mine.own t j (inl (refl, refl))

  pub now : core.own t ≡ j
  now = own-part p o.log t ∙ journal

  pub good : Sound p core
  good = sound p o.log o.plan o.legal

  -- the session's own lines determine what it holds and builds
  lines_so : histories.part_of t (map line_of o.log) ≡ map line_of j
  lines_so = part_lines t o.log ∙ ap (map line_of) journal

  left_so : core.state ≡ left_by (naming_of p) empty (map line_of o.log)
  left_so = state_from p start o.log

  holds_so : (a : Option ℕ) → holds_name core.state.locks t a ≡ held_name a j
  holds_so None = refl
  holds_so (Some u) =
      ap (λ (st : State ℕ). is_held_by t (st.locks.holder u)) left_so
      ∙ sym (holds_by_part (by_text_is_naming p.names) empty (map line_of o.log) t u
      (legal_from p start o.log o.legal))
      ∙ ap (λ ls. holds (naming_of p) ls u) lines_so
      ∙ sym (holds_alike (naming_of p).order j u)

  builds_so : (a : Option ℕ) → builds_name core.state.records t a ≡ built_name a j
  builds_so None = refl
  builds_so (Some u) =
      ap (λ (st : State ℕ). is_built_by t (target_state st.records u)) left_so
      ∙ sym (builds_by_part (by_text_is_naming p.names) empty (map line_of o.log) t u
      (legal_from p start o.log o.legal))
      ∙ ap (λ ls. builds (naming_of p) ls u) lines_so
      ∙ sym (builds_alike (naming_of p).order j u)

  abbrev pub x : Command ℕ
  x = n.command

  pub own-is : holds_at core t x ≡ own j x
  own-is = holds_so (target_of x)

  build-is : builds_target core.state.records t x ≡ own_build j x
  build-is = builds_so (target_of x)

  pub way-is : way_at core t x ≡ own_way j x
  way-is = λ i. way x (own-is i) (build-is i)

  module _ (reply : Reply ℕ) (answer : Answers (naming_of p) core.state t x reply)
      (below : IsReplyBelow (length p.names) reply) where
    abbrev pub it : Line
    it = made t n reply (place_at core (way_at core t x))

    abbrev pub log' : List Line
    log' = o.log ++ it ∷ []

    legal' : IsLegal p start log'
    legal' =
        legal-push p start o.log it o.legal
        (record {
          session = is-session;
          next = ap (next_of (naming_of p) (script_of p t)) now ∙ is-next;
          place = refl;
          answer = answer;
          below = below;
        })

    core' : after_all p start log' ≡ done p core it
    core' = after-push p start o.log it

    module _ (seen' : List ℕ) (b : Begins (done p core it).rows seen') where
      abbrev pub w' : ViewOf
      w' = view p ((t, j ++ it ∷ []) ∷ []) seen' also

      mine' : Fits p log' w'
      mine' = record {
        own =
            λ u h has.
            ⊎_elim
            (λ (q : (t ≡ u) × (j ++ it ∷ [] ≡ h)). subst (λ x. part_of x log' ≡ h) q.0
            (push_own t o.log it refl ∙ ap (λ l. l ++ it ∷ []) journal ∙ q.1))
            (λ none. absurd none) has;
        seen = subst (λ r. Begins r seen') (sym (ap (λ (c : Core). c.rows) core')) b;
        also = begins_done p o.log it also mine.also;
      }

      pub placed : (ws : List ℕ) → length ws ≡ length s.words
          → get_or ws 0 0 ≡ get_or s.words 0 0
          → ((r : ℕ) → r < rows_of p → get_or ws (r + 1) 0 ≡ get_or (done p core it).rows r 0)
          →
          ((u : ℕ) → u < length p.names
          → get_or ws (rows_of p + 1 + u) 0 ≡ claim_of (done p core it).state.locks u)
          → Orderly p (board ws (set s.views id w') s)
      placed ws long first rows claims = record {
        log = log';
        plan = o.plan;
        legal = legal';
        wide = long ∙ o.wide;
        seat = first ∙ o.seat;
        rows = λ r h. rows r h ∙ ap (λ (c : Core). get_or c.rows r 0) (sym core');
        claims = λ u h. claims u h ∙ ap (λ (c : Core). claim_of c.state.locks u) (sym core');
        fits =
            fits_set p log' s.views id w'
            (λ k u ne e. fits_other p o.log it u (o.fits k u e)
            (λ h has. ne
            (o.apart k id u (view p ((t, j) ∷ []) seen also) t h j e me has
            (inl (refl, refl)))))
            mine';
        apart =
            apart_set s.views id (view p ((t, j) ∷ []) seen also) w' me
            (λ u h has. ⊎_elim (λ (q : (t ≡ u) × (j ++ it ∷ [] ≡ h)). (j, inl (q.0, refl)))
            (λ none. absurd none) has)
            o.apart;
        stand =
            stand_set (length p.scripts) s.views id (view p ((t, j) ∷ []) seen also) w' me
            (λ u h has. ⊎_elim (λ (q : (t ≡ u) × (j ≡ h)). (j ++ it ∷ [], inl (q.0, refl)))
            (λ none. absurd none) has)
            o.stand;
      }

      pub goes : (is_row it.place ≡ true → (done p core it).rows ≡ seen')
          → Goes (view p ((t, j) ∷ []) seen also) t j it seen' w'
      goes only = record {
        now = refl;
        ends =
            record {
              before = o.log;
              plan = o.plan;
              legal = legal';
              fits = mine';
              only = λ r. ap (λ (c : Core). c.rows) core' ∙ only r;
            };
      }

pub lone_is : (t x : ℕ) (j h : List Line) → ◌≡◌ {A = List Part} ((t, j) ∷ []) ((x, h) ∷ [])
    → ◌≡◌ {A = ℕ × List Line} (t, j) (x, h)
lone_is t x j h e = ap (λ (l : List Part). get_or l 0 (0, [])) e

-- the session, its lines and what it does next are those of the view
pub same_next : (p : PlanOf) (t x : ℕ) (j h : List Line) (n m : Numbered ℕ)
    → next p t j ≡ Some n → next p x h ≡ Some m
    → ◌≡◌ {A = List Part} ((t, j) ∷ []) ((x, h) ∷ [])
    → ◌≡◌ {A = (ℕ × List Line) × Numbered ℕ} ((t, j), n) ((x, h), m)
same_next p t x j h n m is his e =
    let same = lone_is t x j h e in
    let one : n ≡ m =
    ap (λ o. Rattle.std.specs.Option.unwrap_or o n)
    (sym is ∙ ap (λ (y : ℕ × List Line). next p y.0 y.1) same ∙ his) in
    λ i. (same i, one i)

abbrev pub lone : PlanOf → ℕ → List Line → List ℕ → List ℕ → ViewOf
lone p t j seen also = view p ((t, j) ∷ []) seen also
