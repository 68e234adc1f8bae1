-- The running rule in terms of the definitions.
use Rattle.std.proofs.Common.{◌≡◌, ℕ, ◌+◌, ◌*◌, ◌<◌, eqb, cond, List, length, get_or, Bool, true, false, Option, Some, None, is_some, sym, ap, ◌∙◌, arith, eq-eqb, ne_eqb}
use Rattle.atomic_table.specs.Table.{State}
use Rattle.redodb_model.specs.Placed.{grants_in, releases_in}
use Rattle.redodb_history_laws.specs.Words.{claim_word_of}
use Rattle.redodb_journal.specs.Plans.{PlanOf}
use Rattle.redodb_board.specs.Rows.{naming_of, rows_of}
use Rattle.redodb_board.specs.Core.{Line, Core, start, after_all, claim_word, claim_of}
use Rattle.redodb_board.specs.Histories.{Runs, words_of}
use Rattle.redodb_board.specs.Views.{ViewOf}
use Rattle.redodb_board.specs.Rule.{Orderly}
use Rattle.redodb_history_laws.proofs.Counts.{one_if}
use Rattle.redodb_board.proofs.Bridge.{stood_told, Stood}
use Rattle.redodb_board.proofs.Ended.{history-of, seen-of}
use Rattle.redodb_board.proofs.WordsTold.{words-told}

claim-at : (g r : ℕ) (a : Option ℕ) (x : ℕ) → x ≡ g → g ≡ r + one_if (is_some a)
    → claim_word a x ≡ 2 * r + cond (eqb g r) 0 1
claim-at g r None x e f = let b : eqb g r ≡ true = eq-eqb g r (omega arith) in
    let z = ap (λ (q : Bool). cond {A = ℕ} q 0 1) b in
    omega arith
claim-at g r (Some h) x e f = let b : eqb g r ≡ false = ne_eqb g r (λ q. absurd (omega arith)) in
    let z = ap (λ (q : Bool). cond {A = ℕ} q 0 1) b in
    omega arith

-- the claim words are those of the history
pub claims-told : (p : PlanOf) (c : Core) (lines : List Line) → Stood p c lines → (t : ℕ)
    → claim_of c.state.locks t ≡ claim_word_of (naming_of p) lines t
claims-told p c lines so t =
    claim-at (grants_in (naming_of p) lines t) (releases_in (naming_of p) lines t)
    (c.state.locks.holder t) (c.state.locks.grants t) (so.tied.grants t) (so.tied.held t)

module _ (p : PlanOf) (s : State (Unit {0}) ViewOf) (o : Orderly p s) where
  pub row-at : (r : ℕ) → r < rows_of p
      → get_or s.words (r + 1) 0 ≡ get_or (words_of p o.log) r 0
  row-at r below =
      o.rows r below ∙ ap (λ ws. get_or ws r 0) (sym (words-told p o.log o.plan o.legal))

  pub claim-word-at : (t : ℕ) → t < length p.names
      → get_or s.words (rows_of p + 1 + t) 0 ≡ claim_word_of (naming_of p) o.log t
  claim-word-at t below =
      o.claims t below
      ∙ claims-told p (after_all p start o.log) o.log (stood_told p o.log o.plan o.legal) t

  pub runs : Runs p s
  runs = record {
    lines = o.log;
    history = history-of p o.log o.plan o.legal;
    seat = o.seat;
    rows = row-at;
    claims = claim-word-at;
    parts = λ id v at. (o.fits id v at).own;
    seen = λ id v at. seen-of p o.log v.seen o.plan o.legal (o.fits id v at).seen;
    apart = o.apart;
    stand = o.stand;
  }
