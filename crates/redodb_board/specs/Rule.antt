-- The running rule: between any two steps there is one legal history, whose words are the board's.
use Rattle.std.specs.Prelude.{◌≡◌, ℕ, zero, suc, ◌+◌, ◌<◌, ◌⊎◌, List, [], ◌∷◌, length, slice_index, nat_lt, cond}
use mathlib.Core.Option.{some}
use lib.ListN.{get_elem?}
use Rattle.atomic_table.specs.Table.{State}
use Rattle.redodb_model.specs.Placed.{part_of}
use Rattle.redodb_journal.specs.Plans.{PlanOf, IsPlan}
use Rattle.redodb_board.specs.Rows.{rows_of}
use Rattle.redodb_board.specs.Core.{Line, IsLegal, start, after_all, row_words, Begins, claim_of}
use Rattle.redodb_board.specs.Views.{Part, ViewOf}

-- the session's lines are j there
abbrev pub HasPart : List Part → ℕ → List Line → Type 0
HasPart [] s j = ⊥
HasPart (x ∷ xs) s j = ((x.0 ≡ s) × (x.1 ≡ j)) ⊎ HasPart xs s j

pub record Fits (p : PlanOf) (log : List Line) (v : ViewOf) : Type 0 where
  pub own : (s : ℕ) (j : List Line) → HasPart v.parts s j → part_of s log ≡ j
  pub seen : Begins (row_words p log) v.seen
  pub also : Begins (row_words p log) v.also

-- a session is in one view
abbrev pub Apart : List ViewOf → Type 0
Apart views =
    (i k : ℕ) (v w : ViewOf) (t : ℕ) (j h : List Line) → get_elem? views i ≡ some v
    → get_elem? views k ≡ some w → HasPart v.parts t j → HasPart w.parts t h → i ≡ k

-- and each of these sessions is in one
abbrev pub AllStand : ℕ → List ViewOf → Type 0
AllStand sessions views =
    (t : ℕ) → t < sessions
    → (id : ℕ) × (v : ViewOf) × (j : List Line)
    × (get_elem? views id ≡ some v) × HasPart v.parts t j

abbrev pub AllFit : PlanOf → List Line → List ViewOf → Type 0
AllFit p log views = (id : ℕ) (v : ViewOf) → get_elem? views id ≡ some v → Fits p log v

-- word 0 is the seats', then the rows, then the claims
pub record Orderly (p : PlanOf) (s : State (Unit {0}) ViewOf) : Type 0 where
  pub log : List Line
  pub plan : IsPlan p
  pub legal : IsLegal p start log
  pub wide : length s.words ≡ rows_of p + 1 + length p.names
  pub seat : slice_index s.words 0 ≡ 0
  pub rows : (r : ℕ) → r < rows_of p → slice_index s.words (r + 1) ≡ slice_index (row_words p log) r
  pub claims : (t : ℕ) → t < length p.names
      → slice_index s.words (rows_of p + 1 + t) ≡ claim_of (after_all p start log).state.locks t
  pub fits : AllFit p log s.views
  pub apart : Apart s.views
  pub stand : AllStand (length p.scripts) s.views

-- what a seat learns: a legal history that its view fits
pub record Told (v : ViewOf) : Type 0 where
  pub log : List Line
  pub plan : IsPlan v.plan
  pub legal : IsLegal v.plan start log
  pub fits : Fits v.plan log v

-- n sessions from s on, without lines
abbrev pub range : ℕ → ℕ → List Part
range s zero = []
range s (suc n) = (s, []) ∷ range (s + 1) n

abbrev pub longer : List ℕ → List ℕ → List ℕ
longer xs ys = cond (nat_lt (length xs) (length ys)) ys xs
