-- The board's clauses in terms of the definitions.
use Rattle.std.proofs.Common.{◌≡◌, ℕ, ◌<◌, ◌≤◌, ◌⊎◌, ⊎_elim, List, [], ◌∷◌, ◌++◌, length, map, refl, sym, ap, ◌∙◌, subst, inl, inr, arith}
use mathlib.Core.Logic.{dite}
use native.Mathlib.Decide.{ℕ_discrete, dec_lt}
use Rattle.redodb_model.specs.Names.{texts, text_at}
use Rattle.redodb_model.specs.History.{Legal}
use Rattle.redodb_model.specs.Renaming.{named_line}
use Rattle.redodb_model.specs.Placed.{line_of, part_of}
use Rattle.redodb_model.specs.Journals.{IsJointOrder}
use Rattle.redodb_model.proofs.HistoriesByName.{legal_by_name}
use Rattle.redodb_model.proofs.Naming.{numbering_is_renaming}
use Rattle.redodb_model.proofs.Texts.{texts_are_names}
use Rattle.redodb_journal.specs.Plans.{PlanOf, IsPlan, script_of}
use Rattle.redodb_model.specs.Seen.{HasSeen}
use Rattle.redodb_history_laws.specs.ByRows.{records_left}
use Rattle.redodb_history_laws.specs.Replayed.{IsLegalOfPlan}
use Rattle.redodb_history_laws.proofs.Exchange.{cond_same, cond_other}
use Rattle.redodb_history_laws.proofs.Own.{part_of-other}
use Rattle.redodb_history_laws.proofs.Standing.{seen_stands}
use Rattle.redodb_history_laws.proofs.Replayed as joint
use Rattle.redodb_board.specs.Rows.{naming_of}
use Rattle.redodb_board.specs.Core.{Line, Core, IsLegal, start, done, row_words, Begins}
use Rattle.redodb_board.specs.Histories.{IsHistoryOf, EndsWith, words_of}
use Rattle.redodb_board.specs.Shown.{lines_in}
use Rattle.redodb_board.specs.Views.{Part, ViewOf}
use Rattle.redodb_board.specs.Rule.{HasPart, Fits}
use Rattle.redodb_board.specs.Support.Plays.{Ends}
use Rattle.redodb_board.proofs.Bounds.{no_script, below_most}
use Rattle.redodb_board.proofs.Orders.{by_text_is_naming}
use Rattle.redodb_board.proofs.Bridge.{legal_from, below_told, placed_told, of_plan_told}
use Rattle.redodb_board.proofs.Sound.{start-sound}
use Rattle.redodb_board.proofs.WordsTold.{words-told}

map_map : {X Y Z : Type 0} (f : X → Y) (g : Y → Z) (xs : List X)
    → map g (map f xs) ≡ map (λ x. g (f x)) xs
map_map f g [] = refl
map_map f g (x ∷ xs) = ap (λ ys. g (f x) ∷ ys) (map_map f g xs)

-- a history that the core allows is one of the definitions
pub history-of : (p : PlanOf) (log : List Line) → IsPlan p → IsLegal p start log
    → IsHistoryOf p log
history-of p log plan h =
    let both =
    legal_by_name (numbering_is_renaming p.names plan.names.distinct) texts texts_are_names
    (naming_of p).order (record { alike = λ k m a b. refl }) (map line_of log)
    (below_told p start log plan (start-sound p) h) in
    record {
      legal =
          subst (Legal texts) (map_map line_of (named_line (text_at p.names)) log)
          (both.0 (legal_from p start log h));
      placed = placed_told p log plan h;
      of_plan = of_plan_told p log plan h;
      below = below_told p start log plan (start-sound p) h;
    }

-- the row words of a history begin with what a view that fits it saw
pub seen-of : (p : PlanOf) (log : List Line) (seen : List ℕ) → IsPlan p → IsLegal p start log
    → Begins (row_words p log) seen → Begins (words_of p log) seen
seen-of p log seen plan h b = subst (λ ws. Begins ws seen) (sym (words-told p log plan h)) b

-- the lines of a view with one session are the whole part
pub ends-with : (v : ViewOf) (own : List Line) (l : Line) → HasPart v.parts l.session own
    → Ends v l → EndsWith v.plan own v.seen l
ends-with v own l has h =
    let log : List Line = h.before ++ l ∷ [] in record {
      before = h.before;
      history = history-of v.plan log h.plan h.legal;
      whole = h.fits.own l.session own has;
      begins = seen-of v.plan log v.seen h.plan h.legal h.fits.seen;
      only = λ r. words-told v.plan log h.plan h.legal ∙ h.only r;
      had_seen =
          λ place seen.
          seen_stands (by_text_is_naming v.plan.names) l.session log place
          (placed_told v.plan log h.plan h.legal)
          (subst (λ (ls : List Line). HasSeen ls place)
          (sym (h.fits.own l.session own has)) seen);
    }

-- the lines of a session: those that the seat has, or none
lines_found : (parts : List Part) (s : ℕ)
    → HasPart parts s (lines_in parts s)
    ⊎ ((lines_in parts s ≡ []) × ((own : List Line) → HasPart parts s own → ⊥))
lines_found [] s = inr (refl, λ own has. has)
lines_found (x ∷ xs) s = dite (ℕ_discrete x.0 s)
    (λ e. inl (inl (e, sym (cond_same x.0 s x.1 (lines_in xs s) e))))
    (λ ne.
    let later : lines_in (x ∷ xs) s ≡ lines_in xs s =
    cond_other x.0 s x.1 (lines_in xs s) ne in
    elim (lines_found xs s) [
      | inl h ↦ inl (inr (subst (HasPart xs s) (sym later) h))
      | inr h ↦ inr (
        later ∙ h.0,
        λ own has. ⊎_elim
            (λ (q : (x.0 ≡ s) × (x.1 ≡ own)). ne q.0) (λ k. h.1 own k) has,
      )
    ])

-- no line is of a session past the plan's
none_past : (p : PlanOf) (c : Core) (log : List Line) (s : ℕ) → IsLegal p c log
    → length p.scripts ≤ s → part_of s log ≡ []
none_past p c [] s h past = refl
none_past p c (l ∷ ls) s h past =
    part_of-other s l ls (λ e. let a = h.0.session in omega arith)
    ∙ none_past p (done p c l) ls s h.1 past

-- a history that all lines of a view fit is a joint order of them, if the view has all sessions
pub joint-of : (p : PlanOf) (log : List Line) (v : ViewOf) → IsPlan p → IsLegal p start log
    → Fits p log v
    → ((s : ℕ) → s < length p.scripts → (own : List Line) × HasPart v.parts s own)
    → IsJointOrder (naming_of p) (lines_in v.parts) log
joint-of p log v plan h fits all = (
  λ s. elim (lines_found v.parts s) [
    | inl has ↦ fits.own s (lines_in v.parts s) has
    | inr out ↦ dite (dec_lt s (length p.scripts))
        (λ less. let a = all s less in absurd (out.1 a.0 a.1))
        (λ past. none_past p start log s h (omega arith) ∙ sym out.0)
  ],
  placed_told p log plan h,
)

-- a history over the names is one over the numbers
pub over_numbers : (p : PlanOf) (lines : List Line) → IsPlan p → IsHistoryOf p lines
    → IsLegalOfPlan (naming_of p) (script_of p) lines
over_numbers p lines plan h = record {
  of_plan = h.of_plan;
  placed = h.placed;
  legal =
      (legal_by_name (numbering_is_renaming p.names plan.names.distinct) texts texts_are_names
      (naming_of p).order (record { alike = λ k m a b. refl }) (map line_of lines) h.below).1
      (subst (Legal texts) (sym (map_map line_of (named_line (text_at p.names)) lines)) h.legal);
  few = no_script p plan;
  below = below_most p plan (map line_of lines) h.below;
}

-- two histories with the same row words leave the same records
pub words_fix : (p : PlanOf) (one other : List Line) → IsPlan p → IsHistoryOf p one
    → IsHistoryOf p other → words_of p one ≡ words_of p other
    → records_left (naming_of p) one ≡ records_left (naming_of p) other
words_fix p one other plan a b same =
    joint.words_fix (by_text_is_naming p.names) (script_of p) one other
    (over_numbers p one plan a) (over_numbers p other plan b) same
