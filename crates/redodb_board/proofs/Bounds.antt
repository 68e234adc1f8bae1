-- What the row words of a legal history say, and how many rows, lines and grants it has.
use Rattle.std.proofs.Common.{◌≡◌, ℕ, ◌<◌, ◌≤◌, true, false, List, [], ◌∷◌, length, map, get_or, None, refl, sym, ap, ◌∙◌, subst, inl, inr, arith}
use Rattle.std.specs.List.{AllByRecursion}
use Rattle.std.proofs.lemmas.Bool.{false≢true}
use Rattle.std.proofs.lemmas.List.{get_or_past, get_or_push, get_or_append_left, length_push}
use mathlib.Core.Logic.{dite}
use native.Mathlib.Decide.{dec_lt}
use Rattle.redodb_model.specs.Support.Names.{IsNaming}
use Rattle.redodb_model.specs.Command.{Command, asked_lock}
use Rattle.redodb_model.specs.Reply.{Reply, Okay, Granted, Busy, Stale, Stamped, Refused, NotLocked, Building, NotBuilding, Itself, Exists}
use Rattle.redodb_model.specs.Reply as replies
use Rattle.redodb_model.specs.History as histories
use Rattle.redodb_model.specs.History.{left_by}
use Rattle.redodb_model.specs.Renaming.{IsBelow, AllBelow, IsReplyBelow, IsLineBelow}
use Rattle.redodb_model.specs.Placed.{line_of, is_row}
use Rattle.redodb_model.specs.Support.Room.{is_lock}
use Rattle.redodb_history_laws.specs.Replayed.{IsLegalOfPlan}
use Rattle.redodb_history_laws.proofs.Closed.{LineTells, AllTell, all_tell}
use Rattle.redodb_history_laws.proofs.Replayed as joint
use Rattle.redodb_journal.specs.Plans.{PlanOf, IsPlan, script_of}
use Rattle.redodb_board.specs.Rows.{naming_of}
use Rattle.redodb_board.specs.Core.{Core, start, Line, Way, row, claim, free, rows_then, place_at, holds_at, way_at, done, IsNext, IsLegal, after_all, row_words, word, replay}
use Rattle.redodb_board.specs.Support.Core.{IsRow, IsWord}
use Rattle.redodb_board.proofs.Bridge.{legal_from, below_told, of_plan_told, placed_told}
use Rattle.redodb_board.proofs.ClaimWords.{claim_no_row}
use Rattle.redodb_board.proofs.Orders.{by_text_is_naming}
use Rattle.redodb_board.proofs.Scripts.{command_below}
use Rattle.redodb_board.proofs.Sound.{Sound, start-sound, done-sound, goes-now, command-below}
use Rattle.redodb_board.proofs.Ways.{Goes}
use Rattle.redodb_history_laws.specs.RowWord.{row_for}
use Rattle.redodb_history_laws.proofs.Decoding.{word_some, line_decoded, closing_decoded}
use Rattle.redodb_board.proofs.WordsTold.{words-told}

-- more names
all_up : (n m : ℕ) (names : List ℕ) → n ≤ m → AllBelow n names → AllBelow m names
all_up n m [] up all = tt
all_up n m (t ∷ names) up all = let a = all.0 in (omega arith, all_up n m names up all.1)

reply_up : (n m : ℕ) (reply : Reply ℕ) → n ≤ m → IsReplyBelow n reply → IsReplyBelow m reply
reply_up n m (Stale ns) up below = all_up n m ns up below
reply_up n m (replies.Ood ns) up below = all_up n m ns up below
reply_up n m (replies.Targets ns) up below = all_up n m ns up below
reply_up n m (replies.Sources ns) up below = all_up n m ns up below
reply_up n m (Refused (Exists k)) up below = omega arith
reply_up n m reply up below = tt

lines_up : (n m : ℕ) (lines : List (histories.Line ℕ)) → n ≤ m
    → AllByRecursion (IsLineBelow n) lines → AllByRecursion (IsLineBelow m) lines
lines_up n m [] up all = tt
lines_up n m (line ∷ lines) up all = (
  (
    all_up n m (Rattle.redodb_model.specs.Command.names_in line.command) up all.0.0,
    reply_up n m line.reply up all.0.1,
  ),
  lines_up n m lines up all.1,
)

module _ (p : PlanOf) (plan : IsPlan p) where
  -- there are scripts of at most 64 sessions
  pub no_script : (s : ℕ) → 64 ≤ s → script_of p s ≡ []
  no_script s past = let few = plan.few in get_or_past p.scripts s [] (omega arith)

  pub below_most : (lines : List (histories.Line ℕ))
      → AllByRecursion (IsLineBelow (length p.names)) lines
      → AllByRecursion (IsLineBelow 65536) lines
  below_most lines all = lines_up (length p.names) 65536 lines plan.few_names all

pub state_from : (p : PlanOf) (c : Core) (log : List Line)
    → (after_all p c log).state ≡ left_by (naming_of p) c.state (map line_of log)
state_from p c [] = refl
state_from p c (l ∷ ls) = state_from p (done p c l) ls

module _ (p : PlanOf) (log : List Line) (plan : IsPlan p) (legal : IsLegal p start log) where
  legal_of_plan : IsLegalOfPlan (naming_of p) (script_of p) log
  legal_of_plan = record {
    of_plan = of_plan_told p log plan legal;
    placed = placed_told p log plan legal;
    legal = legal_from p start log legal;
    few = no_script p plan;
    below = below_most p plan (map line_of log)
        (below_told p start log plan (start-sound p) legal);
  }

  -- the records are the replay of the row words
  pub records_replayed : (after_all p start log).state.records ≡ replay p (row_words p log)
  records_replayed =
      ap (λ (s : Rattle.redodb_model.specs.State.State ℕ). s.records) (state_from p start log)
      ∙ joint.words_replayed (by_text_is_naming p.names) (script_of p) log legal_of_plan
      ∙ ap (replay p) (words-told p log plan legal)

  pub all_told : AllTell (by_text_is_naming p.names) (script_of p) log
  all_told =
      let known = legal_of_plan in
      all_tell (by_text_is_naming p.names) (script_of p) [] log tt known.legal known.placed
      known.of_plan.journals known.below

pub lock_asked : (x : Command ℕ) → asked_lock x ≡ None → is_lock x ≡ false
lock_asked x e = grind arith

module _ (p : PlanOf) (plan : IsPlan p) where
  abbrev law : IsNaming (naming_of p)
  law = by_text_is_naming p.names

  -- a row is no lock's
  abbrev pub RowAsked : Line → Type 0
  RowAsked l = is_row l.place ≡ true → asked_lock l.command ≡ None

  row_asked : (c : Core) (l : Line) (w : Way)
      → Goes (naming_of p).order c.state l.session l.command w
      → l.place ≡ place_at c w → RowAsked l
  row_asked c l row g is r = g.0
  row_asked c l (claim t) g is r =
      absurd (false≢true (sym (claim_no_row t (c.state.locks.grants t) (c.state.locks.holder t))
      ∙ ap is_row (sym is) ∙ r))
  row_asked c l (free t) g is r = absurd (false≢true (ap is_row (sym is) ∙ r))

  module _ (c : Core) (l : Line) (is : IsNext p c l) (o : Sound p c)
      (tells : LineTells law (script_of p) l) where
    abbrev word₁ : ℕ
    word₁ = word p l.session l.number l.command (holds_at c l.session l.command)

    row_is_word : is_row l.place ≡ true → asked_lock l.command ≡ None → IsWord p word₁
    row_is_word r asked =
        let h = holds_at c l.session l.command in
        let few = plan.few in
        let here = is.session in record {
          some = word_some (row_for (script_of p) l.session l.number l.command h);
          row = elim (tells.row r) [
            | inl scripted ↦
                subst (IsRow p)
                (sym
                (line_decoded (script_of p) l h scripted (omega arith) (plan.short l.session)))
                (record {
                  session = here;
                  within = scripted.within;
                  no_lock = ap asked_lock scripted.command ∙ asked;
                  below = command_below p l.session l.number plan;
                })
            | inr failing ↦
                let low = (subst (IsBelow (length p.names)) failing.command
                (command-below p c l plan is o)).0 in
                subst (IsRow p) (sym (closing_decoded (script_of p) l h failing))
                (record { session = here; within = tt; no_lock = refl; below = (low, tt) })
          ];
        }

    words_done : (w : Way) → Goes (naming_of p).order c.state l.session l.command w
        → l.place ≡ place_at c w → ((r : ℕ) → r < length c.rows → IsWord p (get_or c.rows r 0))
        → (r : ℕ) → r < length (rows_then w c.rows word₁)
        → IsWord p (get_or (rows_then w c.rows word₁) r 0)
    words_done row g at words r below =
        let len = length_push c.rows word₁ in
        dite (dec_lt r (length c.rows))
        (λ less. subst (IsWord p) (sym (get_or_append_left c.rows (word₁ ∷ []) 0 r less))
        (words r less))
        (λ not. let e : length c.rows ≡ r = omega arith in
        subst (IsWord p) (sym (get_or_push c.rows word₁ 0 r e)) (row_is_word (ap is_row at) g.0))
    words_done (claim t) g at words r below = words r below
    words_done (free t) g at words r below = words r below

  words_by : (c : Core) (log : List Line) → Sound p c → IsLegal p c log
      → AllTell law (script_of p) log → ((r : ℕ) → r < length c.rows → IsWord p (get_or c.rows r 0))
      → (r : ℕ) → r < length (after_all p c log).rows
      → IsWord p (get_or (after_all p c log).rows r 0)
  words_by c [] o h tell words = words
  words_by c (l ∷ ls) o h tell words =
      words_by (done p c l) ls (done-sound p c l plan h.0 o) h.1 tell.1
      (words_done c l h.0 o tell.0 (way_at c l.session l.command) (goes-now p c l plan h.0 o)
      h.0.place words)

  pub rows_asked : (c : Core) (log : List Line) → Sound p c → IsLegal p c log
      → AllByRecursion RowAsked log
  rows_asked c [] o h = tt
  rows_asked c (l ∷ ls) o h = (
    row_asked c l (way_at c l.session l.command) (goes-now p c l plan h.0 o) h.0.place,
    rows_asked (done p c l) ls (done-sound p c l plan h.0 o) h.1,
  )

-- each row word of a legal history names a command
pub words_name : (p : PlanOf) (log : List Line) → IsPlan p → IsLegal p start log → (r : ℕ)
    → r < length (row_words p log) → IsWord p (get_or (row_words p log) r 0)
words_name p log plan h =
    words_by p plan start log (start-sound p) h (all_told p log plan h)
    (λ r below. absurd (omega arith))
