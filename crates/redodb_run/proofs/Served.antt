-- What a closed board says of the journals of all sessions.
use Rattle.std.proofs.Common.{◌≡◌, ◌≢◌, ℕ, zero, suc, ◌+◌, ◌<◌, List, [], ◌∷◌, length, Option, option_map, slice_get, Some, refl, sym, ap, ◌∙◌, subst, inl, inr, arith}
use Rattle.std.specs.Prelude.{All}
use Rattle.std.specs.Option.{unwrap_or}
use Rattle.std.proofs.lemmas.List.{get_or_past}
use Rattle.std.proofs.lemmas.Option.{slice_get_cases}
use Rattle.redodb_model.specs.Journals.{next_of, IsJournal, IsWholeJournal, IsJointOrder}
use Rattle.redodb_journal.specs.Plans.{PlanOf, script_of}
use Rattle.redodb_journal.specs.Journals.{told_by, journals_of, entries_of, naming_of, IsMarked, AreJournals}
use Rattle.redodb_journal.specs.declared.entry.Entry.{Entry}
use Rattle.redodb_journal.specs.declared.entry.Journal.{Journal}
use Rattle.redodb_history_laws.proofs.Exchange.{cond_same, cond_other}
use Rattle.redodb_board.specs.declared.board.Board.{Board}
use Rattle.redodb_board.specs.declared.seat.Seat.{Seat}
use Rattle.redodb_board.specs.Core.{Line}
use Rattle.redodb_board.specs.Rule.{HasPart}
use Rattle.redodb_board.specs.Shown.{lines_in, IsForAll}
use Rattle.redodb_board.specs.Histories.{IsHistoryOf}
use Rattle.redodb_board.specs.Outcomes.{Closes}
use Rattle.redodb_merge.specs.Merges.{by_number}
use Rattle.redodb_run.specs.Support.Sessions.{parts_told, IsEnded, AllEnded, AreDone}
use Rattle.redodb_run.specs.Outcomes.{AreWhole}

-- one legal history of the plan is a joint order of the journals
pub record Serves (p : PlanOf) (js : List Journal) : Type 0 where
  pub lines : List Line
  pub history : IsHistoryOf p lines
  pub joint : IsJointOrder by_number (journals_of p js) lines

-- the parts of the journals have the lines of each session
told_has : (p : PlanOf) (n t k : ℕ) (js : List Journal) → t ≡ n + k → k < length js
    → (own : List Line) × HasPart (parts_told p n js) t own
told_has p n t k [] e less = absurd (omega (arith, less))
told_has p n t zero (j ∷ js) e less =
    (told_by (script_of p n) j, inl ((let f : n ≡ t = omega arith in f), refl))
told_has p n t (suc k) (j ∷ js) e less =
    let rest = told_has p (n + 1) t k js (omega arith) (omega arith) in
    (rest.0, inr rest.1)

told_in : (p : PlanOf) (n t k : ℕ) (js : List Journal) → t ≡ n + k
    → lines_in (parts_told p n js) t
    ≡ unwrap_or (option_map (told_by (script_of p t)) (slice_get js k)) []
told_in p n t k [] e = refl
told_in p n t zero (j ∷ js) e =
    let f : n ≡ t = omega arith in
    cond_same n t (told_by (script_of p n) j) (lines_in (parts_told p (n + 1) js) t) f
    ∙ ap (λ u. told_by (script_of p u) j) f
told_in p n t (suc k) (j ∷ js) e =
    let f : n ≢ t = λ q. omega arith in
    cond_other n t (told_by (script_of p n) j) (lines_in (parts_told p (n + 1) js) t) f
    ∙ told_in p (n + 1) t k js (omega arith)

ended_at : (p : PlanOf) (n t k : ℕ) (js : List Journal) (j : Journal) → t ≡ n + k
    → AllEnded p n js → slice_get js k ≡ Some j → IsEnded p t j
ended_at p n t k [] j e all got = absurd (cc)
ended_at p n t zero (x ∷ js) j e all got =
    let same : x ≡ j = cc in
    let f : n ≡ t = omega arith in
    subst (λ (q : ℕ × Journal). IsEnded p q.0 q.1) (λ i. (f i, same i)) all.0
ended_at p n t (suc k) (x ∷ js) j e all got =
    ended_at p (n + 1) t k js j (omega arith) all.1 got

module _ {p : PlanOf} {b : Board} {seat : Seat} {js : List Journal}
    (done : AreDone p b 0 (length p.scripts) seat js) where
  one_each : length js ≡ length p.scripts
  one_each = let e = done.count in omega arith

  -- the seat has all sessions
  pub for_all : {q : PlanOf} → q ≡ p → IsForAll q seat
  for_all key t less =
      let same = ap (λ (x : PlanOf). length x.scripts) key in
      let long = one_each in
      let has = told_has p 0 t t js (omega arith) (omega arith) in
      (has.0, subst (λ parts. HasPart parts t has.0) (sym done.parts) has.1)

  pub served : {q : PlanOf} {n : ℕ} → q ≡ p → Closes q seat n → Serves p js
  served {n = n} key closes =
      let d = subst (λ x. Closes x seat n) key closes in
      record {
        lines = d.lines;
        history = d.history;
        joint = (
          λ s. d.joint.0 s ∙ ap (λ parts. lines_in parts s) done.parts
              ∙ told_in p 0 s s js (omega arith),
          d.joint.1,
        );
      }

  -- each journal is its session's
  own : Serves p js → (s : ℕ) → IsJournal (naming_of p) s (script_of p s) (journals_of p js s)
  own serves s =
      subst (IsJournal (naming_of p) s (script_of p s)) (serves.joint.0 s)
      (serves.history.of_plan.journals s)

  -- each closing command is marked
  marked : (s : ℕ) → All (IsMarked (script_of p s)) (entries_of js s)
  marked s =
      let entries : Option Journal → List Entry =
      λ o. unwrap_or (option_map (λ (j : Journal). j.entries.items) o) [] in
      elim (slice_get_cases js s).1 [
        | inl at ↦ subst (λ o. All (IsMarked (script_of p s)) (entries o)) (sym at.2)
            (ended_at p 0 s s js at.0 (omega arith) done.ended at.2).marked
        | inr past ↦ subst (λ o. All (IsMarked (script_of p s)) (entries o)) (sym past.1)
            (λ k entry less. absurd (omega (arith, less)))
      ]

  pub are_journals : Serves p js → AreJournals p js
  are_journals serves = record { one_each = one_each; each = own serves; marked = marked }

  pub are_whole : Serves p js → AreWhole p js
  are_whole serves = record {
    one_each = one_each;
    each = λ s j got.
        let ended = ended_at p 0 s s js j (omega arith) done.ended got in
        let script = script_of p s in
        record {
          session = ended.session;
          whole = (
            subst
                (λ o. IsJournal (naming_of p) s script
                (unwrap_or (option_map (told_by script) o) [])) got (own serves s),
            ended.none,
          );
          marked = ended.marked;
          tries = ended.tries;
        };
  }

-- also if there is no such session
pub whole_at : (p : PlanOf) (js : List Journal) → AreWhole p js → (s : ℕ)
    → IsWholeJournal (naming_of p) s (script_of p s) (journals_of p js s)
whole_at p js whole s =
    let IsWhole : Option Journal → Type 0 =
    λ o. IsWholeJournal (naming_of p) s (script_of p s)
    (unwrap_or (option_map (told_by (script_of p s)) o) []) in
    elim (slice_get_cases js s).1 [
      | inl at ↦ subst IsWhole (sym at.2) (whole.each s at.0 at.2).whole
      | inr past ↦
          let long = whole.one_each in
          let script : script_of p s ≡ [] =
          get_or_past p.scripts s [] (let far = past.0 in omega arith) in
          subst IsWhole (sym past.1)
          (tt, ap (λ commands. next_of (naming_of p) commands []) script)
    ]
