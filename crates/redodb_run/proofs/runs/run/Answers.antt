use Rattle.std.proofs.Common.{◌≡◌, ℕ, List, length, map, ap, sym, subst, ◌∙◌}
use Rattle.std.proofs.lemmas.List.{length-map}
use Rattle.redodb_commands.specs.Meaning.{line_of, line_at}
use Rattle.redodb_commands.specs.Support.Meaning.{item_of}
use Rattle.redodb_commands.specs.declared.script.Item.{Item}
use Rattle.redodb_model.specs.Command as model
use Rattle.redodb_journal.specs.Plans.{PlanOf, scripts_of, scripts_named}
use Rattle.redodb_journal.specs.Journals.{AreJournals}
use Rattle.redodb_journal.specs.declared.entry.Journal.{Journal}
use Rattle.redodb_board.specs.declared.board.Board.{Board}
use Rattle.redodb_board.specs.declared.seat.Seat.{Seat}
use Rattle.redodb_board.specs.Outcomes.{Closes}
use Rattle.redodb_merge.specs.Merges.{AreMerged}
use Rattle.redodb_run.specs.Outcomes.{AreWhole}
use Rattle.redodb_run.specs.Support.Sessions.{AreDone}
use Rattle.redodb_run.proofs.LetGo.{run_lets_go}
use Rattle.redodb_run.proofs.Served.{Serves, for_all, served, are_journals, are_whole}
use Rattle.redodb_run.proofs.Outcomes.{is_run, history_below, seen_before}
use Rattle.redodb_run.proofs.runs.run.Goals as goal

-- all sessions of the plan are done
all_done : {p : PlanOf} {b : Board} {seat : Seat} {js : List Journal} (scripts : List (List Item))
    → scripts_of scripts ≡ p.scripts → AreDone p b 0 (length scripts) seat js
    → AreDone p b 0 (length p.scripts) seat js
all_done {p} {b} {seat} {js} scripts same done =
    let told : List Item → List (model.Item ℕ) = λ script. map item_of script in
    subst (λ e. AreDone p b 0 e seat js) (sym (length-map scripts told) ∙ ap length same) done

-- what the closed board says of them
record Closed (p : PlanOf) (js : List Journal) : Type 0 where
  pub serves : Serves p js
  pub journals : AreJournals p js
  pub whole : AreWhole p js

closed : {p q : PlanOf} {b : Board} {seat : Seat} {js : List Journal} {n : ℕ}
    (scripts : List (List Item)) → scripts_of scripts ≡ p.scripts
    → AreDone p b 0 (length scripts) seat js → q ≡ p → Closes q seat n → Closed p js
closed scripts same done key closes =
    let all = all_done scripts same done in
    let serves = served all key closes in
    record { serves = serves; journals = are_journals all serves; whole = are_whole all serves }

pub close-rows-requires-clause-all : goal.close-rows-requires-clause-all
close-rows-requires-clause-all g c =
    for_all (all_done c.scripts.result.now c.scripts.ensures.scripts c.in_ok-seat.ensures)
    c.in_ok-board.ensures.board.key

pub merge-requires : goal.merge-requires
merge-requires g c =
    let p = c.args.plan.now in
    let all =
    closed c.scripts.result.now c.scripts.ensures.scripts c.in_ok-seat.ensures
    c.in_ok-board.ensures.board.key c.close-rows.ensures in
    record { journals = subst (AreJournals p) (sym c.deref.ensures.value) all.journals }

pub unreachable-requires : goal.unreachable-requires
unreachable-requires g c =
    let p = c.args.plan.now in
    let all =
    closed c.scripts.result.now c.scripts.ensures.scripts c.in_ok-seat.ensures
    c.in_ok-board.ensures.board.key c.close-rows.ensures in
    let none = rw c.in-None.is at c.in_ok-history.ensures.merged in
    let here = subst (Serves p) (sym c.deref.ensures.value) all.serves in
    none here.lines here.joint

pub returns-clause-journals : goal.returns-clause-journals
returns-clause-journals g c =
    (closed c.scripts.result.now c.scripts.ensures.scripts c.in_ok-seat.ensures
    c.in_ok-board.ensures.board.key c.close-rows.ensures).whole

pub returns-clause-seen : goal.returns-clause-seen
returns-clause-seen g c = seen_before c.args.plan.now c.in_ok-seat.journals.items

-- the merged history over the names
is_run_here : goal.returns-clause-run
is_run_here g c =
    let p = c.args.plan.now in
    let js = c.in_ok-seat.journals.items in
    let history = c.in-Some.history.items in
    let all =
    closed c.scripts.result.now c.scripts.ensures.scripts c.in_ok-seat.ensures
    c.in_ok-board.ensures.board.key c.close-rows.ensures in
    let merged : AreMerged p js (map line_of history) =
    subst (λ js. AreMerged p js (map line_of history)) c.deref.ensures.value
    (rw c.in-Some.is at c.in_ok-history.ensures.merged) in
    is_run p js c.scripts.ensures.plan all.whole all.serves history merged

pub returns-clause-run : goal.returns-clause-run
returns-clause-run g c = is_run_here g c

pub returns-clause-let_go : goal.returns-clause-let_go
returns-clause-let_go g c =
    let p = c.args.plan.now in
    run_lets_go (scripts_named p) (map (line_at p.names) c.in-Some.history.items) (is_run_here g c)

pub returns-clause-below : goal.returns-clause-below
returns-clause-below g c =
    let p = c.args.plan.now in
    let js = c.in_ok-seat.journals.items in
    let history = c.in-Some.history.items in
    let all =
    closed c.scripts.result.now c.scripts.ensures.scripts c.in_ok-seat.ensures
    c.in_ok-board.ensures.board.key c.close-rows.ensures in
    let merged : AreMerged p js (map line_of history) =
    subst (λ js. AreMerged p js (map line_of history)) c.deref.ensures.value
    (rw c.in-Some.is at c.in_ok-history.ensures.merged) in
    history_below p js c.scripts.ensures.plan all.whole all.serves history merged
