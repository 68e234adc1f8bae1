-- A worker after a step.
use Rattle.std.proofs.Common.{◌≡◌, ◌≢◌, ℕ, ◌+◌, ◌-◌, ◌<◌, ◌≤◌, ◌↔◌, List, [], ◌∷◌, ◌++◌, length, map, get_or, All, Bool, true, Option, Some, None, is_some, option_map, refl, sym, ap, ◌∙◌, subst, inl, arith}
use Rattle.std.specs.Prelude.{vec_capacity}
use Rattle.std.specs.Option.{unwrap_or}
use Rattle.std.proofs.lemmas.List.{length_push, append-nil, map-append}
use Rattle.std.proofs.lemmas.List.Elements.{All-push}
use Rattle.redodb_model.specs.Command.{Command, Ood, commands_in}
use Rattle.redodb_model.specs.Reply.{Reply}
use Rattle.redodb_model.specs.Placed.{Place, line_of}
use Rattle.redodb_model.specs.Journals.{Numbered}
use Rattle.redodb_model.specs.Support.Room.{room_of}
use Rattle.redodb_commands.specs.Meaning.{command_of, reply_of}
use Rattle.redodb_commands.specs.declared.command.Command as terms
use Rattle.redodb_replica.specs.Replicas.{ReplicaOf}
use Rattle.redodb_journal.specs.Plans.{PlanOf, script_of}
use Rattle.redodb_journal.specs.Holds.{Says, Notes}
use Rattle.redodb_journal.specs.Journals.{place_of, closing_command, line_told, command_told, IsMarked}
use Rattle.redodb_journal.specs.declared.entry.Entry.{Entry}
use Rattle.redodb_journal.specs.declared.holds.Hold.{Hold}
use Rattle.redodb_journal.proofs.Says.{says_on}
use Rattle.redodb_board.specs.Rows.{rows_of}
use Rattle.redodb_board.specs.Core.{Line, Begins, row}
use Rattle.redodb_board.specs.Histories.{EndsWith}
use Rattle.redodb_board.specs.Views.{Part, ViewOf, view}
use Rattle.redodb_board.specs.Rule.{HasPart}
use Rattle.redodb_board.specs.Plays.{next, own_way}
use Rattle.redodb_board.specs.Support.Plays.{Goes, Claims, Lost, made}
use Rattle.redodb_board.specs.Shown.{session_of, journal_of, seen_by, entries_of, next_by, told, past, rows_up_to}
use Rattle.redodb_board.specs.Support.Shown.{IsNextBy}
use Rattle.redodb_board.specs.Kept.{IsBoardOf, Works, WorksAt, Lags, view_of}
use Rattle.redodb_board.specs.Outcomes.{Made, Waits}
use Rattle.redodb_board.specs.Support.Steps.{Enters}
use Rattle.redodb_board.specs.declared.board.Board.{Board}
use Rattle.redodb_board.specs.declared.worker.Worker.{Worker}
use Rattle.redodb_board.proofs.Ended.{ends-with}
use Rattle.redodb_board.proofs.Steps.{Keeps, lone, goes_keeps, lost_keeps}
use Rattle.redodb_board.proofs.NextSteps.{next_fits, needs-none}
use Rattle.redodb_board.proofs.Told.{told-push}

-- an entry changes the journal, and what is held and built
pub entered : (old new : Worker) (x : Command ℕ) (e : Entry) → Enters old x e new
    → (P : Worker → Type 0)
    → P (record old { entries = new.entries; own = new.own }) → P new
entered old new x e enters P holds = subst P (λ i. record {
  seat = sym enters.seat i;
  session = sym enters.session i;
  entries = new.entries;
  own = new.own;
  replica = sym enters.replica i;
  pending = sym enters.pending i;
  tries = sym enters.tries i;
}) holds

-- the entry of what a session does next
pub record IsEntryOf (p : PlanOf) (w : Worker) (n : Numbered ℕ) (reply : Reply ℕ)
    (place : Place ℕ) (e : Entry) : Type 0 where
  pub number_is : e.number ≡ n.number
  pub command : command_told (script_of p w.session) e ≡ n.command
  pub said : reply_of e.reply ≡ reply
  pub at : place_of e.place ≡ place
  pub marked : IsMarked (script_of p w.session) e

is_some_map : {A B : Type 0} (f : A → B) (a : Option A) → is_some (option_map f a) ≡ is_some a
is_some_map f None = refl
is_some_map f (Some a) = refl

-- with this number, and the same closing command
pub is_entry : (p : PlanOf) (w : Worker) (n : Numbered ℕ) (reply : Reply ℕ) (place : Place ℕ)
    (e : Entry) (closing : Option terms.Command) → IsNextBy p w n.number closing n.command
    → e.number ≡ n.number → option_map closing_command e.closing ≡ option_map command_of closing
    → reply_of e.reply ≡ reply → place_of e.place ≡ place → IsEntryOf p w n reply place e
is_entry p w n reply place e closing next is_number same said at = record {
  number_is = is_number;
  command =
      (λ i. unwrap_or (same i) (get_or (commands_in (script_of p w.session)) (is_number i) Ood))
      ∙ next.told;
  said = said;
  at = at;
  marked =
      let some : is_some closing ≡ is_some e.closing =
      sym (is_some_map command_of closing) ∙ ap is_some (sym same)
      ∙ is_some_map closing_command e.closing in
      subst (λ (x : Bool × ℕ). (x.0 ≡ true) ↔ (length (script_of p w.session) ≤ x.1))
      (λ i. (some i, sym is_number i)) next.marked;
}

entry_tells : (p : PlanOf) (w : Worker) (n : Numbered ℕ) (e : Entry) (reply : Reply ℕ)
    (place : Place ℕ) → IsEntryOf p w n reply place e
    → line_told w.session (script_of p w.session) e ≡ made w.session n reply place
entry_tells p w n e reply place is =
    λ i. record {
      session = w.session;
      number = is.number_is i;
      command = is.command i;
      reply = is.said i;
      place = is.at i;
    }

pub rows-push : (m : ℕ) (ls : List Line) (l : Line)
    → rows_up_to m (ls ++ l ∷ []) ≡ past l.place (rows_up_to m ls)
rows-push m [] l = refl
rows-push m (x ∷ ls) l = rows-push (past x.place m) ls l

-- after the line of the session's next command
module _ (p : PlanOf) (b : Board) (w w' : Worker) (n : Numbered ℕ) (reply : Reply ℕ)
    (place : Place ℕ) (seen : List ℕ) (k : WorksAt p b w) (is-next : next_by p w ≡ Some n)
    (goes : Goes (view_of w) w.session (journal_of p w) (made w.session n reply place) seen
    (view_of w'))
    (e : Entry) (items : w'.entries.items ≡ w.entries.items ++ e ∷ [])
    (is-entry : IsEntryOf p w n reply place e)
    (notes : Notes p.names w.own n.command (reply_of e.reply) w'.own)
    (session : w'.session ≡ w.session) (table : w'.seat.table_id ≡ w.seat.table_id)
    (slots : w'.seat.me.1 ≡ w.seat.me.1)
    (capacity : vec_capacity w.entries ≤ vec_capacity w'.entries) where
  abbrev l₀ : Line
  l₀ = made w.session n reply place

  grown : journal_of p w' ≡ journal_of p w ++ l₀ ∷ []
  grown =
      (λ i. told (session i) (script_of p (session i)) w'.entries.items)
      ∙ told-push w.session (script_of p w.session) w.entries.items w'.entries.items e items
      ∙ ap (λ x. journal_of p w ++ x ∷ []) (entry_tells p w n e reply place is-entry)

  keeps : Keeps p w.session (journal_of p w') seen (view_of w')
  keeps =
      goes_keeps p w.session (journal_of p w) (journal_of p w') l₀ seen (view_of w) (view_of w')
      k.works.view goes grown

  says' : Says p.names w'.own (map line_of (journal_of p w'))
  says' =
      let after : map line_of (journal_of p w') ≡ map line_of (journal_of p w) ++ line_of l₀ ∷ [] =
      ap (map line_of) grown ∙ map-append line_of (journal_of p w) (l₀ ∷ []) in
      subst (Says p.names w'.own) (sym after)
      (says_on p.names w.own w'.own (map line_of (journal_of p w)) (line_of l₀) k.works.own
      (subst (λ r. Notes p.names w.own n.command r w'.own) is-entry.said notes))

  marked' : All (IsMarked (script_of p w'.session)) (entries_of w')
  marked' =
      subst (λ (x : ℕ × List Entry). All (IsMarked (script_of p x.0)) x.1)
      (λ i. (sym session i, sym items i))
      (All-push (IsMarked (script_of p w.session)) (entries_of w) e k.works.marked
      is-entry.marked)

  module _ (tries : w'.tries ≡ length seen)
      (spent : w'.tries ≡ past place (rows_up_to 0 (journal_of p w)))
      (lags : Lags p w'.replica w'.pending seen) where
    spent' : w'.tries ≡ rows_up_to 0 (journal_of p w')
    spent' = spent ∙ sym (rows-push 0 (journal_of p w) l₀) ∙ ap (rows_up_to 0) (sym grown)

    works_on : WorksAt p b w'
    works_on = record {
      table = table ∙ k.table;
      works = record {
        view =
            subst
            (λ s. view_of w' ≡ view p ((s, journal_of p w') ∷ []) (seen_by w') (view_of w').also)
            (sym session) keeps.is;
        slots = slots ∙ k.works.slots;
        session = subst (λ s. s < length p.scripts) (sym session) k.works.session;
        room =
            subst (λ s. room_of (script_of p s) ≤ vec_capacity w'.entries) (sym session)
            (let a = k.works.room in omega arith);
        tries = tries ∙ ap length (sym keeps.saw);
        own = says';
        marked = marked';
        told = keeps.told;
        lags = subst (Lags p w'.replica w'.pending) (sym keeps.saw) lags;
        spent = λ _. spent';
      };
    }

    made_on : Begins seen (seen_by w) → Made p w w'
    made_on begins =
        let parts : (view_of w').parts ≡ (w.session, journal_of p w') ∷ [] =
        ap (λ (v : ViewOf). v.parts) keeps.is in
        let has : HasPart (view_of w').parts w.session (journal_of p w') =
        subst (λ (ps : List Part). HasPart ps w.session (journal_of p w')) (sym parts)
        (inl (refl, refl)) in
        record {
          line = l₀;
          grown = grown;
          session = refl;
          next = is-next;
          ends =
              subst (λ q. EndsWith q (journal_of p w') (seen_by w') l₀)
              (ap (λ (v : ViewOf). v.plan) keeps.is)
              (ends-with (view_of w') (journal_of p w') l₀ has goes.ends);
          begins = subst (λ xs. Begins xs (seen_by w)) (sym keeps.saw) begins;
          tries = spent';
        }

    pub both_on : Begins seen (seen_by w) → WorksAt p b w' × Made p w w'
    both_on begins = (works_on, made_on begins)

-- after a step on a claim word
module _ (p : PlanOf) (b : Board) (w w' : Worker) (n : Numbered ℕ) (reply : Reply ℕ)
    (place : Place ℕ) (k : WorksAt p b w) (is-next : next_by p w ≡ Some n)
    (goes : Goes (view_of w) w.session (journal_of p w) (made w.session n reply place) (seen_by w)
    (view_of w'))
    (e : Entry) (items : w'.entries.items ≡ w.entries.items ++ e ∷ [])
    (is-entry : IsEntryOf p w n reply place e)
    (notes : Notes p.names w.own n.command (reply_of e.reply) w'.own)
    (session : w'.session ≡ w.session) (table : w'.seat.table_id ≡ w.seat.table_id)
    (slots : w'.seat.me.1 ≡ w.seat.me.1)
    (capacity : vec_capacity w.entries ≤ vec_capacity w'.entries)
    (tries : w'.tries ≡ w.tries) (replica : w'.replica ≡ w.replica)
    (pending : w'.pending ≡ w.pending)
    (no-row : own_way (journal_of p w) n.command ≢ row) (still : (m : ℕ) → past place m ≡ m) where
  spent₁ : w'.tries ≡ past place (rows_up_to 0 (journal_of p w))
  spent₁ =
      tries ∙ k.works.spent (needs-none p w is-next no-row)
      ∙ sym (still (rows_up_to 0 (journal_of p w)))

  lags₁ : Lags p w'.replica w'.pending (seen_by w)
  lags₁ =
      subst (λ (x : ReplicaOf × Option ℕ). Lags p x.0 x.1 (seen_by w))
      (λ i. (sym replica i, sym pending i)) k.works.lags

  pub claimed : WorksAt p b w' × Made p w w'
  claimed =
      both_on p b w w' n reply place (seen_by w) k is-next goes e items is-entry notes
      session table slots capacity (tries ∙ k.works.tries) spent₁ lags₁ (
        [],
        sym (append-nil (seen_by w)),
      )

-- a step on the claim word of u that found this goes on as its play says
pub claim_goes : (p : PlanOf) (b : Board) (w : Worker) (v : ViewOf) (n : Numbered ℕ) (u found : ℕ)
    (line : ℕ → Numbered ℕ → ℕ → ℕ → Line)
    → IsBoardOf p b → WorksAt p b w → next_by p w ≡ Some n
    → Claims line (b.rows + 1 + u) (view_of w) found v
    → Goes (view_of w) w.session (journal_of p w) (line w.session n u found) (seen_by w) v
claim_goes p b w v n u found line is k is-next claims =
    claims w.session u (journal_of p w) n
    (lone p w.session (journal_of p w) (view_of w) k.works.view)
    (ap (λ (v : ViewOf). next v.plan w.session (journal_of p w)) k.works.view ∙ is-next)
    (ap (λ m. m + 1 + u) (is.rows ∙ ap rows_of (sym (ap (λ (v : ViewOf). v.plan) k.works.view))))

-- after a row was lost
module _ (p : PlanOf) (b : Board) (w w' : Worker) (found : ℕ) (k : WorksAt p b w)
    (lost : Lost (view_of w) found (view_of w')) (session : w'.session ≡ w.session)
    (same : w'.entries ≡ w.entries) (own-same : w'.own ≡ w.own)
    (slots : w'.seat.me.1 ≡ w.seat.me.1) where
  kept : Keeps p w.session (journal_of p w) (seen_by w ++ found ∷ []) (view_of w')
  kept =
      lost_keeps p w.session found (journal_of p w) (view_of w) (view_of w') k.works.view lost

  journal-same : journal_of p w' ≡ journal_of p w
  journal-same = λ i. told (session i) (script_of p (session i)) (same i).items

  next-same : next_by p w' ≡ next_by p w
  next-same = λ i. next p (session i) (journal-same i)

  pub works_lost : (n : Numbered ℕ) → next_by p w ≡ Some n
      → own_way (journal_of p w) n.command ≡ row → w'.seat.table_id ≡ w.seat.table_id
      → w'.tries ≡ w.tries + 1 → w'.replica ≡ w.replica → w'.pending ≡ Some found
      → w.pending ≡ None → WorksAt p b w'
  works_lost n is-next in-row table tries replica pending none = record {
    table = table ∙ k.table;
    works = record {
      view =
          kept.is
          ∙
          (λ i. view p ((sym session i, sym journal-same i) ∷ []) (seen_by w')
          (view_of w').also);
      slots = slots ∙ k.works.slots;
      session = subst (λ s. s < length p.scripts) (sym session) k.works.session;
      room =
          subst (λ (x : ℕ × ℕ). room_of (script_of p x.0) ≤ x.1)
          (λ i. (sym session i, vec_capacity (sym same i))) k.works.room;
      tries = omega (arith, k.works.tries, ap length kept.saw, length_push (seen_by w) found);
      own =
          subst (λ (x : List Hold × List Line). Says p.names x.0 (map line_of x.1))
          (λ i. (sym own-same i, sym journal-same i)) k.works.own;
      marked =
          subst (λ (x : ℕ × List Entry). All (IsMarked (script_of p x.0)) x.1)
          (λ i. (sym session i, (sym same i).items)) k.works.marked;
      told = kept.told;
      lags =
          subst (λ (x : ReplicaOf × Option ℕ). Lags p x.0 x.1 (seen_by w'))
          (λ i. (sym replica i, sym pending i)) (
          let l = subst (λ o. Lags p w.replica o (seen_by w)) none k.works.lags in record {
            words = l.words;
            behind = kept.saw ∙ ap (λ x. x ++ found ∷ []) l.behind;
            records = l.records;
            applied = l.applied;
            count = l.count;
            graph = l.graph;
          });
      spent =
          λ no.
          absurd
          (no n (next-same ∙ is-next)
          (ap (λ j. own_way j n.command) journal-same ∙ in-row));
    };
  }

  pub waits_lost : Waits p w w'
  waits_lost =
      record { same = journal-same; next = next-same; begins = (found ∷ [], kept.saw) }

-- another worker with the same entries waits as well
pub waits-same : (p : PlanOf) (w v u : Worker) → Waits p w v → u.session ≡ v.session
    → u.entries ≡ v.entries → u.seat ≡ v.seat → Waits p w u
waits-same p w v u waits session entries seat = record {
  same = journal ∙ waits.same;
  next = (λ i. next p (session i) (journal i)) ∙ waits.next;
  begins = subst (λ (x : List ℕ). Begins x (seen_by w)) (λ i. (sym seat i).me.0.seen) waits.begins;
}
  where
    journal : journal_of p u ≡ journal_of p v
    journal = λ i. told (session i) (script_of p (session i)) (entries i).items

-- each step that does something leaves fewer entries to come
pub made_less : (p : PlanOf) (old new : Worker) → Works p old → Made p old new
    → room_of (script_of p (session_of old)) - length (journal_of p new)
    < room_of (script_of p (session_of old)) - length (journal_of p old)
made_less p old new k made =
    let fits = next_fits k made.next in
    let grown = ap length made.grown ∙ length_push (journal_of p old) made.line in
    omega arith
