-- What a worker does next, by its invariant.
use Rattle.std.proofs.Common.{◌≡◌, ◌≢◌, ℕ, ◌<◌, ◌≤◌, List, [], ◌∷◌, length, map, Bool, true, false, cond, Option, Some, None, option_map, refl, sym, ap, ◌∙◌, subst, arith}
use Rattle.std.specs.Prelude.{vec_capacity, vec_len, IfSome}
use Rattle.std.specs.List.{AllByRecursion}
use Rattle.std.specs.Option.{unwrap_or}
use Rattle.std.proofs.lemmas.List.{length-map}
use Rattle.redodb_model.specs.Command.{Command, Item, Lock, Unlock, Failed, names_in}
use Rattle.redodb_model.specs.Renaming.{IsBelow, AllBelow}
use Rattle.redodb_model.specs.Placed.{line_of}
use Rattle.redodb_model.specs.Journals.{Numbered}
use Rattle.redodb_model.specs.Support.Room.{room_of}
use Rattle.redodb_commands.specs.Meaning.{command_of}
use Rattle.redodb_commands.specs.declared.command.Command as terms
use Rattle.redodb_model.specs.Closing.{builds}
use Rattle.redodb_model.proofs.Letting.{closing_held}
use Rattle.redodb_model.proofs.Nexts.{next_past_script}
use Rattle.redodb_journal.specs.Plans.{PlanOf, IsPlan, script_of}
use Rattle.redodb_journal.specs.Journals.{line_told, command_by}
use Rattle.redodb_board.specs.Rows.{rows_of, naming_of}
use Rattle.redodb_board.specs.Core as core
use Rattle.redodb_board.specs.Core.{row}
use Rattle.redodb_board.specs.Views.{ViewOf}
use Rattle.redodb_board.specs.Plays.{next, own, own_build, own_way}
use Rattle.redodb_board.specs.Support.Plays.{Lone}
use Rattle.redodb_board.specs.Shown.{NeedsNoRow, journal_of, seen_by, next_by, told}
use Rattle.redodb_board.specs.Support.Shown.{IsNextBy}
use Rattle.redodb_board.specs.Kept.{IsBoardOf, Works, view_of}
use Rattle.redodb_board.specs.Support.Own.{holds_its_target, way_by}
use Rattle.redodb_board.specs.Support.Steps.{LetsGo, way_of}
use Rattle.redodb_board.specs.declared.board.Board.{Board}
use Rattle.redodb_board.specs.declared.worker.Worker.{Worker}
use Rattle.redodb_board.specs.declared.worker.ways.Way.{Way}
use Rattle.redodb_board.specs.declared.worker.ways.Way.TheVariants as ways
use Rattle.redodb_board.proofs.Below.{AskBelow, next-below}
use Rattle.redodb_board.proofs.Lone.{own_lines, numbers_small, lines_below, rows_left}
use Rattle.redodb_board.proofs.OwnLines.{IsOwn, closing_fails}
use Rattle.redodb_board.proofs.Rooms.{next_room}
use Rattle.redodb_board.proofs.Steps.{lone}
use Rattle.redodb_board.proofs.Told.{way-claim, way-free}
use Rattle.redodb_board.proofs.Totals.{few_rows}
use Rattle.redodb_board.proofs.Own.{has_is, way_is}

pub few_words : {p : PlanOf} {b : Board} → IsBoardOf p b → b.rows ≤ 524288
few_words {p} {b} is = let a = is.rows in let c = few_rows p is.plan in omega arith

pub plan_is : {p : PlanOf} {w : Worker} → Works p w → IsPlan p
plan_is {p} {w} k = subst IsPlan (ap (λ (v : ViewOf). v.plan) k.view) k.told.plan

plan_same : {p : PlanOf} {w : Worker} → Works p w → (view_of w).plan ≡ p
plan_same {p} {w} k = ap (λ (v : ViewOf). v.plan) k.view

lone_of : {p : PlanOf} {w : Worker} → Works p w → Lone (view_of w) w.session (journal_of p w)
lone_of {p} {w} k = lone p w.session (journal_of p w) (view_of w) k.view

-- its lines are of the plan's names
pub lines_names : {p : PlanOf} {w : Worker} → Works p w → AskBelow (length p.names) (journal_of p w)
lines_names {p} {w} k =
    subst (λ (q : PlanOf). AskBelow (length q.names) (journal_of p w)) (plan_same k)
    (lines_below (view_of w) w.session (journal_of p w) k.told (lone_of k))

-- and their numbers are small
pub lines_numbers : {p : PlanOf} {w : Worker} → Works p w
    → AllByRecursion (λ line. line.number < 4294967295) (journal_of p w)
lines_numbers {p} {w} k =
    numbers_small (view_of w) w.session (journal_of p w) k.told (lone_of k)

-- what a session does next is of the plan's names
pub next_below : {p : PlanOf} {w : Worker} {n : Numbered ℕ} → Works p w → next_by p w ≡ Some n
    → IsBelow (length p.names) n.command
next_below {p} {w} {n} k is =
    next-below p w.session (journal_of p w) n (plan_is k) (lines_names k) is

pub target_low : {p : PlanOf} {w : Worker} {n : Numbered ℕ} (t : ℕ) → Works p w
    → next_by p w ≡ Some n → names_in n.command ≡ t ∷ [] → t < length p.names
target_low {p} {w} {n} t k is names =
    (subst (AllBelow (length p.names)) names (next_below k is)).0

-- by its own lines: what it holds, and on which word it steps
pub own_below : {p : PlanOf} {w : Worker} {n : Numbered ℕ} → Works p w → next_by p w ≡ Some n
    → IsBelow (length w.own) n.command
own_below {p} {w} {n} k is =
    subst (λ m. IsBelow m n.command) (sym k.own.one_each) (next_below k is)

pub own_has : {p : PlanOf} {w : Worker} {n : Numbered ℕ} → Works p w → next_by p w ≡ Some n
    → holds_its_target w.own n.command ≡ own (journal_of p w) n.command
own_has {p} {w} {n} k is =
    has_is p.names w.own (journal_of p w) n.command k.own (next_below k is)

pub own_steps : {p : PlanOf} {w : Worker} {n : Numbered ℕ} → Works p w → next_by p w ≡ Some n
    → way_by w.own n.command ≡ own_way (journal_of p w) n.command
own_steps {p} {w} {n} k is =
    way_is p.names w.own (journal_of p w) n.command k.own (next_below k is)

-- that word, as the code found it
pub steps_on : {p : PlanOf} {w : Worker} {number : ℕ} {closing : Option terms.Command}
    {x command : Command ℕ} {found is : Way} → Works p w → IsNextBy p w number closing x
    → command ≡ x → way_of found ≡ way_by w.own command → found ≡ is
    → own_way (journal_of p w) x ≡ way_of is
steps_on {w = w} k next same on way =
    sym (own_steps k next.next) ∙ ap (way_by w.own) (sym same) ∙ sym on ∙ ap way_of way

-- the journal has a place for what it does next
pub next_fits : {p : PlanOf} {w : Worker} {n : Numbered ℕ} → Works p w → next_by p w ≡ Some n
    → length (journal_of p w) < room_of (script_of p w.session)
next_fits {p} {w} {n} k is =
    next_room p w.session (journal_of p w) n
    (subst (λ q. IsOwn q w.session (journal_of p w)) (plan_same k)
    (own_lines (view_of w) w.session (journal_of p w) k.told (lone_of k))) is

pub room_next : {p : PlanOf} {w : Worker} {n : Numbered ℕ} → Works p w → next_by p w ≡ Some n
    → vec_len w.entries < vec_capacity w.entries
room_next {p} {w} {n} k is =
    let a = next_fits k is in
    omega (arith, length-map w.entries.items (line_told w.session (script_of p w.session)), k.room)

-- what it does on a row has a row
pub row_next : {p : PlanOf} {w : Worker} {n : Numbered ℕ} → Works p w → next_by p w ≡ Some n
    → own_way (journal_of p w) n.command ≡ row → w.tries < rows_of p
row_next {p} {w} {n} k is in-row =
    let same = plan_same k in
    let left : length (seen_by w) < rows_of (view_of w).plan =
    rows_left (view_of w) w.session (journal_of p w) k.told (lone_of k) n
    (subst (λ (q : PlanOf). w.session < length q.scripts) (sym same) k.session)
    (ap (λ q. next q w.session (journal_of p w)) same ∙ is) in-row in
    omega (arith, k.tries, ap rows_of same)

-- if x closes a target, so does the closing command that x is
pub lets_go_by : (script : List (Item ℕ)) (closing : Option terms.Command) (number : ℕ)
    (x : Command ℕ) → command_by script (option_map command_of closing) number ≡ x → LetsGo x
    → IfSome closing (λ command. LetsGo (command_of command))
lets_go_by script None number x told goes = tt
lets_go_by script (Some command) number x told goes = subst LetsGo (sym told) goes

-- on a row it fails a build, if it closes
pub closing_lets_go : {p : PlanOf} {w : Worker} {number : ℕ} (closing : Option terms.Command)
    {x : Command ℕ} → IsNextBy p w number closing x → own_way (journal_of p w) x ≡ row
    → IfSome closing (λ command. LetsGo (command_of command))
closing_lets_go None next in-row = tt
closing_lets_go {p = p} {w = w} {number = number} (Some command) {x = x} next in-row =
    let n : Numbered ℕ = record { number = number; command = x } in
    let closes =
    next_past_script (naming_of p) (script_of p w.session) (journal_of p w) n next.next
    (next.marked.0 refl) in
    let (t, fails) = closing_fails p w.session (journal_of p w) x closes.closes in-row in
    subst LetsGo (sym (next.told ∙ fails)) tt

not_lock : (b : Bool) (t u : ℕ) → ◌≡◌ {A = Command ℕ} (Lock t) (cond b (Failed u) (Unlock u)) → ⊥
not_lock true t u e = absurd (cc)
not_lock false t u e = absurd (cc)

-- a lock is of a line of the script
pub lock_next : {p : PlanOf} {w : Worker} {number : ℕ} (closing : Option terms.Command) {t : ℕ}
    → IsNextBy p w number closing (Lock t) → IsNextBy p w number None (Lock t)
lock_next None is = is
lock_next {p = p} {w = w} {number = number} (Some command) {t = t} is =
    let n : Numbered ℕ = record { number = number; command = Lock t } in
    let closes =
    next_past_script (naming_of p) (script_of p w.session) (journal_of p w) n is.next
    (is.marked.0 refl) in
    let (u, held, lets) =
    closing_held (naming_of p) (map line_of (journal_of p w)) (Lock t) closes.closes in
    absurd (not_lock (builds (naming_of p) (map line_of (journal_of p w)) u) t u lets)

-- one that needs no row is next
pub needs-none : (p : PlanOf) (w : Worker) {n : Numbered ℕ} → next_by p w ≡ Some n
    → own_way (journal_of p w) n.command ≢ row → NeedsNoRow p w
needs-none p w {n} is off m other e =
    let same : m ≡ n = ap (λ o. unwrap_or o m) (sym other ∙ is) in
    off (ap (λ (x : Numbered ℕ). own_way (journal_of p w) x.command) (sym same) ∙ e)

-- the code found a lock, or an unlock that is accepted
pub locks_on : {p : PlanOf} {w : Worker} {number : ℕ} (closing : Option terms.Command)
    {x command : Command ℕ} {found : Way} {t : ℕ} → Works p w → IsNextBy p w number closing x
    → command ≡ x → way_of found ≡ way_by w.own command → found ≡ ways.Claim t
    → IsNextBy p w number None (Lock t)
locks_on {p = p} {w = w} {number = number} closing {x = x} {t = t} k next same on is =
    let j = journal_of p w in
    lock_next closing
    (subst (IsNextBy p w number closing)
    (way-claim x (own j x) (own_build j x) t (steps_on k next same on is)) next)

pub frees_on : {p : PlanOf} {w : Worker} {number : ℕ} (closing : Option terms.Command)
    {x command : Command ℕ} {found : Way} {t : ℕ} → Works p w → IsNextBy p w number closing x
    → command ≡ x → way_of found ≡ way_by w.own command → found ≡ ways.Free t
    → IsNextBy p w number closing (Unlock t)
    × (own_way (journal_of p w) (Unlock t) ≡ core.free t)
frees_on {p = p} {w = w} {number = number} closing {x = x} {t = t} k next same on is =
    let j = journal_of p w in
    let goes = steps_on k next same on is in
    let unlock = way-free x (own j x) (own_build j x) t goes in (
      subst (IsNextBy p w number closing) unlock next,
      subst (λ y. own_way j y ≡ core.free t) unlock goes,
    )
