-- The steps of the merge.
use Rattle.std.proofs.Common.{◌≡◌, ℕ, zero, suc, ◌+◌, ◌<◌, ◌≤◌, List, [], ◌∷◌, ◌++◌, Option, Some, None, refl, sym, ap, ◌∙◌, subst, inl, inr, arith, length, get_or, drop, map, HashMap}
use Rattle.std.proofs.Math.ListN.{set, replicate, length-set}
use Rattle.std.proofs.lemmas.List.{get_or_default, map-append, get_or-replicate, length-replicate, get_or_past, get_or-set_same, get_or-set_other, length-map}
use mathlib.Core.Logic.{dite}
use native.Mathlib.Decide.{dec_lt}
use Rattle.redodb_model.specs.Command as commands
use Rattle.redodb_model.specs.Reply as replies
use Rattle.redodb_model.specs.Renaming.{IsBelow}
use Rattle.redodb_commands.specs.declared.script.Item.{Item}
use Rattle.redodb_commands.specs.declared.reply.Line.{Line}
use Rattle.redodb_commands.specs.Meaning.{reply_of, line_of}
use Rattle.redodb_commands.specs.Support.Meaning.{item_of}
use Rattle.redodb_model.specs.Placed.{PlacedLine, Fits}
use Rattle.redodb_model.specs.Placed as placed
use Rattle.redodb_history_laws.proofs.Exchange.{In}
use Rattle.redodb_history_laws.proofs.Greedy.{Can, Half, half_start, half_step, half_done, half_none}
use Rattle.redodb_history_laws.proofs.Counts.{counters}
use Rattle.redodb_history_laws.proofs.FromName.{in_map}
use Rattle.redodb_history_laws.proofs.Orders.{first_from_tickets, joint_by_tickets, none_with_misfit}
use Rattle.redodb_journal.specs.declared.entry.Place.{Place}
use Rattle.redodb_journal.specs.declared.entry.Place.TheVariants.{Row, Granted, Busy, Released}
use Rattle.redodb_journal.specs.declared.entry.Entry.{Entry}
use Rattle.redodb_journal.specs.declared.entry.Journal.{Journal}
use Rattle.redodb_journal.proofs.Closings.{TellsBelow}
use Rattle.redodb_merge.specs.declared.merging.turning.Turns.{Turns}
use Rattle.redodb_journal.specs.Plans.{PlanOf, IsPlan, scripts_of, script_of}
use Rattle.redodb_journal.specs.Journals.{place_of, command_told, naming_of, journals_of, AreJournals, entries_of}
use Rattle.redodb_merge.specs.Merges.{by_number, AreMerged}
use Rattle.redodb_merge.specs.Support.Merges.{HaveNoOrder}
use Rattle.redodb_merge.specs.Support.Merging.{tally, busy_one, busy_in, busy_below, none, Turned, AddsLine, AllFit, OneMisfits, IsWithin, AreWithin, IsLeast, MayTake, NoneMayCome, Comes}
use Rattle.redodb_merge.specs.declared.merging.waiting.Waiting.{Waiting}
use Rattle.redodb_merge.specs.Support.Waiting.{Wakes, AreWaiting}
use Rattle.redodb_merge.proofs.WaitingSteps.{waiting_step}
use Rattle.redodb_merge.proofs.Unmerged.{entries_at, entries_past, left, left_less, told_is, journal_is, session_is, script_at}
use Rattle.redodb_merge.proofs.ToldEntries.{told_below, busy_few}
use Rattle.redodb_merge.proofs.TurnsShown.{numbers_are_names, ticketed, shown, told_at, rests, left_entries, shown_after, may_here, can_back, takes_here, counts_step, no_rest, some_rest, below_same, map_in}

-- the state of the merge
pub record Merging {S : Type 0} (plan : PlanOf) (js : List Journal) (turns : Turns)
    (counts : HashMap (ℕ × ℕ) ℕ S) (next : List ℕ) (lines : List Line) : Type 0 where
  pub sized : length next ≡ length js
  pub wide : length turns.claims.items ≡ length plan.names
  pub counted : (t g : ℕ)
      → tally counts t g ≡ busy_below t g (left_entries plan js next) (length js)
  pub out : List (PlacedLine ℕ)
  pub said : map line_of lines ≡ map placed.line_of out
  pub half : Half ticketed (counters by_number []) (journals_of plan js) out (shown turns)
      (rests plan js next)

index_in : (xs : List Entry) (k : ℕ) → k < length xs → In (get_or xs k none) xs
index_in [] k h = absurd (omega arith)
index_in (x ∷ xs) zero h = inl refl
index_in (x ∷ xs) (suc k) h = inr (index_in xs k (omega arith))

in_index : (e : Entry) (xs : List Entry) → In e xs
    → (k : ℕ) × (k < length xs) × (get_or xs k none ≡ e)
in_index e [] i = absurd i
in_index e (x ∷ xs) (inl q) = (0, omega arith, q)
in_index e (x ∷ xs) (inr i) = let r = in_index e xs i in
    (suc r.0, (let b = r.1 in omega arith), r.2)

within_of : (names : ℕ) (p : Place) (c : commands.Command ℕ) (reply : replies.Reply ℕ)
    → Fits (place_of p) c reply → IsBelow names c → IsWithin names p
within_of names (Row r) c reply fits below = tt
within_of names place c reply fits below = (subst (IsBelow names) fits.0 below).0

below_at : (n : ℕ) (script : List (commands.Item ℕ)) (entries : List Entry) (k : ℕ)
    → k < length entries → TellsBelow n script entries
    → IsBelow n (command_told script (get_or entries k none))
below_at n script [] k h all = absurd (omega arith)
below_at n script (e ∷ es) zero h all = all.0
below_at n script (e ∷ es) (suc k) h all = below_at n script es k (omega arith) all.1

module _ {plan : PlanOf} {js : List Journal} (are : AreJournals plan js) where
  told_at_is : (s : ℕ) → journals_of plan js s ≡ map (told_at plan js s) (entries_of js s)
  told_at_is = told_is plan js are

  -- a journal has few busy replies of each grant
  pub few_busy : IsPlan plan → AllFit plan.scripts js → (t g s : ℕ)
      → busy_in t g (entries_of js s) ≤ 4096
  few_busy is fit t g s =
      let few = busy_few (naming_of plan) s (script_of plan s) t g (entries_of js s)
      (journal_is plan js are s) (fit s) in
      let short = is.short s in
      omega arith

  pub all_within : IsPlan plan → AllFit plan.scripts js → (s : ℕ)
      → AreWithin (length plan.names) (entries_of js s)
  all_within is fit s k h =
      let e = get_or (entries_of js s) k none in
      within_of (length plan.names) e.place (command_told (script_of plan s) e) (reply_of e.reply)
      (fit s k h)
      (below_at (length plan.names) (script_of plan s) (entries_of js s) k h
      (told_below (naming_of plan) s (script_of plan s) (length plan.names) (is.below s)
      (entries_of js s) (journal_is plan js are s)))

  they_fit : AllFit plan.scripts js → (s : ℕ) (l : PlacedLine ℕ) → In l (journals_of plan js s)
      → Fits l.place l.command l.reply
  they_fit fit s l i =
      let m = in_map (told_at plan js s) l (entries_of js s) (subst (In l) (told_at_is s) i) in
      let k = in_index m.0 (entries_of js s) m.1 in
      subst (λ (x : PlacedLine ℕ). Fits x.place x.command x.reply)
      (ap (told_at plan js s) k.2 ∙ m.2) (fit s k.0 k.1)

  -- if an entry doesn't fit, there is no joint order
  pub misfit_none : OneMisfits plan.scripts js → HaveNoOrder plan js
  misfit_none (s, k, bad) = let e = get_or (entries_of js s) k none in
      none_with_misfit numbers_are_names (journals_of plan js) s (told_at plan js s e)
      (subst (In (told_at plan js s e)) (sym (told_at_is s))
      (map_in (told_at plan js s) e (entries_of js s) (index_in (entries_of js s) k bad.0)))
      bad.1

  -- before the first step
  pub merging_first : {S : Type 0} (w : Turns) (counts : HashMap (ℕ × ℕ) ℕ S) (next : List ℕ)
      (lines : List Line)
      → w.rows ≡ 0 → w.claims.items ≡ replicate (length plan.names) 0
      → next ≡ replicate (length js) 0 → lines ≡ []
      → ((t g : ℕ) → tally counts t g ≡ busy_below t g (entries_of js) (length js))
      → Merging plan js w counts next lines
  merging_first w counts next lines rows claims nexts none_said counted =
      let zero_at = zeros (length js) next nexts in
      let w-is : shown w ≡ counters by_number [] = (λ i k. at_first k i) in
      let rests-is : rests plan js next ≡ journals_of plan js =
      (λ i s.
      (ap (λ (n : ℕ). map (told_at plan js s) (drop n (entries_of js s))) (zero_at s)
      ∙ sym (told_at_is s))
      i) in
      record {
        sized = ap length nexts ∙ length-replicate (length js) 0;
        wide = ap length claims ∙ length-replicate (length plan.names) 0;
        counted =
            λ t g. counted t g
            ∙ sym
            (below_same t g (entries_of js) (left_entries plan js next) (length js)
            (λ u h. ap (λ (n : ℕ). drop n (entries_of js u)) (zero_at u)));
        out = [];
        said = ap (map line_of) none_said;
        half =
            subst
            (λ (c : Option ℕ → ℕ). Half ticketed (counters by_number []) (journals_of plan js)
            [] c (rests plan js next))
            (sym w-is)
            (subst
            (λ (j : ℕ → List (PlacedLine ℕ)). Half ticketed (counters by_number [])
            (journals_of plan js) [] (counters by_number []) j)
            (sym rests-is) (half_start ticketed (counters by_number []) (journals_of plan js)));
      }
    where
      zeros : (n : ℕ) (xs : List ℕ) → xs ≡ replicate n 0 → (t : ℕ) → get_or xs t 0 ≡ 0
      zeros n xs e t = (λ i. get_or (e i) t 0) ∙ dite (dec_lt t n)
          (λ h. get_or-replicate n t 0 0 h)
          (λ h. get_or_past (replicate n 0) t 0
          (let l : length (replicate n zero) ≡ n = length-replicate n zero in omega arith))

      at_first : (k : Option ℕ) → shown w k ≡ counters by_number [] k
      at_first None = rows
      at_first (Some t) = ap (λ (n : ℕ). n + 2) (zeros (length plan.names) w.claims.items claims t)

  -- if nothing is left
  pub merged : {S : Type 0} {w : Turns} {counts : HashMap (ℕ × ℕ) ℕ S} {next : List ℕ}
      {lines : List Line}
      → AllFit plan.scripts js → (m : Merging plan js w counts next lines)
      → ((s : ℕ) → s < length js → length (entries_of js s) ≤ get_or next s 0)
      → AreMerged plan js (map line_of lines)
  merged {w = w} {next = next} fit m done = (
    m.out,
    first_from_tickets numbers_are_names (journals_of plan js) (they_fit fit) m.out
        (half_done ticketed (counters by_number []) (journals_of plan js) m.out (shown w)
        (rests plan js next) m.half
        (λ s. no_rest plan js next s
        (dite (dec_lt s (length js)) (λ h. done s h)
        (λ past. let a = ap length (entries_past js s (omega arith)) in omega arith)))),
    m.said,
  )

  -- if nothing may come, and something is left
  pub stuck_none : {S : Type 0} {w : Turns} {counts : HashMap (ℕ × ℕ) ℕ S} {next : List ℕ}
      {lines : List Line}
      → Merging plan js w counts next lines
      → NoneMayCome w counts js next → (s : ℕ) → get_or next s 0 < length (entries_of js s)
      → HaveNoOrder plan js
  stuck_none {w = w} {counts = counts} {next = next} m never s more ls joint =
      half_none ticketed (counters by_number []) (journals_of plan js) m.out (shown w)
      (rests plan js next) s m.half
      (λ u can. let may = can_back plan js next w counts u m.counted can in
      dite (dec_lt u (length js)) (λ h. never u h may)
      (λ past. let a = ap length (entries_past js u (omega arith)) in
      let b = may.more in
      absurd (omega arith)))
      (some_rest plan js next s more) ls
      (joint_by_tickets numbers_are_names (journals_of plan js) ls joint)

  -- one step: s is the least session whose next entry may come
  module _ {S : Type 0} {w : Turns} {counts : HashMap (ℕ × ℕ) ℕ S} {next : List ℕ}
      {lines : List Line}
      (m : Merging plan js w counts next lines) {s : ℕ} (least : IsLeast w counts js next s) where
    abbrev at : ℕ
    at = get_or next s 0

    abbrev entry : Entry
    entry = get_or (entries_of js s) at none

    abbrev after_step : List ℕ
    after_step = set next s (at + 1)

    in_next : s < length next
    in_next = let a = m.sized in let b = least.below in omega arith

    pub can_take : IsPlan plan → AllFit plan.scripts js → MayTake w counts (entries_of js s) at
    can_take is fit = record {
      more = least.may.more;
      within =
          subst (λ (n : ℕ). IsWithin n entry.place) (sym m.wide)
          (all_within is fit s at least.may.more);
      comes = least.may.comes;
      busy = λ t g.
          let a = counts_step plan js next s in_next least.may.more t g least.below in
          let b = m.counted t g in
          omega arith;
    }

    pub less_step : left (λ i. get_or after_step i 0) js < left (λ i. get_or next i 0) js
    less_step = left_less (λ i. get_or next i 0) (λ i. get_or after_step i 0) js s least.may.more
        (get_or-set_same next s (at + 1) 0 in_next) (λ i n. get_or-set_other next s i (at + 1) 0 n)

    pub merging_step : {S2 : Type 0} (w2 : Turns) (counts2 : HashMap (ℕ × ℕ) ℕ S2)
        (lines2 : List Line)
        → Turned w w2 entry.place
        → ((t g : ℕ) → tally counts2 t g + busy_one t g entry.place ≡ tally counts t g)
        → AddsLine lines lines2 s (script_of plan s) entry
        → Merging plan js w2 counts2 after_step lines2
    merging_step w2 counts2 lines2 turned taken tells =
        let line = told_at plan js s entry in
        let may = may_here plan js next w counts s m.counted least.may in
        let first : (u : ℕ) → u < s → Can ticketed (shown w) (rests plan js next) u → ⊥ =
        λ u lt can. least.least u lt (can_back plan js next w counts u m.counted can) in
        let takes = takes_here plan js next s in_next least.may.more in
        record {
          sized = length-set next s (at + 1) ∙ m.sized;
          wide = turned.same ∙ m.wide;
          counted = λ t g.
              let a = counts_step plan js next s in_next least.may.more t g least.below in
              omega (arith, m.counted t g, taken t g);
          out = m.out ++ line ∷ [];
          said =
              tells ∙ ap (λ ls. ls ++ placed.line_of line ∷ []) m.said
              ∙ sym (map-append placed.line_of m.out (line ∷ []));
          half =
              subst
              (λ c. Half ticketed (counters by_number []) (journals_of plan js)
              (m.out ++ line ∷ []) c (rests plan js after_step))
              (sym (shown_after w w2 entry.place line turned))
              (half_step ticketed (counters by_number []) (journals_of plan js) m.out (shown w)
              (rests plan js next)
              (rests plan js after_step) line m.half may first takes);
        }

-- the scripts that a plan lends
module _ {plan : PlanOf} {js : List Journal} (are : AreJournals plan js)
    (scripts : List (List Item))
    (same : scripts_of scripts ≡ plan.scripts) where
  pub fit_lent : AllFit (scripts_of scripts) js → AllFit plan.scripts js
  fit_lent = subst (λ (all : List (List (commands.Item ℕ))). AllFit all js) same

  pub misfit_lent : OneMisfits (scripts_of scripts) js → HaveNoOrder plan js
  misfit_lent bad =
      misfit_none are
      (subst (λ (all : List (List (commands.Item ℕ))). OneMisfits all js) same bad)

  script_lent : (s : ℕ) (d : List Item) → s < length js → d ≡ get_or scripts s d
      → script_of plan s ≡ map item_of d
  script_lent s d below d-is =
      let a = ap length same in
      let b = length-map scripts (λ (script : List Item). map item_of script) in
      let c = are.one_each in
      ap (λ (all : List (List (commands.Item ℕ))). get_or all s []) (sym same)
      ∙ script_at scripts s d (omega arith) ∙ ap (map item_of) (sym d-is)

  -- one step, for the values of the loop: next as a slice, the script of s that was lent, the
  -- journal of s and the place in it
  module _ {S : Type 0} {w : Turns} {counts : HashMap (ℕ × ℕ) ℕ S} {next : List ℕ}
      {lines : List Line}
      (m : Merging plan js w counts next lines)
      {ns : List ℕ} (ns-is : ns ≡ next) {s : ℕ} (least_at : IsLeast w counts js ns s)
      {script : List Item} (script-is : script ≡ get_or scripts s script)
      {d : Journal} (d-is : d ≡ get_or js s d)
      {k : ℕ} (k-is : k ≡ get_or next s k) where
    least : IsLeast w counts js next s
    least = subst (λ (others : List ℕ). IsLeast w counts js others s) ns-is least_at

    commands-are : script_of plan s ≡ map item_of script
    commands-are = script_lent s script least.below script-is

    items-are : entries_of js s ≡ d.entries.items
    items-are =
        entries_at js s d least.below ∙ sym (ap (λ (j : Journal). j.entries.items) d-is)

    place-is : get_or next s 0 ≡ k
    place-is =
        get_or_default next s 0 k (let a = m.sized in let b = least.below in omega arith) ∙ sym k-is

    next-is : set next s (k + 1) ≡ set next s (get_or next s 0 + 1)
    next-is = ap (λ (n : ℕ). set next s (n + 1)) (sym place-is)

    entry-is : get_or d.entries.items k none ≡ get_or (entries_of js s) (get_or next s 0) none
    entry-is = λ i. get_or (sym items-are i) (sym place-is i) none

    its-session : d.session ≡ s
    its-session =
        ap (λ (j : Journal). j.session) d-is
        ∙ session_is plan js are s d (let a = least.may.more in omega arith)

    pub take_lent : IsPlan plan → AllFit (scripts_of scripts) js
        → MayTake w counts d.entries.items k
    take_lent is fit =
        subst (λ items. MayTake w counts items k) items-are
        (subst (MayTake w counts (entries_of js s)) place-is
        (can_take are m least is (fit_lent fit)))

    pub less_lent :
        left (λ i. get_or (set next s (k + 1)) i 0) js < left (λ i. get_or next i 0) js
    less_lent =
        subst
        (λ (others : List ℕ). left (λ i. get_or others i 0) js < left (λ i. get_or next i 0) js)
        (sym next-is) (less_step are m least)

    pub merging_lent : {S2 : Type 0} (w2 : Turns) (counts2 : HashMap (ℕ × ℕ) ℕ S2)
        (lines2 : List Line)
        → Turned w w2 (get_or d.entries.items k none).place
        → ((t g : ℕ)
        → tally counts2 t g + busy_one t g (get_or d.entries.items k none).place
        ≡ tally counts t g)
        → AddsLine lines lines2 d.session (map item_of script) (get_or d.entries.items k none)
        → Merging plan js w2 counts2 (set next s (k + 1)) lines2
    merging_lent w2 counts2 lines2 turned taken told =
        let told_here =
        subst
        (λ (u : ℕ). AddsLine lines lines2 u (map item_of script) (get_or d.entries.items k none))
        its-session told in
        let told_of =
        subst (λ commands. AddsLine lines lines2 s commands (get_or d.entries.items k none))
        (sym commands-are) told_here in
        subst (λ (others : List ℕ). Merging plan js w2 counts2 others lines2) (sym next-is)
        (merging_step are m least w2 counts2 lines2
        (subst (λ (e : Entry). Turned w w2 e.place) entry-is turned)
        (subst
        (λ (e : Entry). (t g : ℕ)
        → tally counts2 t g + busy_one t g e.place ≡ tally counts t g)
        entry-is taken)
        (subst (λ (e : Entry). AddsLine lines lines2 s (script_of plan s) e) entry-is told_of))

    pub waiting_lent : {S2 : Type 0} (w2 : Turns) (counts2 : HashMap (ℕ × ℕ) ℕ S2)
        (place : Place) (v v2 : Waiting)
        → place ≡ (get_or d.entries.items k none).place
        → AreWaiting v w counts js ns
        → Turned w w2 (get_or d.entries.items k none).place
        → ((t g : ℕ)
        → tally counts2 t g + busy_one t g (get_or d.entries.items k none).place
        ≡ tally counts t g)
        → Wakes v v2 place
        → AreWaiting v2 w2 counts2 js (set next s (k + 1))
    waiting_lent w2 counts2 place v v2 place-is wait turned taken wakes =
        waiting_step v w counts js next
        (subst (λ (others : List ℕ). AreWaiting v w counts js others) ns-is wait)
        v2 w2 counts2 s (k + 1) (get_or d.entries.items k none).place least.may
        (subst (λ (e : Entry). Comes w e.place) (sym entry-is) least.may.comes)
        turned taken (subst (Wakes v v2) place-is wakes)
