-- A step over numbers, under their names, is the step over the names.
use Rattle.std.proofs.Common.{◌+◌, ◌≡◌, ℕ, ◌<◌, Bool, true, false, cond, ◌||◌, List, Option, Some, None, refl, sym, ap, ◌∙◌, map, option_map}
use Rattle.std.proofs.Math.Path.{fun_ext}
use Rattle.std.specs.Prelude.{◌==◌}
use Rattle.std.specs.declared.cmp.Ordering.{Ordering}
use Rattle.sha1.specs.Sha1.{sha1}
use Rattle.redodb_model.specs.Names.{Naming, put, numbers}
use Rattle.redodb_model.specs.Support.Names.{IsNaming}
use Rattle.redodb_model.specs.State.{State, Locks, Records, Cell, Building, Built, Mark, idle, mark_of, mark_in}
use Rattle.redodb_model.specs.State as states
use Rattle.redodb_model.specs.Command.{Command, File, Gone, Lock, Unlock, Start, IfChange, IfCreate, Always, Stamp, Done, Failed}
use Rattle.redodb_model.specs.Reply.{Refusal}
use Rattle.redodb_model.specs.Step.{verdict_of, effect_of, after, is_among, unless_refused, locks_after, locks_granted, locks_freed, holds_target}
use Rattle.redodb_model.specs.Renaming.{named_command, named_refusal, IsBelow, AllBelow}
use Rattle.redodb_model.specs.Support.Renaming.{Renaming, IsRenaming, value_at, named_state, named_records, named_locks}
use Rattle.redodb_model.proofs.RecordsByName.{default_at, same_at, put_by_name, value_at_name, row_at_name, cell_at_name}
use Rattle.redodb_model.proofs.VerdictsByName.{among_at, holder_at_name, holds_by_name, verdict_by_name}

module _ {M : Type 0} {to : Renaming M} (law : IsRenaming to) (naming : Naming M)
    (good : IsNaming naming) (order : ℕ → ℕ → Ordering) where
  -- one row of a named target, after a put
  row_cond : {X : Type 0} (d : X) (g row : ℕ → X) (named_row : M → X) (u : M) (b : Bool)
      → named_row u ≡ value_at d row (to.number u)
      → (cond b named_row (λ v. value_at d g (to.number v))) u
      ≡ value_at d (cond b row g) (to.number u)
  row_cond d g row named_row u true e = e
  row_cond d g row named_row u false e = refl

  row_put_at : {X : Type 0} (d : X) (n : ℕ) (named_row : M → X) (row : ℕ → X) (f : ℕ → ℕ
      → X) (t u : M) (o : Option ℕ) → n < to.count → to.number t ≡ o
      → named_row u ≡ value_at d row (to.number u) →
      (cond (naming.same (to.name n) t) named_row
      (value_at {X = M → X} (λ v. d) (λ k v. value_at d (f k) (to.number v)) o)) u ≡ (value_at
      {X = M → X} (λ v. d) (λ k v. value_at d (put (numbers order) n row f k) (to.number v)) o) u
  row_put_at {X = X} d n named_row row f t u None below e r =
      ap (λ b. (cond {A = M → X} b named_row (λ v. d)) u)
      (same_at law naming good order n t None below e)
  row_put_at {X = X} d n named_row row f t u (Some k) below e r =
      ap (λ b. (cond {A = M → X} b named_row (λ v. value_at d (f k) (to.number v))) u)
      (same_at law naming good order n t (Some k) below e)
      ∙ row_cond d (f k) row named_row u (n == k) r

  -- a target's whole row, after a put
  row_put : {X : Type 0} (d : X) (n : ℕ) (named_row : M → X) (row : ℕ → X) (f : ℕ → ℕ → X)
      → n < to.count → ((u : M) → named_row u ≡ value_at d row (to.number u)) →
      (λ t. value_at {X = M → X} (λ v. d)
      (λ k v. value_at d (put (numbers order) n row f k) (to.number v)) (to.number t))
      ≡ put naming (to.name n) named_row
      (λ t. value_at {X = M → X} (λ v. d) (λ k v. value_at d (f k) (to.number v)) (to.number t))
  row_put d n named_row row f below r =
      sym (fun_ext
      (λ t. fun_ext (λ u. row_put_at d n named_row row f t u (to.number t) below refl (r u))))

  module _ (r : Records ℕ) where
    -- one cell, changed by g
    cell_put : (n : ℕ) (g : Cell → Cell) → n < to.count
        → named_records to (record r { cell = put (numbers order) n (g (r.cell n)) r.cell })
        ≡ record (named_records to r) {
          cell = put naming (to.name n)
              (g ((named_records to r).cell (to.name n))) (named_records to r).cell;
        }
    cell_put n g below =
        ap (λ (h : M → Cell). record (named_records to r) { cell = h }) (put_by_name law naming good
        order idle n (g (r.cell n)) (g ((named_records to r).cell (to.name n))) r.cell below
        (ap g (sym (cell_at_name law r n below))))

    marks_at : (t : ℕ) (ns : List ℕ) (o : Option ℕ) →
        cond (value_at false (is_among (numbers order) ns) o)
        (Some (mark_in (value_at idle r.cell o).state (value_at idle r.cell o)))
        (value_at None (r.rows.change t) o) ≡ value_at None
        (λ n. cond (is_among (numbers order) ns n) (Some (mark_of r n)) (r.rows.change t n)) o
    marks_at t ns None = refl
    marks_at t ns (Some k) = refl

    -- the change rows that an `ifchange` leaves its target
    marks_by_name : (t : ℕ) (ns : List ℕ) (u : M) → t < to.count → AllBelow to.count ns →
        cond (is_among naming (map to.name ns) u) (Some (mark_of (named_records to r) u))
        ((named_records to r).rows.change (to.name t) u) ≡ value_at None (λ n. cond
        (is_among (numbers order) ns n) (Some (mark_of r n)) (r.rows.change t n)) (to.number u)
    marks_by_name t ns u bt bs =
        ap (λ b. cond b (Some (mark_of (named_records to r) u)) ((named_records to r).rows.change
        (to.name t) u)) (among_at law naming good order ns u (to.number u) bs refl)
        ∙ ap (cond (value_at false (is_among (numbers order) ns) (to.number u))
        (Some (mark_of (named_records to r) u))) (row_at_name law None r.rows.change t u bt)
        ∙ marks_at t ns (to.number u)

    createds_at : (t : ℕ) (ns : List ℕ) (o : Option ℕ)
        → (value_at false (is_among (numbers order) ns) o || value_at false (r.rows.created t) o)
        ≡ value_at false (λ n. is_among (numbers order) ns n || r.rows.created t n) o
    createds_at t ns None = refl
    createds_at t ns (Some k) = refl

    -- the created rows that an `ifcreate` leaves its target
    createds_by_name : (t : ℕ) (ns : List ℕ) (u : M) → t < to.count → AllBelow to.count ns →
        (is_among naming (map to.name ns) u || (named_records to r).rows.created (to.name t) u)
        ≡ value_at false (λ n. is_among (numbers order) ns n || r.rows.created t n) (to.number u)
    createds_by_name t ns u bt bs =
        ap (λ b. b || (named_records to r).rows.created (to.name t) u)
        (among_at law naming good order ns u (to.number u) bs refl)
        ∙ ap (λ b. value_at false (is_among (numbers order) ns) (to.number u) || b)
        (row_at_name law false r.rows.created t u bt)
        ∙ createds_at t ns (to.number u)

    -- the records after an accepted command
    effect_by_name : (s : ℕ) (command : Command ℕ) → IsBelow to.count command
        → named_records to (effect_of (numbers order) r s command)
        ≡ effect_of naming (named_records to r) s (named_command to.name command)
    effect_by_name s (File n stamp) below = cell_put n (λ c. record c { file = Some stamp }) below.0
    effect_by_name s (Gone n) below = cell_put n (λ c. record c { file = None }) below.0
    effect_by_name s (Start t) below =
        let started : Cell → Cell = λ c. record c { state = Building s; digest = None } in
        let cells =
        put_by_name law naming good order idle t (started (r.cell t))
        (started ((named_records to r).cell (to.name t))) r.cell below.0
        (ap started (sym (cell_at_name law r t below.0))) in
        let changes =
        row_put None t (λ n. None) (λ n. None) r.rows.change below.0
        (λ u. default_at None (to.number u)) in
        let createds =
        row_put false t (λ n. false) (λ n. false) r.rows.created below.0
        (λ u. default_at false (to.number u)) in
        let always =
        put_by_name law naming good order false t false false r.rows.always below.0 refl in
        λ i. record {
          cell = cells i;
          rows = record { change = changes i; created = createds i; always = always i };
        }
    effect_by_name s (IfChange t ns) below =
        ap (λ (h : M → M → Option Mark). record (named_records to r)
        { rows = record (named_records to r).rows { change = h } })
        (row_put None t (λ u. cond (is_among naming (map to.name ns) u)
        (Some (mark_of (named_records to r) u)) ((named_records to r).rows.change (to.name t) u))
        (λ n. cond (is_among (numbers order) ns n) (Some (mark_of r n)) (r.rows.change t n))
        r.rows.change below.0 (λ u. marks_by_name t ns u below.0 below.1))
    effect_by_name s (IfCreate t ns) below =
        ap (λ (h : M → M → Bool). record (named_records to r)
        { rows = record (named_records to r).rows { created = h } }) (row_put false t
        (λ u. is_among naming (map to.name ns) u || (named_records to r).rows.created (to.name t) u)
        (λ n. is_among (numbers order) ns n || r.rows.created t n) r.rows.created below.0
        (λ u. createds_by_name t ns u below.0 below.1))
    effect_by_name s (Always t) below =
        ap (λ (h : M → Bool). record (named_records to r)
        { rows = record (named_records to r).rows { always = h } })
        (put_by_name law naming good order false t true true r.rows.always below.0 refl)
    effect_by_name s (Stamp t content) below =
        cell_put t (λ c. record c { digest = Some (sha1 content) }) below.0
    effect_by_name s (Done t stamp) below =
        cell_put t
        (λ c. record c { state = Built; builds = c.builds + 1; file = stamp; done = stamp }) below.0
    effect_by_name s (Failed t) below = cell_put t (λ c. record c { state = states.Failed }) below.0
    effect_by_name s command below = refl

  -- the locks after a lock is granted
  granted_by_name : (o : Option ℕ) (locks : Locks ℕ) (s t : ℕ) → t < to.count
      → named_locks to (locks_granted (numbers order) o locks s t)
      ≡ locks_granted naming o (named_locks to locks) s (to.name t)
  granted_by_name None locks s t below =
      let holders =
      put_by_name law naming good order None t (Some s) (Some s) locks.holder below refl in
      let grants =
      put_by_name law naming good order 0 t (locks.grants t + 1)
      ((named_locks to locks).grants (to.name t) + 1) locks.grants below
      (ap (λ g. g + 1) (sym (value_at_name law 0 locks.grants t below))) in
      λ i. record { holder = holders i; grants = grants i }
  granted_by_name (Some holder) locks s t below = refl

  -- the locks after a release
  freed_by_name : (v : Option (Refusal ℕ)) (locks : Locks ℕ) (t : ℕ) → t < to.count
      → named_locks to (unless_refused v locks (locks_freed (numbers order) locks t))
      ≡ unless_refused (option_map (named_refusal to.name) v) (named_locks to locks)
      (locks_freed naming (named_locks to locks) (to.name t))
  freed_by_name None locks t below =
      ap (λ (h : M → Option ℕ). record (named_locks to locks) { holder = h })
      (put_by_name law naming good order None t None None locks.holder below refl)
  freed_by_name (Some refusal) locks t below = refl

  locks_by_name : (locks : Locks ℕ) (s : ℕ) (v : Option (Refusal ℕ)) (command : Command ℕ)
      → IsBelow to.count command → named_locks to (locks_after (numbers order) locks s v command)
      ≡ locks_after naming (named_locks to locks) s (option_map (named_refusal to.name) v)
      (named_command to.name command)
  locks_by_name locks s v (Lock t) below =
      granted_by_name (locks.holder t) locks s t below.0
      ∙ ap (λ o. locks_granted naming o (named_locks to locks) s (to.name t))
      (sym (holder_at_name law locks t below.0))
  locks_by_name locks s v (Unlock t) below = freed_by_name v locks t below.0
  locks_by_name locks s v command below = refl

  unless_by_name : (v : Option (Refusal ℕ)) (a b : Records ℕ)
      → named_records to (unless_refused v a b) ≡ unless_refused
      (option_map (named_refusal to.name) v) (named_records to a) (named_records to b)
  unless_by_name None a b = refl
  unless_by_name (Some refusal) a b = refl

  pub after_by_name : (st : State ℕ) (s : ℕ) (command : Command ℕ) → IsBelow to.count command
      → named_state to (after (numbers order) st s command)
      ≡ after naming (named_state to st) s (named_command to.name command)
  after_by_name st s command below =
      let h = holds_target st.locks s command in
      let same_verdict : option_map (named_refusal to.name)
      (verdict_of (numbers order) st.records s h command)
      ≡ verdict_of naming (named_records to st.records) s (holds_target (named_locks to st.locks) s
      (named_command to.name command)) (named_command to.name command) =
      sym (verdict_by_name law naming good order st.records s h command below) ∙ ap
      (λ b. verdict_of naming (named_records to st.records) s b (named_command to.name command))
      (sym (holds_by_name law st.locks s command below)) in
      let records =
      unless_by_name (verdict_of (numbers order) st.records s h command) st.records
      (effect_of (numbers order) st.records s command)
      ∙ ap (unless_refused (option_map (named_refusal to.name)
      (verdict_of (numbers order) st.records s h command)) (named_records to st.records))
      (effect_by_name st.records s command below)
      ∙ ap (λ v. unless_refused v (named_records to st.records) (effect_of naming
      (named_records to st.records) s (named_command to.name command))) same_verdict in
      let locks =
      locks_by_name st.locks s (verdict_of (numbers order) st.records s h command) command below
      ∙ ap (λ v. locks_after naming (named_locks to st.locks) s v (named_command to.name command))
      same_verdict in
      λ i. record { records = records i; locks = locks i }
