use Rattle.std.proofs.Common.{rules, ◌≡◌, ◌∙◌, ℕ, ◌+◌, ◌-◌, ◌++◌, Bool, true, cond, List, length, get_or, ap, sym, subst, vec_len, arith}
use Rattle.std.proofs.lemmas.Grind.{common_steps}
use Rattle.std.proofs.Math.ListN.{replicate, length-replicate}
use Rattle.redodb_records.specs.Rows.{TargetRows, bare, rows_of, room_of}
use Rattle.redodb_records.specs.Numbers.{NumberList}
use Rattle.redodb_records.specs.Support.Kept.{IsKept}
use Rattle.redodb_records.proofs.Growing.{kept_grown, length-grown, rows_grown, room_grown}
use Rattle.redodb_records.proofs.rows.DepRows.grow.Goals as goal
use Rattle.redodb_records.proofs.rows.DepRows.grow.Goals.{After-append-targets}

-- the list after an `append` that succeeds
joined : {X : Type 0} (ok : Bool) (new old kept other : List X) → ok ≡ true
    → new ≡ cond ok (old ++ other) old → old ≡ kept → new ≡ kept ++ other
joined {X = X} ok new old kept other fits is same =
    is ∙ ap (λ (b : Bool). cond b (old ++ other) old) fits
    ∙ ap (λ (xs : List X). xs ++ other) same

-- with one for each new name, there are as many targets as names
all_counted : (c : After-append-targets)
    → length c.self.inside.targets.items + (c.args.names - c.len.result) ≡ c.args.names
all_counted c =
    let old = c.self.inside.targets in
    let old_len : vec_len old ≡ length old.items = search rules in
    omega (arith, c.requires, ap length c.self.view_is, c.len.ensures, old_len)

-- the targets, and a bare one for each new name
all_targets : (c : After-append-targets) → c.append-targets.new.self.items
    ≡ c.self.inside.targets.items ++ replicate (c.args.names - c.len.result) bare
all_targets c =
    let old = c.self.inside.targets in
    let room = c.reserve_each.new.targets in
    let more = c.args.names - c.len.result in
    let made = c.in_ok-made.made.targets in
    let same = c.in_ok-reserve_each.ensures in
    let room_len : vec_len room ≡ length room.items = search rules in
    let made_len : vec_len made ≡ length made.items = search rules in
    let made_count : length made.items ≡ more =
    ap length c.in_ok-made.ensures.targets ∙ length-replicate more bare in
    joined _ _ room.items old.items made.items
    (c.append-targets.ensures.succeeds
    (omega (arith, same.room, room_len, made_len, made_count)))
    c.append-targets.ensures.items same.targets
    ∙ ap (λ (xs : List TargetRows). old.items ++ xs) c.in_ok-made.ensures.targets

pub invariant_of-self-2 : goal.invariant_of-self-2
invariant_of-self-2 c =
    let old = c.self.inside in
    let room = c.reserve_each.new in
    let more = c.args.names - c.len.result in
    let needed = c.in_ok-made.made.needed in
    let awaited = c.in_ok-made.made.awaited in
    let same = c.in_ok-reserve_each.ensures in
    let needed_room_len : vec_len room.needed ≡ length room.needed.items = search rules in
    let awaited_room_len : vec_len room.awaited ≡ length room.awaited.items = search rules in
    let needed_len : vec_len needed ≡ length needed.items = search rules in
    let awaited_len : vec_len awaited ≡ length awaited.items = search rules in
    let count = all_counted (goal.at.invariant_of-self-2 c).After-append-targets in
    let targets = all_targets (goal.at.invariant_of-self-2 c).After-append-targets in
    let need : c.append-needed.new.self.items ≡ old.needed.items ++ needed.items =
    joined _ _ room.needed.items old.needed.items needed.items
    (c.append-needed.ensures.succeeds
    (omega (arith, same.needed_room, needed_room_len, needed_len, c.in_ok-made.ensures.needed)))
    c.append-needed.ensures.items same.needed in
    let await : c.append-awaited.new.self.items ≡ old.awaited.items ++ awaited.items =
    joined _ _ room.awaited.items old.awaited.items awaited.items
    (c.append-awaited.ensures.succeeds
    (omega (
      arith,
      same.awaited_room,
      awaited_room_len,
      awaited_len,
      c.in_ok-made.ensures.awaited,
    )))
    c.append-awaited.ensures.items same.awaited in
    let slotted = c.in_ok-made.made.slotted.items in
    let kept =
    kept_grown old.targets.items more old.needed.items needed.items old.awaited.items awaited.items
    old.slotted.items slotted (omega (arith, count))
    c.in_ok-made.ensures.needed c.in_ok-made.ensures.no_needed
    c.in_ok-made.ensures.awaited c.in_ok-made.ensures.no_awaited
    (c.in_ok-made.ensures.count ∙ sym count)
    (λ n. c.in_ok-made.ensures.same n
    ∙ ap (λ (xs : List ℕ). get_or xs n 0) c.deref.ensures.value)
    c.self.invariant in
    subst (λ (ts : List TargetRows). IsKept ts c.append-needed.new.self.items
    c.append-awaited.new.self.items slotted) (sym targets)
    (subst (λ (ns : List NumberList). IsKept (old.targets.items ++ replicate more bare) ns
    c.append-awaited.new.self.items slotted) (sym need)
    (subst (λ (ns : List NumberList). IsKept (old.targets.items ++ replicate more bare)
    (old.needed.items ++ needed.items) ns slotted) (sym await) kept))

pub returns-clause-rows : goal.returns-clause-rows
returns-clause-rows c =
    let old = c.self.inside.targets.items in
    let more = c.args.names - c.len.result in
    ap rows_of (all_targets (goal.at.returns-clause-rows c).After-append-targets)
    ∙ rows_grown old more ∙ ap rows_of c.self.view_is

pub returns-clause-room : goal.returns-clause-room
returns-clause-room c = λ t n.
    let old = c.self.inside.targets.items in
    let more = c.args.names - c.len.result in
    let room : List TargetRows → Bool = λ targets. room_of targets t n in
    ap room (all_targets (goal.at.returns-clause-room c).After-append-targets)
    ∙ room_grown old more t n ∙ ap room c.self.view_is

pub returns-clause-count : goal.returns-clause-count
returns-clause-count c =
    let known = (goal.at.returns-clause-count c).After-append-targets in
    let old = c.self.inside.targets.items in
    let more = c.args.names - c.len.result in
    ap length (all_targets known) ∙ length-grown old more ∙ all_counted known

pub invariant_of-self : goal.invariant_of-self
invariant_of-self c = grind (arith, common_steps)
