use Rattle.std.proofs.Common.{◌≡◌, ◌∙◌, ◌<◌, ◌≤◌, ◌+◌, ◌++◌, [], ◌∷◌, get_or, length, length-append, sym, ap, subst, arith}
use Rattle.redodb_model.specs.Renaming.{AllBelow}
use Rattle.redodb_records.specs.Rows.{with_rows}
use Rattle.redodb_database.specs.Meaning.{reason_of}
use Rattle.redodb_database.specs.Support.Search.{HaveNoReason, IsFirstReason}
use Rattle.redodb_database.proofs.Searching.{one_name, one_name_sized, search_at_first, none_before, none_still, first_kept}
use Rattle.redodb_database.proofs.Shortest.{way_explains, none_found}
use Rattle.redodb_database.proofs.why.search.Goals as goal

pub names-init : goal.names-init
names-init c =
    let r = with_rows c.args.records.now c.args.rows.now in
    let t = c.args.t in
    let m = c.args.seen.now in
    let b = c.enter_new.new.self in
    let ps = c.push.new.self.items in
    let f = c.enter_new.ensures in
    let q = one_name t m b c.requires.empty f in
    let one : length b.queue ≡ 1 = ap length q in
    let pushed : ps ≡ 0 ∷ [] =
    c.in_ok-push.ensures.items ∙ ap (λ xs. xs ++ 0 ∷ []) c.new-parents.ensures.items in
    record {
      sized = one_name_sized t m b f ∙ c.requires.seen;
      first = sym (ap (λ xs. get_or xs 0 0) q);
      done = omega arith;
      tested = omega arith;
      some = omega (arith, one);
      search =
          search_at_first r c.args.out.now t m b ps c.requires.unmarked c.requires.empty f pushed;
      none = λ i past before reason. absurd (omega (arith, before));
    }

pub returns-in-Some-clause-why : goal.returns-in-Some-clause-why
returns-in-Some-clause-why c =
    let r = with_rows c.args.records.now c.args.rows.now in
    let inv = c.names.invariant in
    let queue = c.names.seen.queue in
    let place = c.in-Some.found.place in
    let reason = reason_of c.in-Some.found.reason in
    let first : IsFirstReason r queue c.names.tested place reason = c.in-Some.ensures.first in
    let none = none_before r queue c.names.tested place inv.none first.none in
    way_explains r c.args.out.now c.names.seen c.names.parents.items c.names.next place
    c.requires.right inv.search (omega (arith, inv.done, first.past))
    (λ i before. none i (omega arith) before) c.args.t inv.first first.within reason first.own
    c.in_ok-names.names.items c.in_ok-names.ensures.way

pub returns-in-Some-clause-below : goal.returns-in-Some-clause-below
returns-in-Some-clause-below c = record {
  names = subst (λ n. AllBelow n c.in_ok-names.names.items) c.names.invariant.sized
      c.in_ok-names.ensures.below;
  reason = c.in-Some.ensures.below;
}

pub names-preserved : goal.names-preserved
names-preserved c =
    let r = with_rows c.args.records.now c.args.rows.now in
    let inv = c.names.invariant in
    let at = c.names.next in
    let queue = c.names.seen.queue in
    let longer = c.find_needs.new.seen.queue in
    let behind = c.in_ok-find_needs.ensures.behind in
    let in' : at < length queue = omega (arith, c.names-test.true, c.queue_len.ensures.len) in
    let none : HaveNoReason r queue 0 (length queue) =
    none_before r queue c.names.tested (length queue) inv.none c.in_default.ensures.first in
    let long : length longer ≡ length queue + length behind.0 =
    ap length behind.1 ∙ length-append queue behind.0 in
    record {
      sized = c.in_ok-find_needs.ensures.sized ∙ inv.sized;
      first = inv.first ∙ sym (first_kept queue longer behind.0 inv.some behind.1);
      done = omega (arith, in');
      tested = omega (arith, long);
      some = omega (arith, inv.some, long);
      search = c.in_ok-find_needs.ensures.search;
      none = λ i past before. none_still r queue longer behind.0 behind.1 none i past
          (omega (arith, before, c.queue_len-tested.ensures.len));
    }

pub returns-clause-why : goal.returns-clause-why
returns-clause-why c =
    let r = with_rows c.args.records.now c.args.rows.now in
    let inv = c.names.invariant in
    let end : length c.names.seen.queue ≤ c.names.next =
    omega (arith, c.names-test.false, c.queue_len.ensures.len) in
    none_found r c.args.out.now c.names.seen c.names.parents.items c.names.next c.names.tested
    c.requires.right inv.search inv.done (λ i before. inv.none i (omega arith) before) c.args.t
    inv.first inv.some end
