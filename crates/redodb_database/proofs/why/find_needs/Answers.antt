use Rattle.std.proofs.Common.{◌≡◌, ◌<◌, ◌≤◌, ◌∙◌, [], IsTrue, length, get_or, refl, sym, ap, arith}
use Rattle.std.proofs.lemmas.Bool.{false≢true}
use Rattle.std.proofs.lemmas.List.{append-nil, get_or-map, length-map}
use Rattle.redodb_model.specs.OutOfDate.{IsTarget}
use Rattle.redodb_records.specs.Rows.{Slot, with_rows, rows_count}
use Rattle.redodb_records.proofs.Walked.{slot_names, name_below_all, row_of_slot, name_of_row}
use Rattle.redodb_memo.specs.NameSet.{size_of}
use Rattle.redodb_database.specs.Support.Search.{IsSearch}
use Rattle.redodb_model.proofs.Listing.{at_take_all}
use Rattle.redodb_database.proofs.Searching.{StepsPartly, partly_begun, partly_more, partly_done, finds_sized, finds_behind, due_at}
use Rattle.redodb_database.proofs.why.find_needs.Goals as goal

pub loop-slot-init : goal.loop-slot-init
loop-slot-init c =
    let queue = c.args.seen.now.queue in
    record {
      sized = refl;
      behind = ([], sym (append-nil queue));
      search = partly_begun (with_rows c.args.records.now c.args.rows.now) c.args.out.now queue
          c.args.from c.queued-t.result c.requires.from c.queued-t.ensures.name c.requires.search;
    }

pub needs_marked-is_due-requires : goal.needs_marked-is_due-requires
needs_marked-is_due-requires c = omega (
  arith,
  c.requires.out,
  name_below_all c.slots_of-slot-items.result.now (rows_count c.args.rows.now)
      c.loop-slot.slot-index c.slot-item.result c.slots_of-slot-items.ensures.ascending
      c.slots_of-slot-items.ensures.below c.loop-slot-test.true c.slot-item.is,
)

pub find_if-requires : goal.find_if-requires
find_if-requires c = omega (
  arith,
  c.name.ensures,
  c.requires.sized,
  c.loop-slot.invariant.sized,
  name_below_all c.slots_of-slot-items.result.now (rows_count c.args.rows.now)
      c.loop-slot.slot-index c.slot-item.result c.slots_of-slot-items.ensures.ascending
      c.slots_of-slot-items.ensures.below c.loop-slot-test.true c.slot-item.is,
)

pub loop-slot-preserved : goal.loop-slot-preserved
loop-slot-preserved c =
    let r = with_rows c.args.records.now c.args.rows.now in
    let out = c.args.out.now in
    let queue = c.args.seen.now.queue in
    let t = c.queued-t.result in
    let slots = c.slots_of-slot-items.result.now in
    let given = c.slots_of-slot-items.ensures in
    let k = c.loop-slot.slot-index in
    let in' = c.loop-slot-test.true in
    let slot = c.slot-item.result in
    let n = c.name.result in
    let a = c.loop-slot.seen in
    let b = c.find_if.new.seen in
    let ps = c.loop-slot.parents.items in
    let qs = c.find_if.new.parents.items in
    let from = c.args.from in
    let P = IsTrue c.needs_marked-is_due.result in
    let finds = c.in_ok-find_if.ensures.found in
    let sized = c.loop-slot.invariant.sized in
    let under : slot.name < rows_count c.args.rows.now =
    name_below_all slots (rows_count c.args.rows.now) k slot given.ascending given.below in'
    c.slot-item.is in
    let below : n < size_of a = omega (arith, c.name.ensures, c.requires.sized, sized, under) in
    let target : IsTarget r t = c.is_target.ensures.0 c.if-is_target.true in
    let behind = c.loop-slot.invariant.behind in
    let within : k < length (slot_names slots) =
    omega (arith, in', length-map slots (λ (s : Slot). s.name)) in
    let named : get_or (slot_names slots) k 0 ≡ n =
    get_or-map (λ (s : Slot). s.name) slots k slot 0 in'
    ∙ sym (c.name.ensures ∙ ap (λ (s : Slot). s.name) c.slot-item.is) in
    let row : r.rows.change t n ≡ slot.change =
    ap (r.rows.change t) c.name.ensures
    ∙ row_of_slot c.args.rows.now t slots given.same given.ascending k slot in' c.slot-item.is in
    let due = due_at P out (r.rows.change t n) slot.change n slot.name row c.name.ensures
    c.needs_marked-is_due.ensures in
    record {
      sized = finds_sized P n from a b ps qs finds ∙ sized;
      behind = finds_behind P n from queue a b ps qs finds behind;
      search = partly_more r out queue from t c.requires.from c.queued-t.ensures.name
          (slot_names slots) k n a b ps qs behind.0 P within named below behind.1 target due finds
          c.loop-slot.invariant.search;
    }

pub returns-after-loop-slot-clause-search : goal.returns-after-loop-slot-clause-search
returns-after-loop-slot-clause-search c =
    let r = with_rows c.args.records.now c.args.rows.now in
    let out = c.args.out.now in
    let queue = c.args.seen.now.queue in
    let from = c.args.from in
    let t = c.queued-t.result in
    let slots = c.slots_of-slot-items.result.now in
    let given = c.slots_of-slot-items.ensures in
    let names = slot_names slots in
    let seen = c.loop-slot.seen in
    let parents = c.loop-slot.parents.items in
    let behind = c.loop-slot.invariant.behind in
    let end : length names ≤ c.loop-slot.slot-index =
    omega (arith, c.loop-slot-test.false, length-map slots (λ (s : Slot). s.name)) in
    let whole = at_take_all (λ ns. IsSearch r (StepsPartly r out queue from t ns) from seen parents)
    names c.loop-slot.slot-index end c.loop-slot.invariant.search in
    partly_done r out queue from t c.requires.from c.queued-t.ensures.name names seen parents
    behind.0 behind.1
    (λ _ n has. name_of_row c.args.rows.now t slots given.same given.ascending n has) whole

pub returns-else-is_target-clause-search : goal.returns-else-is_target-clause-search
returns-else-is_target-clause-search c =
    let r = with_rows c.args.records.now c.args.rows.now in
    let out = c.args.out.now in
    let seen = c.args.seen.now in
    let queue = seen.queue in
    let from = c.args.from in
    let t = c.queued-t.result in
    let here = c.queued-t.ensures.name in
    let none = partly_begun r out queue from t c.requires.from here c.requires.search in
    partly_done r out queue from t c.requires.from here [] seen c.args.parents.now.items [] (sym
    (append-nil queue))
    (λ target n has. absurd (false≢true (sym c.if-is_target.false ∙ c.is_target.ensures.1 target)))
    none
