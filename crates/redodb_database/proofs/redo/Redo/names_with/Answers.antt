use Rattle.std.proofs.Common.{◌≡◌, ◌≤◌, ◌<◌, ◌∙◌, ◌↔◌, ◌++◌, ◌∷◌, [], ℕ, Bool, true, false, cond, length, get_or, refl, sym, ap, subst, arith, IsTrue}
use Rattle.std.proofs.lemmas.List.{length-map}
use Rattle.redodb_model.specs.Names.{by_number}
use Rattle.redodb_records.specs.Rows.{Slot, rows_count, slot_at, target_at}
use Rattle.redodb_records.proofs.Inverses.{IsRowTest}
use Rattle.redodb_records.proofs.Walked.{slot_names, slot_name_at, names_ascend, found_slot, is_slotted, name_with}
use Rattle.redodb_database.specs.Tables.{Tables, tables_count}
use Rattle.redodb_database.specs.Support.Tables.{has_row}
use Rattle.redodb_names.proofs.Listed.{listed_next, listed_at_end, listed_below}
use Rattle.redodb_database.proofs.redo.Redo.names_with.Goals as goal

-- the target's slot for the name has such a row
abbrev HasRowOn : Bool → Tables → ℕ → ℕ → Type 0
HasRowOn created tables t n = IsTrue (has_row created (slot_at (target_at tables.rows t).slots n))

blank_has_none : (created : Bool) → IsRowTest (has_row created)
blank_has_none true k = refl
blank_has_none false k = refl

pub loop-slot-preserved : goal.loop-slot-preserved
loop-slot-preserved c =
    let slots = c.slots_of-slot-items.result.now in
    let given = c.slots_of-slot-items.ensures in
    let HasOne = HasRowOn c.args.created c.args.self.now c.args.t in
    let test = has_row c.args.created in
    let k = c.loop-slot.slot-index in
    let slot = c.slot-item.result in
    let names = c.loop-slot.names.items in
    let due = c.has_row.result in
    let within : k < length (slot_names slots) =
    omega (arith, c.loop-slot-test.true, length-map slots (λ (s : Slot). s.name)) in
    let named : get_or (slot_names slots) k 0 ≡ slot.name =
    slot_name_at slots k slot c.loop-slot-test.true c.slot-item.is in
    let same =
    given.same ∙ ap (λ (s : Tables). (target_at s.rows c.args.t).slots) c.self.view_is in
    let found = found_slot c.args.self.now.rows c.args.t slots same given.ascending k slot
    c.loop-slot-test.true c.slot-item.is in
    let row : due ≡ test (slot_at (target_at c.args.self.now.rows c.args.t).slots slot.name) =
    c.has_row.ensures ∙ ap test (sym found) in
    let is_due : IsTrue due ↔ HasOne (get_or (slot_names slots) k 0) =
    subst (λ n. IsTrue due ↔ HasOne n) (sym named) (λ yes. sym row ∙ yes, λ has. row ∙ has) in
    listed_next by_number HasOne (slot_names slots) k 0 within (names_ascend slots given.ascending)
    names c.push_if.new.names.items due is_due
    (c.in_ok-push_if.ensures
    ∙ ap (λ n. names ++ cond due (n ∷ []) []) (c.name.ensures ∙ sym named)) c.loop-slot.invariant

pub returns-clause-listed : goal.returns-clause-listed
returns-clause-listed c =
    let slots = c.slots_of-slot-items.result.now in
    let given = c.slots_of-slot-items.ensures in
    let whole : length (slot_names slots) ≤ c.loop-slot.slot-index =
    omega (arith, c.loop-slot-test.false, length-map slots (λ (s : Slot). s.name)) in
    let same =
    given.same ∙ ap (λ (s : Tables). (target_at s.rows c.args.t).slots) c.self.view_is in
    listed_at_end by_number (HasRowOn c.args.created c.args.self.now c.args.t) (slot_names slots)
    c.loop-slot.slot-index whole
    (name_with c.args.self.now.rows c.args.t slots same given.ascending (has_row c.args.created)
    (blank_has_none c.args.created)) c.loop-slot.names.items c.loop-slot.invariant

pub returns-clause-below : goal.returns-clause-below
returns-clause-below c =
    let slots = c.slots_of-slot-items.result.now in
    let given = c.slots_of-slot-items.ensures in
    let count = tables_count c.args.self.now in
    let sized : rows_count c.self.inside.rows ≡ count =
    c.self.invariant.tables.rows_for_each ∙ ap tables_count c.self.view_is in
    let same =
    given.same ∙ ap (λ (s : Tables). (target_at s.rows c.args.t).slots) c.self.view_is in
    listed_below by_number (HasRowOn c.args.created c.args.self.now c.args.t) count
    (λ n row. subst (λ m. n < m) sized (given.below n
    (is_slotted c.args.self.now.rows c.args.t slots same given.ascending (has_row c.args.created)
    (blank_has_none c.args.created) n row))) c.loop-slot.names.items (returns-clause-listed c)
