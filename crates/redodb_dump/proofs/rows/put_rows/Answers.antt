use Rattle.std.proofs.Common.{◌≡◌, ◌∙◌, ◌++◌, sym, ap, subst, arith, List, Option, IfSome, get_or, below_more, Bool, OnOk}
use Rattle.std.specs.List.{flat_map}
use Rattle.std.proofs.lemmas.List.{get_or_default, take_all}
use Rattle.std.proofs.lemmas.Result.{on_ok_weaker}
use Rattle.redodb_model.specs.Names.{Text, text_at}
use Rattle.redodb_model.specs.State.{Mark}
use Rattle.redodb_records.specs.Rows.{Slot}
use Rattle.redodb_records.specs.Support.Target.{blank}
use Rattle.redodb_text.specs.Texts.{after_space}
use Rattle.redodb_live.specs.Support.LiveState.{state_in}
use Rattle.redodb_dump.specs.Dumps.{HasMarkForm, numbers_of, row_words_at, rows_text}
use Rattle.redodb_dump.specs.Support.Slots.{slot_words}
use Rattle.redodb_dump.proofs.SlotWords.{is_on_name, slot_form, words_more, words_of_rows}
use Rattle.redodb_dump.proofs.rows.put_rows.Goals as goal

pub put_slot-requires : goal.put_slot-requires
put_slot-requires c =
    let read = c.slots-slot-items.ensures in
    is_on_name _ c.slots-slot-items.result.now c.loop-slot.slot-index c.slot-item.result
    read.ascending c.loop-slot-test.true c.slot-item.is read.no_change read.no_created

pub loop-slot-preserved : goal.loop-slot-preserved
loop-slot-preserved c =
    let slots = c.slots-slot-items.result.now in
    let words = slot_words c.args.live.now.names (state_in c.args.live.now) in
    let slot = c.slot-item.result in
    let k = c.loop-slot.slot-index in
    let here : get_or slots k (blank 0) ≡ slot =
    get_or_default slots k (blank 0) slot c.loop-slot-test.true ∙ sym c.slot-item.is in
    record {
      text =
          c.in_ok-put_slot.ensures.text
          ∙ ap (λ (text : Text). text ++ flat_map after_space (words slot))
          c.loop-slot.invariant.text
          ∙ sym (words_more words slots k slot c.loop-slot-test.true c.slot-item.is);
      forms =
          below_more _ _ c.loop-slot.invariant.forms
          (subst (λ (s : Slot). IfSome s.change HasMarkForm) (sym here) c.put_slot.ensures.form);
    }

pub returns-clause-text : goal.returns-clause-text
returns-clause-text c =
    let slots = c.slots-slot-items.result.now in
    let read = c.slots-slot-items.ensures in
    let names = c.args.live.now.names in
    let st = state_in c.args.live.now in
    let t = text_at names c.args.t in
    let rows = flat_map (row_words_at names st t) (numbers_of names) in
    let words : c.loop-slot.words.items ≡ flat_map after_space rows =
    c.loop-slot.invariant.text
    ∙ ap (λ (some : List Slot). flat_map after_space (flat_map (slot_words names st) some))
    (take_all c.loop-slot.slot-index slots (omega arith))
    ∙ ap (flat_map after_space) (words_of_rows names st t slots read.ascending read.change
    read.created read.no_change read.no_created) in
    subst (λ (b : Bool). OnOk c.put_line.result
    (c.put_line.new.out.items ≡ c.args.out.now.items ++ rows_text c.args.t b rows))
    c.always.ensures (c.put_line.ensures rows (c.deref.ensures.value ∙ words))

pub returns-clause-forms : goal.returns-clause-forms
returns-clause-forms c =
    let slots = c.slots-slot-items.result.now in
    on_ok_weaker c.put_line.result
    (λ _ n below. subst (λ (o : Option Mark). IfSome o HasMarkForm)
    (c.slots-slot-items.ensures.change n below)
    (slot_form slots (λ k in'. c.loop-slot.invariant.forms k (omega (arith, in'))) n))
    (returns-clause-text c)
