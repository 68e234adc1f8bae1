use Rattle.std.proofs.Common.{◌≡◌, ℕ, ◌<◌, IfSome, get_or, take}
use Rattle.std.specs.List.{flat_map}
use Rattle.redodb_records.specs.Support.Target.{blank}
use Rattle.redodb_text.specs.Texts.{after_space}
use Rattle.redodb_live.specs.Support.LiveState.{state_in}
use Rattle.redodb_dump.specs.Dumps.{HasMarkForm}
use Rattle.redodb_dump.specs.Support.Slots.{slot_words}
use Rattle.redodb_dump.proofs.rows.put_rows.Given as goal

abbrev pub invariant-loop-slot : goal.invariant-loop-slot
invariant-loop-slot l = record {
  text : l.words.items
      ≡ flat_map after_space
      (flat_map (slot_words l.live.names (state_in l.live)) (take l.slot-index l.slot-items));
  forms : (k : ℕ) → k < l.slot-index
      → IfSome (get_or l.slot-items k (blank 0)).change HasMarkForm;
}
