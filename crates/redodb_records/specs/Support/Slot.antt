-- What a slot of the code means.
use Rattle.std.specs.Prelude.{◌≡◌, refl, Option, Some, None, option_map}
use Rattle.std.proofs.Common.{ap}
use Rattle.redodb_records.specs.declared.kept_mark.KeptMark.{KeptMark}
use Rattle.redodb_records.specs.declared.target.Slot.TheInside.{Inside}
use Rattle.redodb_records.specs.Support.KeptMark.{kept_mark_of, kept_mark_for, kept_mark_for-kept_mark_of}
use Rattle.redodb_records.specs.Rows.{Slot}

abbrev pub slot_of : Inside → Slot
slot_of slot = record {
  name = slot.name;
  change = option_map kept_mark_of slot.change;
  created = slot.created;
}

-- the fields that mean it
abbrev pub fields_for : Slot → Inside
fields_for slot = record {
  name = slot.name;
  change = option_map kept_mark_for slot.change;
  created = slot.created;
}

given_back : (change : Option KeptMark)
    → option_map kept_mark_for (option_map kept_mark_of change) ≡ change
given_back None = refl
given_back (Some kept) = ap Some (kept_mark_for-kept_mark_of kept)

-- a slot's meaning gives its fields back
pub fields_for-slot_of : (slot : Inside) → fields_for (slot_of slot) ≡ slot
fields_for-slot_of slot =
    ap (λ (change : Option KeptMark). record slot { change = change }) (given_back slot.change)
