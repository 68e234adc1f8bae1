-- The meaning of a mark in a slot.
use Rattle.std.specs.Prelude.{◌≡◌, refl}
use Rattle.redodb_model.specs.State as states
use Rattle.redodb_records.specs.declared.kept_mark.KeptMark.{KeptMark}
use Rattle.redodb_records.specs.declared.kept_mark.KeptMark.TheVariants.{Digest, Builds, Pending, File, Absent}

abbrev pub kept_mark_of : KeptMark → states.Mark
kept_mark_of (Digest digest) = states.Digest digest
kept_mark_of (Builds builds) = states.Builds builds
kept_mark_of Pending = states.Pending
kept_mark_of (File stamp) = states.File stamp
kept_mark_of Absent = states.Absent

-- the mark that means it
abbrev pub kept_mark_for : states.Mark → KeptMark
kept_mark_for (states.Digest digest) = Digest digest
kept_mark_for (states.Builds builds) = Builds builds
kept_mark_for states.Pending = Pending
kept_mark_for (states.File stamp) = File stamp
kept_mark_for states.Absent = Absent

pub kept_mark_for-kept_mark_of : (kept : KeptMark) → kept_mark_for (kept_mark_of kept) ≡ kept
kept_mark_for-kept_mark_of (Digest digest) = refl
kept_mark_for-kept_mark_of mark = refl
