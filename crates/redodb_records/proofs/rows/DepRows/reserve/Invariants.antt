use Rattle.std.proofs.Common.{◌≡◌, ◌<◌, ◌⊎◌, ℕ, IsTrue, Contains, slice_index}
use Rattle.redodb_records.specs.Rows.{rows_count, rows_of, room_of}
use Rattle.redodb_records.proofs.rows.DepRows.reserve.Given as goal

abbrev pub invariant-loop-n : goal.invariant-loop-n
invariant-loop-n l = record {
  rows : rows_of l.self ≡ rows_of l.fn.self;
  made : (k : ℕ) → k < l.n-index → IsTrue (room_of l.self l.t (slice_index l.names k));
  kept : (u k : ℕ) → IsTrue (room_of l.fn.self u k) → IsTrue (room_of l.self u k);
  from : (u k : ℕ) → IsTrue (room_of l.self u k)
      → IsTrue (room_of l.fn.self u k) ⊎ ((u ≡ l.t) × Contains l.names k);
  count : rows_count l.self ≡ rows_count l.fn.self;
}
