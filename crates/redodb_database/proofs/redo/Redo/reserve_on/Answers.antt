use Rattle.std.proofs.Common.{ℕ, sym, subst}
use Rattle.std.proofs.lemmas.Result.{on_ok_weaker}
use Rattle.redodb_model.specs.State.{Rows}
use Rattle.redodb_memo.specs.Memo.{IsRight}
use Rattle.redodb_records.specs.Cells.{cell_at}
use Rattle.redodb_records.specs.Rows.{room_of}
use Rattle.redodb_database.specs.Support.Kept.{tables_of}
use Rattle.redodb_database.proofs.Kept.{AreTables-set_rows}
use Rattle.redodb_database.proofs.Rooms.{all_of_them}
use Rattle.redodb_database.proofs.redo.Redo.reserve_on.Goals as goal

pub invariant_of-self : goal.invariant_of-self
invariant_of-self c =
    let inside = c.self.inside in
    let made = c.reserve in
    let IsRightAt : Rows ℕ → Type 0 =
    λ rows. IsRight inside.memo (record { cell = cell_at inside.records; rows = rows }) in
    record {
      tables = AreTables-set_rows (tables_of inside) made.new.self c.self.invariant.tables
          made.ensures.count;
      memo_for_each = c.self.invariant.memo_for_each;
      memo_right = subst IsRightAt (sym made.ensures.rows) c.self.invariant.memo_right;
      held_for_each = c.self.invariant.held_for_each;
      held_right = c.self.invariant.held_right;
    }

pub returns-clause-made : goal.returns-clause-made
returns-clause-made c =
    on_ok_weaker c.reserve.result
    (all_of_them (room_of c.reserve.new.self c.args.t) c.args.names.now)
    c.reserve.ensures.made
