-- What is known stays if there are more numbers.
use Rattle.std.proofs.Common.{◌≡◌, ◌↔◌, ℕ, Bool, List, None, get_or, IsTrue, sym, subst}
use Rattle.redodb_model.specs.OutOfDate.{OutOfDate}
use Rattle.redodb_model.specs.State.{Cell, Records}
use Rattle.redodb_memo.specs.Memo.{IsRight, is_out}
use Rattle.redodb_records.specs.Cells.{cell_at}
use Rattle.redodb_records.specs.Rows.{TargetRows, rows_of, with_rows}
use Rattle.redodb_database.specs.Tables.{Tables, state_of, tables_records}

pub same_records : (old new : List Cell) (from to : List TargetRows)
    → ((n : ℕ) → cell_at new n ≡ cell_at old n) → rows_of to ≡ rows_of from
    → with_rows new to ≡ with_rows old from
same_records old new from to cells rows = λ i. record { cell = λ n. cells n i; rows = rows i }

pub still_right : (old new : List Bool) (was is : Records ℕ)
    → ((t : ℕ) → is_out new t ≡ is_out old t) → is ≡ was → IsRight old was → IsRight new is
still_right old new was is same records right t =
    subst (λ (out : Bool). IsTrue out ↔ OutOfDate is t) (sym (same t))
    (subst (λ (r : Records ℕ). IsTrue (is_out old t) ↔ OutOfDate r t) (sym records) (right t))

pub same_state : (old new : Tables) → tables_records new ≡ tables_records old
    → ((t : ℕ) → get_or new.holders t None ≡ get_or old.holders t None)
    → ((t : ℕ) → get_or new.grants t 0 ≡ get_or old.grants t 0) → state_of new ≡ state_of old
same_state old new records holders grants = λ i. record {
  records = records i;
  locks = record { holder = λ t. holders t i; grants = λ t. grants t i };
}
