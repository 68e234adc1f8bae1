use Rattle.std.proofs.Common.{◌≡◌, ℕ, ◌+◌, ◌<◌, get_or, sym, ap, ◌∙◌, arith}
use Rattle.std.specs.Mem.Slots.{slots_items}
use mathlib.Core.Logic.{dite}
use native.Mathlib.Decide.{ℕ_discrete, dec_lt}
use Rattle.redodb_model.specs.Placed.{rows_in}
use Rattle.redodb_board.specs.Rows.{rows_of}
use Rattle.redodb_board.proofs.Ranges.{at_get}
use Rattle.redodb_board.proofs.Totals.{few_rows}
use Rattle.redodb_board.proofs.board.Board.close.Goals as goal
use Rattle.redodb_board.proofs.board.Board.close.Goals.{then-loop-filled-test+else-word-ne0, else-loop-filled-test}

pub loop-filled-preserved : goal.loop-filled-preserved
loop-filled-preserved c =
    let n = c.loop-filled.filled in
    let ws = slots_items c.last_words-closed.result.words in
    let here = at_get ws (n + 1) c.word.result c.word.ensures in (
      omega arith,
      λ r h z. dite (ℕ_discrete r n)
          (λ e. c.if-word-ne0.true (sym here ∙ ap (λ x. get_or ws (x + 1) 0) (sym e) ∙ z))
          (λ ne. c.loop-filled.invariant.1 r (omega arith) z),
    )

-- so few rows can be counted in 32 bits
pub overflow_cast-result : goal.overflow_cast-result
overflow_cast-result c =
    let a = c.loop-filled.invariant.0 in
    let b = c.requires.belongs.0.rows in
    let d = few_rows c.args.self.table.shared.key c.requires.belongs.0.plan in
    omega arith

pub returns : goal.returns
returns c =
    let n : ℕ = c.loop-filled.filled in
    let ws = slots_items c.last_words-closed.result.words in
    let l = c.last_words-closed.ensures.words in
    let m : ℕ = rows_in l.lines in
    let is = c.requires.belongs.0.rows in
    let stop : n < rows_of c.args.self.table.shared.key → get_or ws (n + 1) 0 ≡ 0 =
    λ h. elim c.loop-filled-test.branch [
      | then-loop-filled-test+else-word-ne0 w
          ↦ at_get ws (n + 1) w.word.result w.word.ensures ∙ w.if-word-ne0.false
      | else-loop-filled-test w ↦ let a = w.loop-filled-test.false in
          absurd (omega arith)
    ] in
    let same : m ≡ n =
    dite (ℕ_discrete m n) (λ e. e) (λ ne. dite (dec_lt m n)
    (λ less.
    let a = c.loop-filled.invariant.0 in
    absurd (c.loop-filled.invariant.1 m less (l.rows m (omega arith) ∙ l.empty m (omega arith))))
    (λ ge.
    let more : n < m = omega arith in
    let b = l.few in
    let near : n < rows_of c.args.self.table.shared.key = omega arith in
    let d = l.rows n near in
    let e = l.filled n more in
    let f = stop near in
    absurd (omega arith))) in
    record { lines = l.lines; history = l.history; joint = l.joint; rows = same }
