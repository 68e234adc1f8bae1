use Rattle.std.proofs.Common.{◌≡◌, ◌∙◌, ◌+◌, ℕ, ap, arith, length, get_or}
use Rattle.std.proofs.lemmas.List.{length-replicate, get_or-replicate, get_or_past}
use mathlib.Core.Logic.{dite}
use native.Mathlib.Decide.{dec_lt}
use lib.ListN.{replicate}
use Rattle.redodb_board.proofs.Totals.{few_rows}
use Rattle.redodb_board.proofs.Ranges.{opens}
use Rattle.redodb_board.proofs.board.Board.open.Goals as goal

pub overflow_add-rows : goal.overflow_add-rows
overflow_add-rows c =
    omega (arith, few_rows c.args.plan.now c.rows-rows.ensures.plan, c.rows-rows.ensures.count)

pub overflow_add-rows-2 : goal.overflow_add-rows-2
overflow_add-rows-2 c =
    let a = few_rows c.args.plan.now c.rows-rows.ensures.plan in
    omega (arith, c.rows-rows.ensures.count, c.len.ensures.names.few, c.len.ensures.count)

pub of_words-requires : goal.of_words-requires
of_words-requires c =
    let p = c.args.plan.now in
    let is = c.as_slice.ensures.value ∙ c.in_ok-words.ensures.items_if_clones_equal (λ y e. e) in
    let r = c.rows-rows.ensures in
    let n : ℕ = c.rows-rows.result + 1 + c.len.result in
    let long : length (replicate {A = ℕ} n 0) ≡ n = length-replicate n 0 in
    let names : c.len.result ≡ length p.names = c.len.ensures.count ∙ ap length c.names.ensures in
    opens p c.as_slice.result.now r.plan (ap length is ∙ long ∙ (λ i. r.count i + 1 + names i))
    (λ k. ap (λ l. get_or l k 0) is
    ∙ dite (dec_lt k n) (λ h. get_or-replicate n k 0 0 h)
    (λ h. get_or_past (replicate n 0) k 0 (omega arith)))
