use Rattle.std.proofs.Common.{◌↔◌, ◌∙◌, ℕ, false, length, get_or}
use Rattle.std.proofs.lemmas.List.{length-set}
use Rattle.std.specs.List.{Contains}
use Rattle.redodb_memo.specs.Bits.{IsSet}
use Rattle.redodb_memo.proofs.Marking.{unmarked_one_more}
use Rattle.redodb_model.proofs.Listing.{at_take_all, below_at}
use Rattle.redodb_memo.proofs.name_set.unmark_each.Goals as goal

pub loop-t-preserved : goal.loop-t-preserved
loop-t-preserved c =
    let old = c.args.marks.now in
    let names = c.args.names.now in
    let marks = c.loop-t.marks in
    let k = c.loop-t.t-index in
    let in' = c.loop-t-test.true in
    let sized = c.loop-t.invariant.sized in
    let below = below_at (length old) (length marks) names k 0 c.requires in' sized in
    rw c.remove.ensures (record {
      sized = length-set marks (get_or names k 0) false ∙ sized;
      each = unmarked_one_more old marks names k 0 in' below c.loop-t.invariant.each;
    })

pub returns-clause-each : goal.returns-clause-each
returns-clause-each c =
    let old = c.args.marks.now in
    let marks = c.loop-t.marks in
    at_take_all (λ ns. (t : ℕ) → IsSet marks t ↔ (IsSet old t × (Contains ns t → ⊥)))
    c.args.names.now c.loop-t.t-index c.loop-t-test.false c.loop-t.invariant.each
