use Rattle.std.proofs.Common.{◌∙◌, ℕ, List, length, sym, ap, subst}
use Rattle.redodb_model.specs.Renaming.{AllBelow}
use Rattle.redodb_memo.specs.Memo.{WasRight}
use Rattle.redodb_memo.proofs.Deriving.{right_but_seeds}
use Rattle.redodb_replica.specs.Replicas.{records_in}
use Rattle.redodb_replica.specs.Support.Memos.{MemoOf}
use Rattle.redodb_replica.proofs.memo.Memo.settle.Goals as goal

pub refresh-requires-clause-names : goal.refresh-requires-clause-names
refresh-requires-clause-names c =
    sym (ap (λ (m : MemoOf). length m.out) c.self.view_is ∙ c.requires.memo.sized)

pub refresh-requires-clause-seeds : goal.refresh-requires-clause-seeds
refresh-requires-clause-seeds c =
    subst (λ (m : ℕ). AllBelow m c.queue.result.now) c.self.invariant.seeds c.queue.ensures.below

pub refresh-requires-clause-right : goal.refresh-requires-clause-right
refresh-requires-clause-right c =
    let r = records_in c.args.graph.now.tables c.args.cells.now c.args.rows.now in
    let was = subst (λ (m : MemoOf). WasRight m.seeds m.out r) (sym c.self.view_is)
    c.requires.memo.right in
    subst (λ (ns : List ℕ). WasRight ns c.self.inside.out r) (sym c.queue.ensures.queue) was

pub invariant_of-self : goal.invariant_of-self
invariant_of-self c =
    let kept = c.self.invariant in
    record {
      seeds = c.unmark_queue.ensures.sized ∙ kept.seeds ∙ sym c.refresh.ensures.count;
      noted = λ t on.
          let was = (c.unmark_queue.ensures.each t).0 on in
          absurd (was.1 (kept.noted t was.0));
    }

pub returns-clause-right : goal.returns-clause-right
returns-clause-right c = c.refresh.ensures.right

pub returns-clause-memo : goal.returns-clause-memo
returns-clause-memo c = record {
  sized = c.refresh.ensures.count ∙ ap (λ (m : MemoOf). length m.out) c.self.view_is
      ∙ c.requires.memo.sized;
  right = right_but_seeds c.unmark_queue.new.self.queue c.refresh.new.self
      (records_in c.args.graph.now.tables c.args.cells.now c.args.rows.now)
      c.refresh.ensures.right;
}
