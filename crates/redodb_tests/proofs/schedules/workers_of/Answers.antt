use Rattle.std.proofs.Common.{rules, ◌≡◌, ◌+◌, List, [], ◌∷◌, ◌++◌, subst}
use Rattle.std.proofs.lemmas.List.Elements.{All-push, All-same}
use Rattle.redodb_board.specs.declared.worker.Worker.{Worker}
use Rattle.redodb_board.specs.Kept.{IsFreshOf, WorksAt}
use Rattle.redodb_tests.proofs.schedules.workers_of.Goals as goal

pub loop-session-preserved : goal.loop-session-preserved
loop-session-preserved c =
    let p = c.args.plan.now in
    let b = c.args.board.now in
    let i = c.loop-session.invariant in
    let ws : List Worker = c.loop-session.workers.items in
    let w : Worker = c.in_ok-worker_of.field-0 in
    let items : c.push.new.self.items ≡ ws ++ w ∷ [] = search rules in
    let cut = c.split-one.ensures in
    record {
      workers = All-same (WorksAt p b) c.push.new.self.items (ws ++ w ∷ []) items
          (All-push (WorksAt p b) ws w i.workers c.in_ok-worker_of.ensures);
      sits = cut.right;
      fresh = subst (λ n. IsFreshOf (c.loop-session.session + 1) n c.split-one.result.1)
          i.fresh.end cut.from;
    }

pub returns : goal.returns
returns c =
    let p = c.args.plan.now in
    let b = c.args.board.now in
    let ws : List Worker = c.loop-session.workers.items in
    let w : Worker = c.in_ok-worker_of-2.field-0 in
    let items : c.push-2.new.self.items ≡ ws ++ w ∷ [] = search rules in
    All-same (WorksAt p b) c.push-2.new.self.items (ws ++ w ∷ []) items
    (All-push (WorksAt p b) ws w c.loop-session.invariant.workers
    c.in_ok-worker_of-2.ensures)
