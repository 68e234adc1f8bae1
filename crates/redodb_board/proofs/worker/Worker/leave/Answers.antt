use Rattle.std.proofs.Common.{refl, ap}
use Rattle.redodb_board.specs.Views.{ViewOf}
use Rattle.redodb_board.proofs.worker.Worker.leave.Goals as goal

pub returns-clause-journal : goal.returns-clause-journal
returns-clause-journal c = (refl, refl)

pub returns-clause-leaves : goal.returns-clause-leaves
returns-clause-leaves c p b k = record {
  sits = record {
    table = k.table;
    seat = record {
      plan = ap (λ (v : ViewOf). v.plan) k.works.view;
      slots = k.works.slots;
    };
  };
  told = refl;
  marked = k.works.marked;
  parts = ap (λ (v : ViewOf). v.parts) k.works.view;
  seen = refl;
}
