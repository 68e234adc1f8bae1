use Rattle.std.proofs.Common.{◌≡◌, ◌+◌, ◌-◌, sym, ap, ◌∙◌, arith, refl, []}
use Rattle.redodb_board.specs.Views.{ViewOf, view}
use Rattle.redodb_board.specs.Rule.{range}
use Rattle.redodb_board.specs.Support.Rule.{left_of, right_of}
use Rattle.redodb_board.proofs.Ranges.{below-range, from-range}
use Rattle.redodb_board.proofs.seat.Seat.split.Goals as goal

pub returns-clause-left : goal.returns-clause-left
returns-clause-left c =
    let k = c.requires.belongs.1 in
    let e = c.split_at-right.ensures.left in
    record {
      table = e.0 ∙ k.table;
      seat = record {
        plan = ap (λ m. m.0.plan) e.1 ∙ k.seat.plan;
        slots = ap (λ m. m.1) e.1 ∙ k.seat.slots;
      };
    }

pub returns-clause-right : goal.returns-clause-right
returns-clause-right c =
    let k = c.requires.belongs.1 in
    let e = c.split_at-right.ensures.right in
    record {
      table = e.0 ∙ k.table;
      seat = record {
        plan = ap (λ m. m.0.plan) e.1 ∙ k.seat.plan;
        slots = ap (λ m. m.1) e.1;
      };
    }

pub returns-clause-below : goal.returns-clause-below
returns-clause-below c =
    let s = c.args.self in
    let f = c.requires.fresh.0 in
    let v : c.split_at-right.new.seat.me.0 ≡ left_of c.args.middle s.seat.me.0 =
    ap (λ m. m.0) c.split_at-right.ensures.left.1 in
    let q : c.split_at-right.new.seat.me.0
    ≡ view s.seat.me.0.plan (range s.first (c.args.middle - s.first)) [] [] =
    v ∙ ap (left_of c.args.middle) f.view
    ∙ ap (λ l. view s.seat.me.0.plan l [] [])
    (below-range c.args.middle s.first (s.end - s.first) (omega arith) (omega arith)) in
    record {
      fresh = record {
        ordered = omega arith;
        view =
            q
            ∙ ap (λ p. view p (range s.first (c.args.middle - s.first)) [] [])
            (sym (ap (λ (x : ViewOf). x.plan) q));
      };
      first = refl;
      end = refl;
    }

pub returns-clause-from : goal.returns-clause-from
returns-clause-from c =
    let s = c.args.self in
    let f = c.requires.fresh.0 in
    let v : c.split_at-right.result.me.0 ≡ right_of c.args.middle s.seat.me.0 =
    ap (λ m. m.0) c.split_at-right.ensures.right.1 in
    let q : c.split_at-right.result.me.0
    ≡ view s.seat.me.0.plan (range c.args.middle (s.end - c.args.middle)) [] [] =
    v ∙ ap (right_of c.args.middle) f.view
    ∙ ap (λ l. view s.seat.me.0.plan l [] [])
    (from-range c.args.middle s.first (s.end - s.first) (omega arith) (omega arith))
    ∙ ap (λ n. view s.seat.me.0.plan (range c.args.middle n) [] [])
    (let e : s.first + (s.end - s.first) - c.args.middle
    ≡ s.end - c.args.middle = omega arith in
    e) in
    record {
      fresh = record {
        ordered = omega arith;
        view =
            q
            ∙ ap (λ p. view p (range c.args.middle (s.end - c.args.middle)) [] [])
            (sym (ap (λ (x : ViewOf). x.plan) q));
      };
      first = refl;
      end = refl;
    }
