use Rattle.std.proofs.Common.{◌≡◌, ℕ, ◌+◌, ◌-◌, ◌++◌, [], ap, subst, sym, ◌∙◌, arith, List}
use Rattle.redodb_board.specs.Views.{ViewOf, view}
use Rattle.redodb_board.specs.Rule.{range, longer}
use Rattle.redodb_board.specs.Support.Rule.{met}
use Rattle.redodb_board.specs.Core.{Begins, row_words}
use Rattle.redodb_board.specs.Histories.{IsHistoryOf, words_of}
use Rattle.redodb_board.proofs.Ended.{history-of, seen-of}
use Rattle.redodb_board.proofs.Joins.{meets, looks}
use Rattle.redodb_board.proofs.Ranges.{range-append}
use Rattle.redodb_board.proofs.seat.Seat.meet.Goals as goal

pub join_seat-requires : goal.join_seat-requires
join_seat-requires c =
    let p = c.args.board.now.table.shared.key in
    let b = c.requires.board in
    let s = c.args.self.seat in
    let o = c.args.other.seat in (
      c.requires.first.table,
      c.requires.second.table,
      c.requires.second.seat.slots,
      (let w = b.words in omega arith),
      meets p s.id s.me.0 o.id o.me.0,
    )

pub load-requires : goal.load-requires
load-requires c =
    let p = c.args.board.now.table.shared.key in
    let b = c.requires.board in
    let k = c.requires.first in
    let e = c.join_seat.ensures in
    let t = c.join_seat.new.seat in (
      e.0 ∙ k.table,
      (let w = b.words in omega arith),
      looks p c.args.board.now.table.shared.table_id.slots t.id 0 t.me.0 t.me.1
          (ap (λ m. m.0.plan) e.2 ∙ k.seat.plan),
    )

pub returns-clause-together : goal.returns-clause-together
returns-clause-together c =
    let p = c.args.board.now.table.shared.key in
    let e = c.join_seat.ensures.2 in
    let v : ViewOf = c.join_seat.new.seat.me.0 in
    let look = c.load.ensures.2.0 in
    let q : v.plan ≡ p = ap (λ m. m.0.plan) e ∙ c.requires.first.seat.plan in
    let words : (seen : List ℕ) → Begins (row_words v.plan look.log) seen
    → Begins (words_of p look.log) seen =
    λ seen b.
    subst (λ x. Begins (words_of x look.log) seen) q
    (seen-of v.plan look.log seen look.plan look.legal b) in
    record {
      lines = look.log;
      history =
          subst (λ x. IsHistoryOf x look.log) q (history-of v.plan look.log look.plan look.legal);
      parts = look.fits.own;
      first =
          words c.args.self.seat.me.0.seen
          (subst (Begins (row_words v.plan look.log)) (ap (λ m. m.0.seen) e) look.before.seen);
      second =
          words c.args.other.seat.me.0.seen
          (subst (Begins (row_words v.plan look.log)) (ap (λ m. m.0.also) e) look.before.also);
      seen = words c.load.new.seat.me.0.seen look.fits.seen;
    }

pub returns-clause-seen : goal.returns-clause-seen
returns-clause-seen c =
    let e = c.join_seat.ensures.2 in
    ap (λ (x : ViewOf). x.seen) c.load.ensures.2.0.now
    ∙ (λ i. longer ((e i).0.seen) ((e i).0.also))

pub returns-clause-fresh : goal.returns-clause-fresh
returns-clause-fresh c = λ first middle below a b.
    let s = c.args.self in
    let o = c.args.other in
    let p = s.seat.me.0.plan in
    let v : ViewOf = c.join_seat.new.seat.me.0 in
    let side : s.first + (s.end - s.first) ≡ o.first =
    (let x = a.fresh.ordered in let y = a.end in let z = b.first in omega arith) in
    let count : s.end - s.first + (o.end - o.first) ≡ o.end - s.first =
    (let x = a.fresh.ordered in let y = b.fresh.ordered in let z = a.end in let u = b.first in
    omega arith) in
    let parts : range s.first (s.end - s.first) ++ range o.first (o.end - o.first)
    ≡ range s.first (o.end - s.first) =
    ap (λ m. range s.first (s.end - s.first) ++ range m (o.end - o.first)) (sym side)
    ∙ range-append s.first (s.end - s.first) (o.end - o.first)
    ∙ ap (range s.first) count in
    let q : c.load.new.seat.me.0 ≡ view p (range s.first (o.end - s.first)) [] [] =
    c.load.ensures.2.0.now
    ∙ ap (λ (x : ViewOf). view x.plan x.parts (longer x.seen x.also) [])
    (ap (λ m. m.0) c.join_seat.ensures.2
    ∙ (λ i. met (a.fresh.view i) (b.fresh.view i)))
    ∙ ap (λ l. view p l [] []) parts in
    record {
      fresh = record {
        ordered =
            (let x = a.fresh.ordered in let y = b.fresh.ordered in let z = a.end in
            let u = b.first in omega arith);
        view =
            q
            ∙ ap (λ x. view x (range s.first (o.end - s.first)) [] [])
            (sym (ap (λ (x : ViewOf). x.plan) q));
      };
      first = a.first;
      end = b.end;
    }
