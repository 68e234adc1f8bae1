use Rattle.std.proofs.Common.{◌≡◌, ℕ, List, ◌-◌, ◌<◌, sym, ap, subst, ◌∙◌, arith, [], ◌∷◌, length, map, All}
use Rattle.std.proofs.lemmas.List.{length-map}
use Rattle.std.proofs.lemmas.List.Elements.{All-nil}
use Rattle.redodb_graph.specs.Graphs.{IsGraphOf}
use Rattle.redodb_commands.specs.Support.Meaning.{item_of}
use Rattle.redodb_model.specs.Support.Room.{room_of}
use Rattle.redodb_model.specs.Names.{Text}
use Rattle.redodb_model.specs.Placed.{line_of}
use Rattle.redodb_journal.specs.Plans.{script_of}
use Rattle.redodb_journal.specs.Holds.{Says}
use Rattle.redodb_journal.specs.Journals.{IsMarked}
use Rattle.redodb_board.specs.Core.{Line}
use Rattle.redodb_board.specs.Views.{ViewOf, view}
use Rattle.redodb_board.specs.Rule.{range, Told}
use Rattle.redodb_board.specs.Shown.{told, rows_up_to}
use Rattle.redodb_board.proofs.Ranges.{fresh_told}
use Rattle.redodb_board.proofs.worker.Worker.new.Goals as goal

pub returns-clause-journal : goal.returns-clause-journal
returns-clause-journal c =
    let n : ℕ = c.session_number-session.result in
    ap (told n (script_of c.args.plan.now n)) c.in-Ok.ensures.items

pub room_for-requires : goal.room_for-requires
room_for-requires c =
    let a = length-map c.items.result.now item_of in
    let b = ap length c.items.ensures.items in
    let d = c.items.ensures.plan.short c.session_number-session.result in
    omega arith

pub returns-clause-works : goal.returns-clause-works
returns-clause-works c board sits =
    let p = c.args.plan.now in
    let s = c.args.seat in
    let m = s.seat.me.0 in
    let e = c.in-Ok.ensures in
    let f = c.requires in
    let d = c.in-Ok-new-2.ensures in
    let n : ℕ = c.session_number-session.result in
    let at : n ≡ s.first = c.session_number-session.ensures.number in
    let none-yet : told n (script_of p n) c.in-Ok.entries.items ≡ [] =
    ap (told n (script_of p n)) e.items in
    let one : s.end - s.first ≡ 1 = let x = f.fresh.1 in omega arith in
    let is : m ≡ view p (range s.first 1) [] [] =
    f.fresh.0.view ∙ (λ i. view (f.plan.0.plan i) (range s.first (one i)) [] []) in
    let seen : [] ≡ m.seen = ap (λ (v : ViewOf). v.seen) (sym is) in
    record {
      table = sits.table;
      works = record {
        view =
            is
            ∙
            (λ i. view p ((sym at i, sym none-yet i) ∷ []) (seen i)
            (ap (λ (v : ViewOf). v.also) (sym is) i));
        slots = f.plan.0.slots;
        session = subst (λ k. k < length p.scripts) (sym at) f.plan.1;
        room = omega (arith, e.capacity, ap room_of c.items.ensures.items, c.room_for.ensures);
        tries = ap length seen;
        own =
            subst (λ (x : List Text × List Line). Says x.0 c.in-Ok-new.own (map line_of x.1))
            (λ i. (c.names.ensures i, sym none-yet i)) c.in-Ok-new.ensures;
        marked =
            subst (All (IsMarked (script_of p n))) (sym e.items)
            (All-nil (IsMarked (script_of p n)));
        told = subst Told (sym is) (fresh_told p s.first 1 c.session_number-session.ensures.plan);
        lags =
            record {
              words = [];
              behind = sym seen;
              records = d.empty;
              applied = d.applied;
              count = d.count ∙ c.len.ensures.count ∙ ap length c.names-2.ensures;
              graph = subst (IsGraphOf p) (sym d.graph) f.board.graph;
            };
        spent = λ _. ap (rows_up_to 0) (sym none-yet);
      };
    }
