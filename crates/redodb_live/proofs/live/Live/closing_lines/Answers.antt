use Rattle.std.proofs.Common.{◌<◌, ◌≤◌, ◌∙◌, length, map, take, sym, ap, subst, arith}
use Rattle.std.proofs.lemmas.List.{take_all}
use Rattle.std.proofs.lemmas.List.Elements.{All-from_recursion}
use Rattle.redodb_model.specs.Renaming.{AllBelow}
use Rattle.redodb_model.specs.Support.Ending.{closing_lines_of}
use Rattle.redodb_commands.specs.Meaning.{line_of}
use Rattle.redodb_database.specs.Tables.{state_of, tables_count}
use Rattle.redodb_live.specs.Support.ClosingLines.{AreClosing}
use Rattle.redodb_live.specs.Support.Kept.{live_of}
use Rattle.redodb_live.specs.Support.LiveState.{LiveState}
use Rattle.redodb_live.proofs.Ending.{held_sorted, sorted_below}
use Rattle.redodb_live.proofs.live.Live.closing_lines.Goals as goal

pub is_building-is_building-requires : goal.is_building-is_building-requires
is_building-is_building-requires c =
    let sorted = c.sort.new.numbers.items in
    let items = c.deref-t-items.result.now in
    let i = c.loop-t.t-index in
    let count = tables_count c.self.inside.redo in
    let below : AllBelow count items =
    subst (AllBelow count) (sym c.deref-t-items.ensures.value)
    (sorted_below count c.in_ok-targets.targets.items sorted c.sort.ensures.same
    c.in_ok-targets.ensures.below) in
    let within : i < length items = omega arith in
    All-from_recursion (λ t. t < count) items below i 0 within

pub returns : goal.returns
returns c =
    let held = c.in_ok-targets.targets.items in
    let sorted = c.sort.new.numbers.items in
    let items = c.deref-t-items.result.now in
    let tables = c.self.inside.redo in
    let past : length items ≤ c.loop-t.t-index = omega arith in
    let closing : AreClosing (live_of c.self.inside) c.args.session
    (map line_of c.loop-t.lines.items) =
    record {
      targets = sorted;
      held = held_sorted c.self.inside.names c.are_names.ensures (state_of tables)
          c.self.invariant.state.within c.args.session held sorted
          c.in_ok-targets.ensures.distinct c.in_ok-targets.ensures.held
          (record { same = c.sort.ensures.same; sorted = c.sort.ensures.sorted });
      below = sorted_below (tables_count tables) held sorted c.sort.ensures.same
          c.in_ok-targets.ensures.below;
      lines_are = c.loop-t.invariant
          ∙ ap (λ (l : LiveState). closing_lines_of c.args.session (state_of l.tables)
          (take c.loop-t.t-index items)) (sym c.self.view_is)
          ∙ ap (closing_lines_of c.args.session (state_of tables))
          (take_all c.loop-t.t-index items past ∙ c.deref-t-items.ensures.value);
    } in
    subst (λ (l : LiveState). AreClosing l c.args.session (map line_of c.loop-t.lines.items))
    c.self.view_is closing
