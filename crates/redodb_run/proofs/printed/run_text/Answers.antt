use Rattle.std.proofs.Common.{◌≡◌, ◌<◌, ◌++◌, ◌∙◌, true, List, [], ap, sym, subst, length, map, get_or, arith}
use Rattle.std.proofs.lemmas.Grind.{common_steps}
use Rattle.std.proofs.lemmas.List.{length-map}
use Rattle.redodb_model.specs.Renaming.{named_item}
use Rattle.redodb_model.specs.Names.{Text, text_at}
use Rattle.redodb_model.specs.Command.{Item}
use Rattle.redodb_model.specs.History.{part_of}
use Rattle.redodb_commands.specs.Meaning.{line_at}
use Rattle.redodb_commands.specs.Support.Meaning.{item_at, item_of}
use Rattle.redodb_journal.specs.Plans.{AreBelow, scripts_named}
use Rattle.redodb_run.specs.RunTexts.{session_lines_of, session_text_of}
use Rattle.redodb_run.specs.Support.Printed.{IsPrinted}
use Rattle.redodb_run.proofs.ScriptTexts.{script_named, script_below, run_more}
use Rattle.redodb_run.proofs.printed.run_text.Goals as goal

pub put_all-requires-clause-items : goal.put_all-requires-clause-items
put_all-requires-clause-items g c =
    let items = c.items_of-items.result.now in
    subst (λ (names : List Text). AreBelow (length names) items) (sym c.names.ensures)
    (script_below c.args.plan.now c.loop-session.session items c.items_of-items.ensures.items
    c.items_of-items.ensures.plan)

pub loop-session-preserved : goal.loop-session-preserved
loop-session-preserved g c =
    let p = c.args.plan.now in
    let s = c.loop-session.session in
    let items = c.items_of-items.result.now in
    let names = c.names.result.now in
    let part = c.index.result.now in
    let lines = map (line_at p.names) c.args.outcome.now.history.items in
    let long = length-map c.scripts-session-end.result.now (λ script. map item_of script) in
    let same = ap length c.scripts-session-end.ensures.scripts in
    let here : s < length p.scripts = omega arith in
    let count = c.in_ok-put_history.ensures.parts.count in
    let parts = length-map p.scripts (λ script. map (named_item (text_at p.names)) script) in
    let script : map (item_at names) items ≡ get_or (scripts_named p) s [] =
    (λ k. map (item_at (c.names.ensures k)) items)
    ∙ script_named p s items c.items_of-items.ensures.items here in
    let printed = c.in_ok-put_history.ensures.parts.each s part (omega arith) c.index.ensures in
    let told = part_of s (map (line_at p.names) c.deref.result.now) in
    c.in_ok-put_all.ensures told
    (subst (λ (x : List (Item Text)). IsPrinted x (session_lines_of true x told) part [])
    (sym script) printed)
    ∙ (λ k. c.loop-session.invariant k ++ session_text_of s (script k)
    (part_of s (map (line_at p.names) (c.deref.ensures.value k))))
    ∙ run_more (scripts_named p) s lines

pub loop-session-init : goal.loop-session-init
loop-session-init g c = grind (arith, common_steps)

pub items_of-items-requires : goal.items_of-items-requires
items_of-items-requires g c = grind (arith, common_steps)

pub index-requires : goal.index-requires
index-requires g c = grind (arith, common_steps)

pub overflow_cast-session : goal.overflow_cast-session
overflow_cast-session g c = grind (arith, common_steps)

pub put_all-requires-clause-few : goal.put_all-requires-clause-few
put_all-requires-clause-few g c = grind (arith, common_steps)

pub returns-in_err-put_all : goal.returns-in_err-put_all
returns-in_err-put_all g c = grind (arith, common_steps)

pub returns : goal.returns
returns g c = grind (arith, common_steps)
