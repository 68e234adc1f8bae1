use Rattle.std.proofs.Common.{◌≡◌, ◌<◌, ◌∷◌, ◌∙◌, List, [], sym, subst, map, length, get_or, arith}
use Rattle.redodb_model.specs.Names.{Text}
use Rattle.redodb_model.specs.Command.{Item}
use Rattle.redodb_commands.specs.Meaning.{line_at}
use Rattle.redodb_commands.specs.Support.Meaning.{item_at}
use Rattle.redodb_journal.specs.Plans.{AreBelow, scripts_named}
use Rattle.redodb_run.specs.Support.Printed.{IsPrinted}
use Rattle.redodb_run.proofs.ScriptTexts.{script_named, script_below}
use Rattle.redodb_run.proofs.SessionParts.{none_printed, own_printed}
use Rattle.redodb_run.proofs.printed.put_own.Goals as goal

pub put-requires-clause-items : goal.put-requires-clause-items
put-requires-clause-items c =
    let items = c.items_of-items.result.now in
    subst (λ (names : List Text). AreBelow (length names) items) (sym c.names.ensures)
    (script_below c.args.plan.now c.args.line.now.session items c.items_of-items.ensures.items
    c.items_of-items.ensures.plan)

pub returns-then-session-len : goal.returns-then-session-len
returns-then-session-len c lines later are =
    none_printed (scripts_named c.args.plan.now) lines
    (line_at c.args.plan.now.names c.args.line.now) later c.args.parts.now.items are (omega arith)

pub returns : goal.returns
returns c lines later are =
    let p = c.args.plan.now in
    let s = c.args.line.now.session in
    let line = c.args.line.now in
    let items = c.items_of-items.result.now in
    let old = c.index_mut-part.result.now in
    let new = c.put.new.self in
    let here : s < length p.scripts = omega arith in
    let script : map (item_at c.names.result.now) items ≡ get_or (scripts_named p) s [] =
    (λ k. map (item_at (c.names.ensures k)) items)
    ∙ script_named p s items c.items_of-items.ensures.items here in
    own_printed (scripts_named p) lines (line_at p.names line) later c.args.parts.now.items are
    (omega arith) old new c.index_mut-part.ensures.value
    (λ all after printed.
    subst (λ (x : List (Item Text)). IsPrinted x all new after) script
    (c.in_ok-put.ensures.printed all after
    (subst (λ (x : List (Item Text)). IsPrinted x all old
    (line_at c.names.result.now line ∷ after)) (sym script)
    (subst (λ (names : List Text). IsPrinted (get_or (scripts_named p) s []) all old
    (line_at names line ∷ after)) (sym c.names.ensures) printed))))
    c.in_ok-put.ensures.few
