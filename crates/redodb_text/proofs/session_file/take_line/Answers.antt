use Rattle.std.proofs.Common.{◌≡◌, ℕ, length, Some, None, Ok, rules, subst}
use Rattle.std.specs.Option.{option_map}
use Rattle.redodb_commands.specs.Support.Meaning.{item_at}
use Rattle.redodb_text.specs.Support.Reading.{script_line_in}
use Rattle.redodb_text.proofs.Scripts.{line_more, AreBelow-Extends, AreBelow-push}
use Rattle.redodb_text.proofs.session_file.take_line.Goals as goal

pub returns-in_ok-push-clause-taken : goal.returns-in_ok-push-clause-taken
returns-in_ok-push-clause-taken c start before script =
    let count : c.len.result ≡ length c.args.items.now.items = search rules in
    let read =
    subst (λ (k : ℕ). script_line_in k c.args.names.now c.args.line.now
    ≡ Ok (
      option_map (item_at c.read_script_line.new.names) (Some c.in-Some.item),
      c.read_script_line.new.names,
    )) count (rw c.in-Some.is at c.in_ok-item.ensures.reads) in
    rw c.in_ok-push.ensures.items
    (line_more start before c.args.names.now c.read_script_line.new.names c.args.items.now.items
    c.args.line.now
    (Some c.in-Some.item) c.read_script_line.ensures.kept c.requires.within script read)

pub returns-in_ok-push-clause-within : goal.returns-in_ok-push-clause-within
returns-in_ok-push-clause-within c =
    let before =
    AreBelow-Extends c.args.names.now c.read_script_line.new.names c.args.items.now.items
    c.read_script_line.ensures.kept c.requires.within in
    rw c.in_ok-push.ensures.items
    (AreBelow-push (length c.read_script_line.new.names) c.args.items.now.items c.in-Some.item
    before (rw c.in-Some.is at c.in_ok-item.ensures.within))

pub returns-in_default-clause-taken : goal.returns-in_default-clause-taken
returns-in_default-clause-taken c start before script =
    let count : c.len.result ≡ length c.args.items.now.items = search rules in
    let read =
    subst (λ (k : ℕ). script_line_in k c.args.names.now c.args.line.now ≡ Ok
    (option_map (item_at c.read_script_line.new.names) None, c.read_script_line.new.names)) count
    (rw c.in_default.is at c.in_ok-item.ensures.reads) in
    line_more start before c.args.names.now c.read_script_line.new.names c.args.items.now.items
    c.args.line.now None c.read_script_line.ensures.kept c.requires.within script read

pub returns-in_default-clause-within : goal.returns-in_default-clause-within
returns-in_default-clause-within c =
    AreBelow-Extends c.args.names.now c.read_script_line.new.names c.args.items.now.items
    c.read_script_line.ensures.kept c.requires.within
