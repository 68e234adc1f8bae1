use Rattle.std.proofs.Common.{◌≡◌, ℕ, ◌<◌, ◌≤◌, ◌∷◌, [], Err, map, length, subst, arith, inl, inr}
use Rattle.std.proofs.lemmas.List.{length-map}
use Rattle.redodb_text.specs.declared.fault.LineFault.{LineFault}
use Rattle.redodb_text.specs.declared.fault.Unread.TheVariants.{Fault}
use Rattle.redodb_commands.specs.Support.Meaning.{item_at}
use Rattle.redodb_text.specs.Grammar.{lines_of, IsScript}
use Rattle.redodb_text.specs.Faults.{IsFirstFault}
use Rattle.redodb_text.specs.Support.Reading.{script_line_in}
use Rattle.redodb_text.proofs.Added.{extends_then}
use Rattle.redodb_text.proofs.ScriptLaws.{scripts_agree}
use Rattle.redodb_text.proofs.ScriptSteps.{line_read, last_read, line_fails, read_fault, only_memory, first_is}
use Rattle.redodb_text.proofs.session_file.read_script.Goals as goal

first_fault : (c : goal.After-drop-items) (fault : LineFault) → c.in-Err.unread ≡ Fault fault
    → IsFirstFault c.args.names.now c.args.text.now c.lines.number fault
first_fault c fault e =
    let first =
    first_is c.cut.result.1 (lines_of c.lines.rest.now) c.cut.result.0.now (λ r. lines_of r.now)
    (λ r. length r.now < length c.lines.rest.now) c.cut.ensures in
    let fails : script_line_in (length c.lines.items.items) c.lines.names c.cut.result.0.now
    ≡ Err fault =
    c.in-Err.ensures.fault fault (λ i. Err (e i)) in
    line_fails _ _ c.lines.rest.now c.cut.result.0.now first.0 c.lines.number _ _ fault
    c.lines.invariant.so_far first.1 (rw length-map fails)

pub returns-in-Err-clause-fault : goal.returns-in-Err-clause-fault
returns-in-Err-clause-fault c =
    read_fault c.args.names.now c.args.text.now c.lines.number c.in-Err.unread c.at_line.result
    c.at_line.ensures.memory.1 c.at_line.ensures.fault (first_fault c)

pub returns-in-Err-clause-only : goal.returns-in-Err-clause-only
returns-in-Err-clause-only c cs after script =
    let memory =
    only_memory c.args.names.now c.args.text.now c.lines.number c.in-Err.unread c.at_line.result
    c.at_line.ensures.memory.1 c.at_line.ensures.fault (first_fault c) cs after script in
    inl (λ i. Err (memory i))

whole : (c : goal.In_default-after) → IsScript c.args.names.now c.args.text.now
    (map (item_at c.take_line.new.names) c.take_line.new.items.items) c.take_line.new.names
whole c =
    let only : lines_of c.lines.rest.now ≡ c.cut.result.0.now ∷ [] =
    rw c.in_default-after.is at c.cut.ensures in
    last_read _ _ c.lines.rest.now c.cut.result.0.now c.lines.number _ _ _ _
    c.lines.invariant.so_far only c.in_default.ensures.taken

read_whole : (c : goal.After-new) → IsScript c.args.names.now c.args.text.now
    (map (item_at c.take_line.new.names) c.new.result) c.take_line.new.names
read_whole c =
    let only : lines_of c.lines.rest.now ≡ c.cut.result.0.now ∷ [] =
    rw c.in_default-after.is at c.cut.ensures in
    rw c.new.ensures.items
    (last_read _ _ c.lines.rest.now c.cut.result.0.now c.lines.number _ _ _ _
    c.lines.invariant.so_far only c.in_default.ensures.taken)

pub returns-in_default-after-clause-read : goal.returns-in_default-after-clause-read
returns-in_default-after-clause-read c = read_whole c

pub returns-in_default-after-clause-only : goal.returns-in_default-after-clause-only
returns-in_default-after-clause-only c cs after script =
    inr (scripts_agree c.args.names.now (lines_of c.args.text.now) _ c.take_line.new.names cs after
    (read_whole c) script)

pub new-requires : goal.new-requires
new-requires c =
    let few : length c.take_line.new.items.items ≤ 4096 =
    subst (λ (n : ℕ). n ≤ 4096)
    (length-map c.take_line.new.items.items (item_at c.take_line.new.names)) (whole c).few in
    few

pub lines-preserved : goal.lines-preserved
lines-preserved c =
    let e = rw c.in-Some.is at c.cut.ensures in
    record {
      so_far = line_read _ _ c.lines.rest.now c.in-Some.next.now c.cut.result.0.now c.lines.number _
          _ _ _ c.lines.invariant.so_far e.0 c.in_default.ensures.taken;
      within = c.in_default.ensures.within;
      kept = extends_then _ _ _ c.lines.invariant.kept c.take_line.ensures.kept;
      fits = omega (arith, e.1, c.lines.invariant.fits);
    }
