use Rattle.std.proofs.Common.{◌+◌, ◌≤◌, map, length}
use Rattle.redodb_names.specs.Support.Names.{Extends}
use Rattle.redodb_commands.specs.Support.Meaning.{item_at}
use Rattle.redodb_text.proofs.Scripts.{AreBelow}
use Rattle.redodb_text.proofs.ScriptSteps.{IsReadSoFar}
use Rattle.redodb_text.proofs.session_file.read_script.Given as goal

abbrev pub invariant-lines : goal.invariant-lines
invariant-lines l = record {
  so_far : IsReadSoFar l.fn.names l.fn.text l.rest l.number
      (map (item_at l.names) l.items.items) l.names;
  within : AreBelow (length l.names) l.items.items;
  kept : Extends l.fn.names l.names;
  fits : l.number + length l.rest ≤ length l.fn.text + 1;
}

abbrev pub decreases-lines : goal.decreases-lines
decreases-lines l = length l.rest
