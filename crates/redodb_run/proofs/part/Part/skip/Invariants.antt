use Rattle.std.proofs.Common.{◌≡◌, ◌∷◌, List, map}
use Rattle.redodb_model.specs.History as histories
use Rattle.redodb_model.specs.Names.{Text}
use Rattle.redodb_commands.specs.Support.Meaning.{item_at}
use Rattle.redodb_run.specs.Support.Printed.{IsPrinted}
use Rattle.redodb_run.proofs.part.Part.skip.Given as goal

-- the lines before this one are printed
abbrev pub invariant-loop-at : goal.invariant-loop-at
invariant-loop-at l =
    let script = map (item_at l.names) l.items in record {
      next : l.self.next ≡ l.at;
      closing : l.self.closing ≡ l.fn.self.closing;
      printed : (all : List Text) (line : histories.Line Text) (later : List (histories.Line Text))
          → IsPrinted script all l.fn.self (line ∷ later)
          → IsPrinted script all l.self (line ∷ later);
    }
