-- The contents of a log: the texts of the lines that change something.
use Rattle.std.specs.Prelude.{List, Contains}
use Rattle.redodb_model.specs.Names.{Text, texts}
use Rattle.redodb_model.specs.State.{State}
use Rattle.redodb_model.specs.History.{Line}
use Rattle.redodb_model.specs.Changes.{changing_from}
use Rattle.redodb_live.specs.Lines.{lines_text_of}

-- what is logged of lines that are answered from this state on
abbrev pub logged_of : State Text → List (Line Text) → Text
logged_of state lines = lines_text_of (changing_from texts state lines)

-- there is no LF
abbrev pub HasNoEnd : Text → Type 0
HasNoEnd text = ¬ (Contains text 10)
