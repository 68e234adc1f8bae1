-- Which answered commands change the state.
use Rattle.std.specs.Prelude.{Bool, false, cond, not, List, [], ◌∷◌, ◌++◌, Option, Some, None, bytes_eq}
use Rattle.redodb_model.specs.Names.{Text, Naming}
use Rattle.redodb_model.specs.State.{State, Records, has_file}
use Rattle.redodb_model.specs.Command.{Command, File, Gone, Ood, Targets, Sources}
use Rattle.redodb_model.specs.Reply.{Reply, lets_through}
use Rattle.redodb_model.specs.Step.{after}
use Rattle.redodb_model.specs.History.{Line}

abbrev pub is_stamp_of : Option Text → Text → Bool
is_stamp_of None stamp = false
is_stamp_of (Some own) stamp = bytes_eq own stamp

-- a refusal, `busy`, a question, and a `file` or `gone` that repeats what is known change nothing
abbrev pub changes : {N : Type 0} → Records N → Command N → Reply N → Bool
changes r (File n stamp) reply = not (is_stamp_of (r.cell n).file stamp)
changes r (Gone n) reply = has_file r n
changes r Ood reply = false
changes r Targets reply = false
changes r Sources reply = false
changes r command reply = lets_through reply

-- the lines that change something, from this state on
abbrev pub changing_from : {N : Type 0} → Naming N → State N → List (Line N) → List (Line N)
changing_from naming st [] = []
changing_from naming st (line ∷ lines) =
    cond (changes st.records line.command line.reply) (line ∷ []) []
    ++ changing_from naming (after naming st line.session line.command) lines
