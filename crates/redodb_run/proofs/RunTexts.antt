-- The run text of a plan's outcome is one of the scripts' commands.
use Rattle.std.proofs.Common.{◌≡◌, ℕ, ◌≤◌, Option, Result, Ok, Err, List, [], ◌∷◌, length, map, refl, sym, ap, ◌∙◌, subst, arith}
use Rattle.std.specs.Prelude.{IfOk, OnOk, Vec}
use mathlib.Core.Logic.{dite}
use native.Mathlib.Decide.{dec_lt}
use Rattle.std.proofs.lemmas.List.{length-map}
use Rattle.std.proofs.lemmas.Simd.{map-map}
use Rattle.redodb_model.specs.Names.{Text, text_at}
use Rattle.redodb_model.specs.Command as model
use Rattle.redodb_model.specs.History.{Line}
use Rattle.redodb_model.specs.Renaming.{named_item}
use Rattle.redodb_commands.specs.declared.script.Item.{Item}
use Rattle.redodb_run.specs.RunTexts.{run_text_of, sessions_below}
use Rattle.redodb_commands.specs.Meaning.{line_at}
use Rattle.redodb_commands.specs.Support.Meaning.{item_at, item_of}
use Rattle.redodb_commands.specs.declared.reply.Line as coded
use Rattle.redodb_journal.specs.Plans.{PlanOf, scripts_of, scripts_named}
use Rattle.redodb_text.specs.declared.fault.Fault.{Fault}
use Rattle.redodb_text.specs.declared.fault.Fault.TheVariants.{NoSession}
use Rattle.redodb_run.specs.Runs.{IsRun, IsRunText, RunsAs}
use Rattle.redodb_run.specs.Files.{AreAccepted}
use Rattle.redodb_run.proofs.Accepted.{AreAccepted-length}
use Rattle.redodb_run.specs.Support.Files.{scripts_at}

-- the plan of these scripts, over these names
abbrev plan_here : List Text → List (List Item) → PlanOf
plan_here names scripts = record { names = names; scripts = scripts_of scripts }

named_here : (names : List Text) (scripts : List (List Item))
    → scripts_named (plan_here names scripts) ≡ scripts_at names scripts
named_here names [] = refl
named_here names (script ∷ scripts) =
    let first = map-map (named_item (text_at names)) item_of script in
    let rest = named_here names scripts in
    λ i. first i ∷ rest i

-- the text of a run of the plan
pub plan_text : (p : PlanOf) (history : List coded.Line) (text : Text)
    → IsRun (scripts_named p) (map (line_at p.names) history)
    → text ≡ run_text_of (scripts_named p) (sessions_below (length p.scripts))
    (map (line_at p.names) history)
    → IsRunText (scripts_named p) text
plan_text p history text run is =
    let lines : List (Line Text) = map (line_at p.names) history in
    let name : List (model.Item ℕ) → List (model.Item Text) =
    λ script. map (named_item (text_at p.names)) script in
    let long : length p.scripts ≡ length (scripts_named p) = sym (length-map p.scripts name) in
    (lines, run, is ∙ ap (λ n. run_text_of (scripts_named p) (sessions_below n) lines) long)

-- the plan's scripts are those of which it was made
pub plan_text_here : (p : PlanOf) (names : List Text) (scripts : List (List Item)) (text : Text)
    → p ≡ plan_here names scripts → IsRunText (scripts_named p) text
    → IsRunText (scripts_at names scripts) text
plan_text_here p names scripts text same is =
    subst (λ all. IsRunText all text) (ap scripts_named same ∙ named_here names scripts) is

-- the text of accepted files, which are neither none nor too many
pub runs_as : {A : Type 0} (result : Result (Vec ℕ A) Fault) (files : List (Option Text))
    (scripts : List (List Item)) (names : List Text)
    → AreAccepted [] files (scripts_at names scripts) names
    → IfOk result (λ text. IsRunText (scripts_at names scripts) text.items)
    → OnOk result (length scripts ≤ 64) → (length scripts ≡ 0 → result ≡ Err NoSession)
    → IfOk result (λ text. RunsAs files text.items)
runs_as (Ok text) files scripts names are run few none =
    let same = AreAccepted-length [] files (scripts_at names scripts) names are in
    let long = length-map scripts (λ script. map (item_at names) script) in
    let some : 1 ≤ length scripts =
    dite (dec_lt 0 (length scripts)) (λ less. omega arith)
    (λ no. absurd (let wrong = none (omega arith) in cc)) in
    (scripts_at names scripts, (omega arith, omega arith, (names, are)), run)
runs_as (Err fault) files scripts names are run few none = tt
