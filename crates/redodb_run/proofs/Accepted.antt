-- Files that are accepted one after another.
use Rattle.std.proofs.Common.{◌≡◌, ℕ, ◌+◌, ◌<◌, suc, Bool, false, Option, None, Result, Ok, Err, ◌⊎◌, inl, inr, List, [], ◌∷◌, ◌++◌, map, take, length, get_or, refl, sym, ap, ◌∙◌, subst, arith}
use Rattle.std.proofs.lemmas.List.{length-map, nil_from_length, take_more}
use Rattle.std.specs.Prelude.{IfErr}
use Rattle.redodb_names.specs.Support.Names.{Extends}
use Rattle.redodb_model.specs.Names.{Text}
use Rattle.redodb_model.specs.Command as commands
use Rattle.redodb_commands.specs.declared.script.Item.{Item}
use Rattle.redodb_commands.specs.Meaning.{command_of}
use Rattle.redodb_commands.specs.Support.Meaning.{item_at}
use Rattle.redodb_text.proofs.Added.{command_at-Extends, IsBelow-Extends}
use Rattle.redodb_text.specs.declared.fault.Fault.{Fault}
use Rattle.redodb_text.specs.declared.fault.Fault.TheVariants.{Memory, NoSession, TooManySessions}
use Rattle.redodb_run.specs.Files.{IsAccepted, AreAccepted}
use Rattle.redodb_run.specs.Faults.{IsRunCause}
use Rattle.redodb_run.specs.Support.Files.{IsScriptBelow, AreScriptsBelow, scripts_at}
use Rattle.redodb_run.proofs.Causes.{shown_at}

-- one more file is accepted with the names of those before it
AreAccepted-append : (names : List Text) (files : List (Option Text))
    (scripts : List (List (commands.Item Text))) (middle : List Text)
    → (file : Option Text) (script : List (commands.Item Text)) (after : List Text)
    → AreAccepted names files scripts middle → IsAccepted middle file script after
    → AreAccepted names (files ++ file ∷ []) (scripts ++ script ∷ []) after
AreAccepted-append names [] [] middle file script after same is =
    (after, subst (λ (before : List Text). IsAccepted before file script after) same is, refl)
AreAccepted-append names (f ∷ files) (s ∷ scripts) middle file script after are is =
    (are.0, are.1, AreAccepted-append are.0 files scripts middle file script after are.2 is)
AreAccepted-append names files scripts middle file script after are is = absurd are

-- each file has a script
pub AreAccepted-length : (names : List Text) (files : List (Option Text))
    (scripts : List (List (commands.Item Text))) (after : List Text)
    → AreAccepted names files scripts after → length files ≡ length scripts
AreAccepted-length names [] [] after are = refl
AreAccepted-length names (f ∷ files) (s ∷ scripts) after are =
    ap suc (AreAccepted-length are.0 files scripts after are.2)
AreAccepted-length names files scripts after are = absurd are

script_below-Extends : (old new : List Text) (script : List Item) → Extends old new
    → IsScriptBelow old script → IsScriptBelow new script
script_below-Extends old new [] x below = tt
script_below-Extends old new (c ∷ cs) x below = (
  IsBelow-Extends old new (command_of c.command) x below.0,
  script_below-Extends old new cs x below.1,
)

-- one more script under more names
pub AreScriptsBelow-append : (old new : List Text) (scripts : List (List Item))
    (script : List Item)
    → Extends old new → AreScriptsBelow old scripts → IsScriptBelow new script
    → AreScriptsBelow new (scripts ++ script ∷ [])
AreScriptsBelow-append old new [] script x below last = (last, tt)
AreScriptsBelow-append old new (s ∷ scripts) script x below last = (
  script_below-Extends old new s x below.0,
  AreScriptsBelow-append old new scripts script x
      below.1 last,
)

script_at-Extends : (old new : List Text) (script : List Item) → Extends old new
    → IsScriptBelow old script → map (item_at new) script ≡ map (item_at old) script
script_at-Extends old new [] x below = refl
script_at-Extends old new (c ∷ cs) x below =
    let first = command_at-Extends old new c.command x below.0 in
    let rest = script_at-Extends old new cs x below.1 in
    λ i. record { guarded = c.guarded; command = first i } ∷ rest i

-- adding names does not change what scripts mean
scripts_at-Extends : (old new : List Text) (scripts : List (List Item)) → Extends old new
    → AreScriptsBelow old scripts → scripts_at new scripts ≡ scripts_at old scripts
scripts_at-Extends old new [] x below = refl
scripts_at-Extends old new (s ∷ scripts) x below =
    let first = script_at-Extends old new s x below.0 in
    let rest = scripts_at-Extends old new scripts x below.1 in
    λ i. first i ∷ rest i

scripts_at-append : (names : List Text) (scripts : List (List Item)) (script : List Item)
    → scripts_at names (scripts ++ script ∷ []) ≡ scripts_at names scripts ++ map (item_at names)
    script ∷ []
scripts_at-append names [] script = refl
scripts_at-append names (s ∷ scripts) script =
    ap (λ (rest : List (List (commands.Item Text))). map (item_at names) s ∷ rest)
    (scripts_at-append names scripts script)

-- the files before, and one more, which adds names
files_then : (files : List (Option Text)) (scripts : List (List Item)) (old new : List Text)
    (file : Option Text) (script : List Item)
    → Extends old new → AreScriptsBelow old scripts
    → AreAccepted [] files (scripts_at old scripts) old
    → IsAccepted old file (map (item_at new) script) new
    → AreAccepted [] (files ++ file ∷ []) (scripts_at new (scripts ++ script ∷ [])) new
files_then files scripts old new file script x below are is =
    let said = scripts_at-append new scripts script
    ∙ ap (λ (prefix : List (List (commands.Item Text))). prefix ++ map (item_at new) script
    ∷ []) (scripts_at-Extends old new scripts x below) in
    subst (λ (all : List (List (commands.Item Text))). AreAccepted [] (files ++ file ∷ []) all
    new) (sym said)
    (AreAccepted-append [] files (scripts_at old scripts) old file (map (item_at new) script) new
    are is)

-- a loop over the files accepts the next one
pub files_more : {X : Type 0} (known : X → Option Text) (initial files : List X) (at : ℕ) (d : X)
    (old new : List Text) (scripts : List (List Item)) (script : List Item)
    → length files ≡ length initial → at < length initial
    → get_or (map known files) at None ≡ get_or (map known initial) at None
    → Extends old new → AreScriptsBelow old scripts
    → AreAccepted [] (take at (map known initial)) (scripts_at old scripts) old
    → IsAccepted old (known (get_or files at d)) (map (item_at new) script) new
    → AreAccepted [] (take (at + 1) (map known initial)) (scripts_at new (scripts ++ script ∷ []))
    new
files_more known initial files at d old new scripts script long within same x below are is =
    let here : at < length files = omega arith in
    let accepted = subst (λ (bytes : Option Text). IsAccepted old bytes
    (map (item_at new) script) new) (shown_at known files initial at d here same) is in
    subst (λ (all : List (Option Text)). AreAccepted [] all
    (scripts_at new (scripts ++ script ∷ [])) new)
    (sym (take_more (map known initial) at None (omega (arith, length-map initial known))))
    (files_then (take at (map known initial)) scripts old new (get_or (map known initial) at None)
    script x below are accepted)

-- the cause of a fault after the files are accepted
pub IsRunCause-sessions : {X : Type 0} (result : Result X Fault) (files : List (Option Text))
    (failed : ℕ → Bool) (scripts : List (List (commands.Item Text))) (names : List Text)
    → AreAccepted [] files scripts names
    → (result ≡ Err TooManySessions → 64 < length scripts) → (result ≡ Err NoSession → scripts ≡ [])
    → IfErr result (λ fault. (fault ≡ Memory) ⊎ (fault ≡ NoSession) ⊎ (fault ≡ TooManySessions))
    → IfErr result (IsRunCause files failed false)
IsRunCause-sessions (Ok x) files failed scripts names are many none others = tt
IsRunCause-sessions (Err Memory) files failed scripts names are many none others = tt
IsRunCause-sessions (Err TooManySessions) files failed scripts names are many none others =
    (rw (AreAccepted-length [] files scripts names are) (many refl), (scripts, names, are))
IsRunCause-sessions (Err NoSession) files failed scripts names are many none others =
    nil_from_length files (AreAccepted-length [] files scripts names are ∙ ap length (none refl))
IsRunCause-sessions (Err fault) files failed scripts names are many none others =
    absurd (elim others [ inl e ↦ cc | inr (inl e) ↦ cc | inr (inr e) ↦ cc ])
