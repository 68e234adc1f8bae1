-- The commands in accepted files.
use Rattle.std.proofs.Common.{ℕ, zero, suc, ◌<◌, ◌≤◌, Some, List, [], ◌∷◌, ◌++◌, length, map, get_or, sym, ap, subst, arith}
use Rattle.std.specs.List.{AllByRecursion, flat_map}
use Rattle.redodb_model.specs.Names.{Text}
use Rattle.redodb_model.specs.Command.{Command, Item, commands_in, names_in}
use Rattle.redodb_text.specs.Grammar.{IsScript}
use Rattle.redodb_run.specs.Files.{AreAccepted}
use Rattle.redodb_history.specs.Support.HistoryTexts.{IsSaid}
use Rattle.redodb_history.proofs.CommandsSaid.{commands_said}
use Rattle.redodb_history.proofs.KnownNames.{IsKnown, AreKnown, known-with_names, added_are_known}
use Rattle.redodb_run.proofs.Lists.{all-front, all-back, all-both, all-weaker}

-- the command may be in a script, and its names are among these
pub record IsAsked (names : List Text) (command : Command Text) : Type 0 where
  pub said : IsSaid command
  pub known : AreKnown names (names_in command)

-- so may each of a script, which isn't too long
pub record AreAsked (names : List Text) (script : List (Item Text)) : Type 0 where
  pub each : AllByRecursion (IsAsked names) (commands_in script)
  pub few : length script ≤ 4096

each_asked : (names : List Text) (script : List (Command Text)) → AllByRecursion IsSaid script
    → AreKnown names (flat_map names_in script) → AllByRecursion (IsAsked names) script
each_asked names [] said known = tt
each_asked names (command ∷ script) said known =
    let rest : List Text = flat_map names_in script in (
      record {
        said = said.0;
        known = all-front (IsKnown names) (names_in command) rest known;
      },
      each_asked names script said.1 (all-back (IsKnown names) (names_in command) rest known),
    )

script_asked : (before : List Text) (text : Text) (script : List (Item Text))
    (after : List Text) → IsScript before text script after → AreAsked after script
script_asked before text script after is = record {
  each =
      let commands = commands_in script in
      each_asked after commands (commands_said _ script is.said)
      (subst (λ (ns : List Text). AreKnown ns (flat_map names_in commands)) (sym is.named.0)
      (added_are_known before (flat_map names_in commands)));
  few = is.few;
}

-- names that were known stay known
kept : (names : List Text) (texts : List Text) (scripts : List (List (Item Text)))
    (after : List Text) → AreAccepted names (map Some texts) scripts after → (n : Text)
    → IsKnown names n → IsKnown after n
kept names [] [] after same n known = subst (λ (ns : List Text). IsKnown ns n) (sym same) known
kept names (t ∷ texts) (s ∷ scripts) after (middle, is, are) n known =
    kept middle texts scripts after are n
    (subst (λ (ns : List Text). IsKnown ns n) (sym is.1.named.0)
    (known-with_names names (flat_map names_in (commands_in s)) n known))
kept names texts scripts after are n known = absurd are

pub all_asked : (names : List Text) (texts : List Text) (scripts : List (List (Item Text)))
    (after : List Text) → AreAccepted names (map Some texts) scripts after
    → AllByRecursion (AreAsked after) scripts
all_asked names [] [] after same = tt
all_asked names (t ∷ texts) (s ∷ scripts) after (middle, is, are) =
    let here = script_asked names t s middle is.1 in (
      record {
        each =
            all-weaker (IsAsked middle) (IsAsked after) (λ command asked. record {
              said = asked.said;
              known =
                  all-weaker (IsKnown middle) (IsKnown after)
                  (kept middle texts scripts after are) (names_in command) asked.known;
            }) (commands_in s) here.each;
        few = here.few;
      },
      all_asked middle texts scripts after are,
    )
all_asked names texts scripts after are = absurd are

pub few_names : (names : List Text) (texts : List Text) (scripts : List (List (Item Text)))
    (after : List Text) → AreAccepted names (map Some texts) scripts after
    → length names ≤ 65536 → length after ≤ 65536
few_names names [] [] after same few = omega (arith, few, ap length same)
few_names names (t ∷ texts) (s ∷ scripts) after (middle, is, are) few =
    few_names middle texts scripts after are is.1.named.1
few_names names texts scripts after are few = absurd are

pub asked_at : (names : List Text) (scripts : List (List (Item Text))) (s : ℕ)
    → AllByRecursion (AreAsked names) scripts → s < length scripts
    → AreAsked names (get_or scripts s [])
asked_at names [] s all less = absurd (omega (arith, less))
asked_at names (script ∷ scripts) zero all less = all.0
asked_at names (script ∷ scripts) (suc s) all less =
    asked_at names scripts s all.1 (omega (arith, less))

pub all_names_known : (names : List Text) (commands : List (Command Text))
    → AllByRecursion (IsAsked names) commands → AreKnown names (flat_map names_in commands)
all_names_known names [] asked = tt
all_names_known names (command ∷ commands) asked =
    all-both (IsKnown names) (names_in command) (flat_map names_in commands) asked.0.known
    (all_names_known names commands asked.1)
