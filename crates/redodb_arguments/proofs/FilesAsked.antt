-- The meaning of the words' matches.
use Rattle.std.proofs.Common.{◌≡◌, ◌∙◌, ap, sym, subst, length, ℕ, List, map, Option, Some, None, option_map, codes, string_bytes, String, Vec}
use Rattle.std.specs.declared.alloc.Global.{Global}
use Rattle.std.specs.Box.{box_value}
use Rattle.clap.specs.Words.{Row, Text, first_value, found_of, matched_of, raw_values, rows_of, subcommand_name_of, subcommand_rows_of}
use Rattle.clap.specs.declared.parser.matches.ArgMatches.{ArgMatches}
use Rattle.clap.specs.declared.parser.matches.ArgMatches.TheViews.{out-ArgMatches, out-SubCommand}
use Rattle.clap.specs.declared.parser.matches.Found.{Found}
use Rattle.clap.proofs.WalkLemmas.{first_value-rows, raw_values-rows}
use Rattle.redodb_arguments.specs.Words.{Asks}
use Rattle.redodb_arguments.specs.declared.task.Job.{Job}
use Rattle.redodb_arguments.specs.declared.task.Job.TheVariants.{Input, Run, Replay}

abbrev both : {T : Type 0} → (T → Text) → (T → List Row) → T → Text × List Row
both f g x = (f x, g x)

-- a pair is known by its parts
by_parts : {T : Type 0} (o : Option T) (f : T → Text) (g : T → List Row) (name : Text)
    (rows : List Row)
    → Some name ≡ option_map f o → Some rows ≡ option_map (λ (p : Text × List Row). p.1)
    (option_map (both f g) o)
    → option_map (both f g) o ≡ Some (name, rows)
by_parts (Some x) f g name rows is_name is_rows = cc
by_parts None f g name rows is_name is_rows = absurd (cc)

asked : (m : ArgMatches) (name : Text) (rows : List Row)
    → Some name ≡ subcommand_name_of m → Some rows ≡ option_map (λ (p : Text × List Row). p.1)
    (subcommand_rows_of m)
    → subcommand_rows_of m ≡ Some (name, rows)
asked m name rows = by_parts (out-ArgMatches m).subcommand
    (λ b. (out-SubCommand (box_value b)).name.now)
    (λ b. rows_of (found_of (out-SubCommand (box_value b)).matches)) name rows

pub asks_run : (m : ArgMatches) (name : Text) (inner : Found) (texts : List Text)
    (files : Vec (String Global) Global)
    → Some name ≡ subcommand_name_of m
    → Some (rows_of inner) ≡ option_map (λ (p : Text × List Row). p.1) (subcommand_rows_of m)
    → name ≡ codes "run" → Some texts ≡ option_map raw_values (matched_of inner (codes "FILE"))
    → map string_bytes files.items ≡ texts → Asks (subcommand_rows_of m) (Run files)
asks_run m name inner texts files is_name is_rows is_run is_texts copied =
    rw (asked m name (rows_of inner) is_name is_rows)
    (is_run, sym (raw_values-rows inner (codes "FILE")) ∙ sym is_texts ∙ ap Some (sym copied))

pub asks_replay : (m : ArgMatches) (name : Text) (inner : Found) (text : Text)
    (file : String Global)
    → Some name ≡ subcommand_name_of m
    → Some (rows_of inner) ≡ option_map (λ (p : Text × List Row). p.1) (subcommand_rows_of m)
    → name ≡ codes "replay" → Some text ≡ first_value inner (codes "FILE")
    → string_bytes file ≡ text → Asks (subcommand_rows_of m) (Replay file)
asks_replay m name inner text file is_name is_rows is_replay is_text copied =
    rw (asked m name (rows_of inner) is_name is_rows) (
      is_replay,
      sym (first_value-rows inner (codes "FILE")) ∙ sym is_text
          ∙ ap Some (sym copied),
    )

two_words : ¬ (codes "run" ≡ codes "replay")
two_words same = absurd (unequal (ap (λ (word : Text). length word) same))
  where
    unequal : ¬ (◌≡◌ {A = ℕ} 3 6)
    unequal same = absurd (cc)

-- `run` without a FILE is no job
pub asks_no_run : (m : ArgMatches) (name : Text) (inner : Found) (job : Job)
    → Some name ≡ subcommand_name_of m
    → Some (rows_of inner) ≡ option_map (λ (p : Text × List Row). p.1) (subcommand_rows_of m)
    → name ≡ codes "run" → option_map raw_values (matched_of inner (codes "FILE")) ≡ None
    → ¬ (Asks (subcommand_rows_of m) job)
asks_no_run m name inner job is_name is_rows is_run none asks =
    go job (subst (λ (found : Option (Text × List Row)). Asks found job)
    (asked m name (rows_of inner) is_name is_rows) asks)
  where
    go : (job : Job) → ¬ (Asks (Some (name, rows_of inner)) job)
    go Input h = h
    go (Run files) h =
        let bad : None ≡ Some (map string_bytes files.items) =
        sym none ∙ raw_values-rows inner (codes "FILE") ∙ h.1 in absurd (cc)
    go (Replay file) h = two_words (sym is_run ∙ h.0)

-- nor is `replay`
pub asks_no_replay : (m : ArgMatches) (name : Text) (inner : Found) (job : Job)
    → Some name ≡ subcommand_name_of m
    → Some (rows_of inner) ≡ option_map (λ (p : Text × List Row). p.1) (subcommand_rows_of m)
    → name ≡ codes "replay" → first_value inner (codes "FILE") ≡ None
    → ¬ (Asks (subcommand_rows_of m) job)
asks_no_replay m name inner job is_name is_rows is_replay none asks =
    go job (subst (λ (found : Option (Text × List Row)). Asks found job)
    (asked m name (rows_of inner) is_name is_rows) asks)
  where
    go : (job : Job) → ¬ (Asks (Some (name, rows_of inner)) job)
    go Input h = h
    go (Run files) h = two_words (sym h.0 ∙ is_replay)
    go (Replay file) h =
        let bad : None ≡ Some (string_bytes file) = sym none ∙ first_value-rows inner (codes "FILE")
        ∙ h.1 in absurd (cc)
