-- The meaning of the matches of the words of `redodb-live`.
use Rattle.std.proofs.Common.{◌≡◌, ◌≢◌, ◌∙◌, sym, List, Option, Some, None, option_map, codes, string_bytes, Bor}
use Rattle.clap.specs.Words.{Row, Text, first_of, first_value, found_of, rows_of}
use Rattle.clap.specs.declared.parser.matches.ArgMatches.{ArgMatches}
use Rattle.clap.proofs.WalkLemmas.{first_value-rows}
use Rattle.redodb_arguments.specs.LiveWords.{Asks, HasNoFlag}
use Rattle.redodb_arguments.specs.declared.task.LiveJob.{LiveJob}
use Rattle.redodb_arguments.specs.declared.task.LiveJob.TheVariants.{Talk, BackUp}

-- the first value of an argument is that of its row
pub value_of : (m : ArgMatches) (id : Text) (value : Option (Bor Text))
    → option_map (λ (text : Bor Text). text.now) value ≡ first_value (found_of m) id
    → first_of id (rows_of (found_of m)) ≡ option_map (λ (text : Bor Text). text.now) value
value_of m id value is = sym (is ∙ first_value-rows (found_of m) id)

pub same_value : (a b : Text) → Some a ≡ Some b → a ≡ b
same_value a b same = cc

-- without a log there are no flags
pub no_flags : (rows : List Row) (job : LiveJob) → first_of (codes "log") rows ≡ None
    → Asks rows job → HasNoFlag rows
no_flags rows (Talk None) none asks = asks.1.1
no_flags rows (Talk (Some log)) none asks =
    let bad : None ≡ Some (string_bytes log.name) = sym none ∙ asks.1.name in absurd (cc)
no_flags rows (BackUp backup) none asks = asks.alone

-- a copy is wanted: it is the job, and no flag goes with it
pub no_talk : (rows : List Row) (copy : Text) (job : LiveJob)
    → first_of (codes "backup") rows ≡ Some copy → Asks rows job
    → HasNoFlag rows × (first_of (codes "log") rows ≢ None)
no_talk rows copy (Talk log) some asks =
    let bad : None ≡ Some copy = sym asks.0 ∙ some in absurd (cc)
no_talk rows copy (BackUp backup) some asks = (
  asks.alone,
  λ none. let bad : None ≡ Some (string_bytes backup.log) = sym none ∙ asks.log in absurd (cc),
)
