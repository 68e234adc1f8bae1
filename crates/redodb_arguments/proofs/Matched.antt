-- The matches and the faults of words, under a command whose rules are known.
use Rattle.std.proofs.Common.{◌≡◌, subst, true, List, []}
use Rattle.clap.specs.Words.{App, HasMatchesOf, Text, fault_of, found_of, is_simple, is_simple_and_free, matches_of, rows_of, subcommand_of, subcommand_rows_of}
use Rattle.clap.specs.declared.parser.matches.ArgMatches.{ArgMatches}

-- the matches are those of the words
pub by_words : (wanted app : App) (words : List Text) (m : ArgMatches) → is_simple wanted ≡ true
    → app ≡ wanted → HasMatchesOf app words m
    → (rows_of (found_of m) ≡ matches_of wanted words)
    × (subcommand_rows_of m ≡ subcommand_of wanted words)
by_words wanted app words m simple is_wanted has =
    subst (λ (a : App). HasMatchesOf a words m) is_wanted has simple

pub no_fault : (wanted app : App) (words : List Text) → is_simple_and_free wanted ≡ true
    → app ≡ wanted → (is_simple_and_free app ≡ true → fault_of app words ≡ [])
    → fault_of wanted words ≡ []
no_fault wanted app words free is_wanted none =
    subst (λ (a : App). is_simple_and_free a ≡ true → fault_of a words ≡ []) is_wanted none free
