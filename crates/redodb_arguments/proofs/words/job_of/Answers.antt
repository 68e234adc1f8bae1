use Rattle.std.proofs.Common.{rules, map}
use Rattle.clap.specs.Words.{found_of}
use Rattle.redodb_arguments.proofs.FilesAsked.{asks_run, asks_replay, asks_no_run, asks_no_replay}
use Rattle.redodb_arguments.proofs.words.job_of.Goals as goal

pub returns-in_ok-copies-in-Some-clause-asked : goal.returns-in_ok-copies-in-Some-clause-asked
returns-in_ok-copies-in-Some-clause-asked c =
    asks_run c.args.matches.now c.in-Some-run-default.field-0-0.now
    (found_of c.in-Some-run-default.run'.now)
    (map (λ text. text.now) c.in-Some.files.now) c.in_ok-copies-in-Some.field-0
    (search rules) (search rules) (search rules) (search rules) (search rules)

pub returns-in_ok-to_string-in-Some-get_str-clause-asked :
    goal.returns-in_ok-to_string-in-Some-get_str-clause-asked
returns-in_ok-to_string-in-Some-get_str-clause-asked c =
    asks_replay c.args.matches.now c.in-Some-replay-default.field-0-0.now
    (found_of c.in-Some-replay-default.replay.now)
    c.in-Some-get_str.file.now c.in_ok-to_string-in-Some-get_str.field-0
    (search rules) (search rules) (search rules) (search rules) (search rules)

pub returns-in-None-clause-only : goal.returns-in-None-clause-only
returns-in-None-clause-only c job asks =
    absurd (asks_no_run c.args.matches.now c.in-Some-run-default.field-0-0.now
    (found_of c.in-Some-run-default.run'.now)
    job (search rules) (search rules) (search rules) (search rules) asks)

pub returns-in-None-get_str-clause-only : goal.returns-in-None-get_str-clause-only
returns-in-None-get_str-clause-only c job asks =
    absurd (asks_no_replay c.args.matches.now c.in-Some-replay-default.field-0-0.now
    (found_of c.in-Some-replay-default.replay.now)
    job (search rules) (search rules) (search rules) (search rules) asks)
