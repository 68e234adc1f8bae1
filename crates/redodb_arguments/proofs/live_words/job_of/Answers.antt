use Rattle.std.proofs.Common.{◌∙◌, ap, sym, true≢false, codes, Some, None}
use Rattle.clap.specs.Words.{found_of, rows_of}
use Rattle.redodb_arguments.proofs.LogAsked.{value_of, no_talk}
use Rattle.redodb_arguments.proofs.live_words.job_of.Goals as goal

pub talk_of-requires : goal.talk_of-requires
talk_of-requires c = value_of c.args.matches.now (codes "backup") None c.in_default.ensures

pub returns-in_ok-copy-in-Some-get_str-clause-asked :
    goal.returns-in_ok-copy-in-Some-get_str-clause-asked
returns-in_ok-copy-in-Some-get_str-clause-asked c =
    record {
      log = value_of c.args.matches.now (codes "log") (Some c.in-Some-get_str.log)
          c.in-Some-get_str.ensures ∙ ap Some (sym c.in_ok-log-in-Some-get_str.ensures.ok);
      copy = value_of c.args.matches.now (codes "backup") (Some c.in-Some.copy) c.in-Some.ensures
          ∙ ap Some (sym c.in_ok-copy-in-Some-get_str.ensures.ok);
      alone = c.has_flag.ensures.0 c.if-has_flag.false;
    }

pub returns-in-None-clause-only : goal.returns-in-None-clause-only
returns-in-None-clause-only c job asks =
    let copy = value_of c.args.matches.now (codes "backup") (Some c.in-Some.copy) c.in-Some.ensures in
    let asked = no_talk (rows_of (found_of c.args.matches.now)) c.in-Some.copy.now job copy asks in
    absurd (asked.1 (value_of c.args.matches.now (codes "log") None c.in-None.ensures))

pub returns-then-has_flag-clause-only : goal.returns-then-has_flag-clause-only
returns-then-has_flag-clause-only c job asks =
    let copy = value_of c.args.matches.now (codes "backup") (Some c.in-Some.copy) c.in-Some.ensures in
    let asked = no_talk (rows_of (found_of c.args.matches.now)) c.in-Some.copy.now job copy asks in
    absurd (true≢false (sym c.if-has_flag.true ∙ c.has_flag.ensures.1 asked.0))
