use Rattle.std.proofs.Common.{◌∙◌, ap, sym, true≢false, codes, Some, None}
use Rattle.clap.specs.Words.{found_of, rows_of}
use Rattle.redodb_arguments.proofs.LogAsked.{value_of, no_flags}
use Rattle.redodb_arguments.proofs.live_words.talk_of.Goals as goal
use Rattle.redodb_arguments.proofs.live_words.talk_of.Goals.{else-compact-via-then-compact+else-whole, else-compact-via-else-compact}

pub returns-in_ok-name-in-Some-clause-asked : goal.returns-in_ok-name-in-Some-clause-asked
returns-in_ok-name-in-Some-clause-asked c = (
  c.requires,
  record {
    name = value_of c.args.matches.now (codes "log") (Some c.in-Some.name) c.in-Some.ensures
        ∙ ap Some (sym c.in_ok-name-in-Some.ensures.ok);
    sync = c.is_given.ensures;
    salvage = c.is_given-in-Some.ensures;
    compact = c.is_given-compact.ensures;
    whole = c.is_given-whole.ensures;
    one = elim c.else-compact.branch [
      | else-compact-via-then-compact+else-whole w ↦ λ both.
          true≢false (sym (c.is_given-whole.ensures.1 both.1) ∙ w.if-whole.false)
      | else-compact-via-else-compact w ↦ λ both.
          true≢false (sym (c.is_given-compact.ensures.1 both.0) ∙ w.if-compact.false)
    ];
  },
)

pub returns-in-None-clause-only : goal.returns-in-None-clause-only
returns-in-None-clause-only c job asks =
    let none = value_of c.args.matches.now (codes "log") None c.in-None.ensures in
    let flags = no_flags (rows_of (found_of c.args.matches.now)) job none asks in
    absurd (true≢false (sym c.if-has_flag.true ∙ c.has_flag.ensures.1 flags))

pub returns-in-None-2-clause-asked : goal.returns-in-None-2-clause-asked
returns-in-None-2-clause-asked c = (
  c.requires,
  (
    value_of c.args.matches.now (codes "log") None c.in-None-2.ensures,
    c.has_flag.ensures.0 c.if-has_flag.false,
  ),
)
