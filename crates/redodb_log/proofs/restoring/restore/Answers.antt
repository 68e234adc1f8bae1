use Rattle.std.proofs.Common.{◌≡◌, ◌++◌, inl, inr, refl, ◌∙◌, true, arith}
use Rattle.std.specs.Prelude.{◌≢◌}
use Rattle.std.proofs.lemmas.Bool.Decides.{Decides-eqb}
use Rattle.std.proofs.lemmas.Slice.Eq.{strip_prefix_is, starts_is}
use Rattle.redodb_model.specs.Names.{Text}
use Rattle.redodb_log.specs.Logs.{header_words, log_header, dump_header, Past, HasPast}
use Rattle.redodb_log.specs.Support.Steps.{BeginsAfter}
use Rattle.redodb_log.proofs.Dumped.{begins_plain, err_later, has_past, ok_later, no_one, other_has_none, torn_has_none, torn_is_none}
use Rattle.redodb_log.proofs.restoring.restore.Goals as goal

begins : (c : goal.After-restore_lines) (past : Past) → HasPast past c.args.log.now
    → BeginsAfter past c.args.log.now c.in-Some.lines.now c.in_ok-new.field-0
begins c =
    let header = strip_prefix_is Decides-eqb c.args.log.now log_header c.strip_prefix.result
    c.strip_prefix.ensures.cases in
    begins_plain c.args.log.now c.in-Some.lines.now c.in_ok-new.field-0
    (rw c.in-Some.is at header) c.in_ok-new.ensures.names c.in_ok-new.ensures.state
    c.in_ok-new.ensures.calls

pub returns-in-Some-clause-restored : goal.returns-in-Some-clause-restored
returns-in-Some-clause-restored c =
    ok_later c.restore_lines.result _ _
    (λ restored h past has. inl (h past (begins c past has))) c.restore_lines.ensures.restored

pub returns-in-Some-clause-only : goal.returns-in-Some-clause-only
returns-in-Some-clause-only c past lines torn is =
    c.restore_lines.ensures.only past lines torn
    (begins c past (has_past past c.args.log.now torn lines is)) is

pub returns-in-Some-clause-same : goal.returns-in-Some-clause-same
returns-in-Some-clause-same c past lines torn is =
    c.restore_lines.ensures.same past lines torn
    (begins c past (has_past past c.args.log.now torn lines is)) is

pub returns-in-Some-clause-cause : goal.returns-in-Some-clause-cause
returns-in-Some-clause-cause c =
    err_later c.restore_lines.result _ _
    (λ fault h past has. h past (begins c past has)) c.restore_lines.ensures.cause

pub restore_dumped-requires : goal.restore_dumped-requires
restore_dumped-requires c =
    let header = strip_prefix_is Decides-eqb c.args.log.now dump_header c.strip_prefix-2.result
    c.strip_prefix-2.ensures.cases in rw c.in-Some-strip_prefix.is at header

pub returns-in-Some-strip_prefix-clause-begun : goal.returns-in-Some-strip_prefix-clause-begun
returns-in-Some-strip_prefix-clause-begun c (more, torn) =
    let header = strip_prefix_is Decides-eqb c.args.log.now dump_header c.strip_prefix-2.result
    c.strip_prefix-2.ensures.cases in
    let begins : c.args.log.now ≡ dump_header ++ c.in-Some-strip_prefix.text.now =
    rw c.in-Some-strip_prefix.is at header in
    absurd (no_one
    (let same : header_words ≡ dump_header ++ c.in-Some-strip_prefix.text.now ++ more =
    torn ∙ (λ i. begins i ++ more) in cc))

pub returns-then-not-starts_with-clause-begun : goal.returns-then-not-starts_with-clause-begun
returns-then-not-starts_with-clause-begun c torn =
    let starts = starts_is Decides-eqb header_words c.args.log.now c.starts_with.result
    c.starts_with.ensures.value in
    let yes : c.starts_with.result ≡ true = starts.1 torn.0 torn.1 in
    absurd (let no = c.if-not-starts_with.true in cc)

pub returns-then-not-starts_with-clause-cause : goal.returns-then-not-starts_with-clause-cause
returns-then-not-starts_with-clause-cause c past has =
    let plain = strip_prefix_is Decides-eqb c.args.log.now log_header c.strip_prefix.result
    c.strip_prefix.ensures.cases in
    let dumped = strip_prefix_is Decides-eqb c.args.log.now dump_header c.strip_prefix-2.result
    c.strip_prefix-2.ensures.cases in
    let no_dump : (rest : Text) → c.args.log.now ≢ dump_header ++ rest =
    rw c.in_default-strip_prefix.is at dumped in
    inl (
      (
        λ torn. returns-then-not-starts_with-clause-begun c torn,
        rw c.in_default.is at plain,
        no_dump,
      ),
      other_has_none past c.args.log.now no_dump has,
      refl,
      refl,
      refl,
    )

pub returns-clause-restored : goal.returns-clause-restored
returns-clause-restored c past has =
    let starts = starts_is Decides-eqb header_words c.args.log.now c.starts_with.result
    c.starts_with.ensures.value in
    let torn = starts.0 c.if-not-starts_with.false in
    inr (
      (_, torn),
      torn_has_none past c.args.log.now (_, torn) has,
      record {
        names = c.in_ok-new-2.ensures.names;
        state = c.in_ok-new-2.ensures.state;
        calls = (let none = c.in_ok-new-2.ensures.calls in omega arith);
      },
      refl,
      refl,
    )

pub returns-clause-same : goal.returns-clause-same
returns-clause-same c past lines torn is =
    let starts = starts_is Decides-eqb header_words c.args.log.now c.starts_with.result
    c.starts_with.ensures.value in
    absurd (torn_is_none past c.args.log.now torn lines (_, starts.0 c.if-not-starts_with.false) is)
