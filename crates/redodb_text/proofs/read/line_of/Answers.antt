use Rattle.std.proofs.Common.{arith, sym, ◌∙◌}
use Rattle.std.proofs.lemmas.Bool.{false≢true}
use Rattle.redodb_text.proofs.LineLaws.{good_line, line_read}
use Rattle.redodb_text.proofs.read.line_of.Goals as goal

pub returns-in-Ok-clause-reads : goal.returns-in-Ok-clause-reads
returns-in-Ok-clause-reads c =
    line_read c.args.names.now c.args.line.now _ _ c.requires.few (omega arith)
    c.in-Ok.ensures.reads

pub returns-in-Ok-clause-bad_byte : goal.returns-in-Ok-clause-bad_byte
returns-in-Ok-clause-bad_byte c = λ short bad. absurd (false≢true (sym
    (good_line c.args.names.now c.args.line.now _ _ c.requires.few c.in-Ok.ensures.reads)
    ∙ bad))
