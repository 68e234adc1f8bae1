use Rattle.std.proofs.Common.{sym, ap, arith}
use Rattle.redodb_history_laws.specs.RowWord.{session_of}
use Rattle.redodb_history_laws.proofs.Decoding.{line_is, closing_is}
use Rattle.redodb_history_laws.proofs.row_word.RowWord.decode.Goals as goal

pub overflow_cast-result : goal.overflow_cast-result
overflow_cast-result c =
    omega (arith, ap session_of (closing_is c.args.word c.if-word-ge-CLOSING.true), c.requires.few)

pub returns-then-word-ge-CLOSING : goal.returns-then-word-ge-CLOSING
returns-then-word-ge-CLOSING c = sym (closing_is c.args.word c.if-word-ge-CLOSING.true)

pub overflow_cast-result-2 : goal.overflow_cast-result-2
overflow_cast-result-2 c =
    omega (arith, ap session_of (line_is c.args.word c.if-word-ge-CLOSING.false), c.requires.few)

pub returns : goal.returns
returns c = sym (line_is c.args.word c.if-word-ge-CLOSING.false)
