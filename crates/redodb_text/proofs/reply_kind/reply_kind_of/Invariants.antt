use Rattle.std.proofs.Common.{◌≡◌, drop}
use Rattle.std.specs.Prelude.{bytes_eq, find}
use Rattle.redodb_text.specs.Support.ReplyReading.{reply_word, all_reply_kinds, reply_kind_named}
use Rattle.redodb_text.proofs.reply_kind.reply_kind_of.Given as goal

abbrev pub invariant-loop-kind : goal.invariant-loop-kind
invariant-loop-kind l =
    reply_kind_named l.word
    ≡ find (λ kind. bytes_eq l.word (reply_word kind)) (drop l.kind-index all_reply_kinds)
