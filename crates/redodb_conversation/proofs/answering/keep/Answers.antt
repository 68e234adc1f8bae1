use Rattle.std.proofs.Common.{◌≡◌, ◌-◌, ◌++◌, ◌∙◌, length, take, arith}
use Rattle.std.proofs.lemmas.Grind.{common_steps}
use Rattle.redodb_conversation.proofs.Prefixes.{kept_behind}
use Rattle.redodb_conversation.proofs.answering.keep.Goals as goal

pub returns-clause-kept : goal.returns-clause-kept
returns-clause-kept c =
    let prefix = c.args.prefix.now.items in
    let more = take (8199 - length prefix) c.args.bytes.now in
    let is : c.extend_from_slice.new.self.items ≡ prefix ++ more = grind (arith, common_steps) in
    is ∙ kept_behind prefix c.args.bytes.now c.requires.few
