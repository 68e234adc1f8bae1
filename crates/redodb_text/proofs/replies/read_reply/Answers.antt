use Rattle.std.proofs.Common.{rules, ◌≡◌, List, Err, sym, ap, ◌∙◌, inr}
use Rattle.redodb_model.specs.Names.{Text}
use Rattle.redodb_model.specs.Reply.{Reply}
use Rattle.redodb_text.specs.Support.ReplyReading.{reply_in}
use Rattle.redodb_text.proofs.RepliesFound.{reply_found}
use Rattle.redodb_text.proofs.RepliesRead.{reply_only, reply_has_no_fault}
use Rattle.redodb_text.proofs.Steps.{same_given}
use Rattle.redodb_text.proofs.replies.read_reply.Goals as goal

pub returns-in-Ok-clause-read : goal.returns-in-Ok-clause-read
returns-in-Ok-clause-read c = reply_found c.args.names.now c.args.text.now _ _ c.in-Ok.ensures.reads

pub returns-in-Ok-clause-only : goal.returns-in-Ok-clause-only
returns-in-Ok-clause-only c reply after is adds =
    let same =
    same_given _ _
    (sym c.in-Ok.ensures.reads ∙ reply_only c.args.names.now c.args.text.now reply after is adds) in
    inr (
      ap (λ (x : Reply Text × List Text). x.0) same,
      ap (λ (x : Reply Text × List Text). x.1) same,
    )

pub returns-in-Err-Fault-clause-only : goal.returns-in-Err-Fault-clause-only
returns-in-Err-Fault-clause-only c reply after is adds =
    let fails : reply_in c.args.most c.args.names.now c.args.text.now
    ≡ Err c.in-Err-Fault.field-0-0 =
    search rules in
    absurd (reply_has_no_fault c.args.names.now c.args.text.now reply after c.in-Err-Fault.field-0-0
    is adds fails)
