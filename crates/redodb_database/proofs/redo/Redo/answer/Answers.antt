use Rattle.std.proofs.Common.{◌≡◌, ℕ, List, subst, rules}
use Rattle.std.specs.Prelude.{IfOk}
use Rattle.std.proofs.lemmas.Result.{IfOk-weaker}
use Rattle.redodb_model.specs.Names.{by_number}
use Rattle.redodb_commands.specs.Meaning.{reply_of}
use Rattle.redodb_model.specs.Command as commands
use Rattle.redodb_model.specs.Step.{Tells}
use Rattle.redodb_database.specs.Tables.{Tables, tables_records}
use Rattle.redodb_database.proofs.redo.Redo.answer.Goals as goal

pub returns-in-IfChange-clause-tells : goal.returns-in-IfChange-clause-tells
returns-in-IfChange-clause-tells c =
    let now : Tables = c.args.self.now in
    let same : c.as_slice.result.now ≡ c.in-IfChange.field-1.items = search rules in
    let told : IfOk c.stale_reply.result (λ reply. (t : ℕ) → Tells by_number (tables_records now)
    (commands.IfChange t c.in-IfChange.field-1.items) (reply_of reply)) =
    subst (λ (ns : List ℕ). IfOk c.stale_reply.result (λ reply. (t : ℕ) → Tells by_number
    (tables_records now) (commands.IfChange t ns) (reply_of reply))) same
    c.stale_reply.ensures.tells in
    rw c.in-IfChange.is
    (IfOk-weaker c.stale_reply.result _ _ (λ reply tells. tells c.in-IfChange.field-0) told)
