use Rattle.std.proofs.Common.{◌≡◌, ℕ, Bool, List, Option, rules, sym, ap, ◌∙◌, ◌==◌}
use Rattle.std.specs.Prelude.{find}
use Rattle.std.specs.List.{list_any}
use Rattle.redodb_model.specs.Reply.{Refusal, Itself}
use Rattle.redodb_model.specs.State.{has_file}
use Rattle.redodb_model.specs.Step.{refusal_or, refusal_of_existing}
use Rattle.redodb_database.specs.Tables.{tables_records}
use Rattle.redodb_database.proofs.redo.Redo.refusal_of_names.Goals as goal

-- by the test for the target
by_target : (t : ℕ) (names : List ℕ) (is_among found : Bool) (rest : Option (Refusal ℕ))
    → is_among ≡ list_any (λ m. m == t) names → is_among ≡ found
    → refusal_or found Itself rest ≡ refusal_or (list_any (λ m. m == t) names) Itself rest
by_target t names is_among found rest tested is =
    ap (λ (b : Bool). refusal_or b Itself rest) (sym is ∙ tested)

pub returns-then-is_among : goal.returns-then-is_among
returns-then-is_among c =
    let t = c.in-IfChange.field-0 in
    let names = c.in-IfChange.field-1.items in
    let tested : c.is_among.result ≡ list_any (λ m. m == t) names = search rules in
    rw c.in-IfChange.is (by_target t names c.is_among.result _ _ tested c.if-is_among.true)

pub returns-else-is_among : goal.returns-else-is_among
returns-else-is_among c =
    let t = c.in-IfChange.field-0 in
    let names = c.in-IfChange.field-1.items in
    let tested : c.is_among.result ≡ list_any (λ m. m == t) names = search rules in
    rw c.in-IfChange.is (by_target t names c.is_among.result _ _ tested c.if-is_among.false)

pub returns-then-is_among-2 : goal.returns-then-is_among-2
returns-then-is_among-2 c =
    let t = c.in-IfCreate.field-0 in
    let names = c.in-IfCreate.field-1.items in
    let tested : c.is_among-in-IfCreate.result ≡ list_any (λ m. m == t) names = search rules in
    rw c.in-IfCreate.is
    (by_target t names c.is_among-in-IfCreate.result _ _ tested c.if-is_among-2.true)

pub returns-in-Some : goal.returns-in-Some
returns-in-Some c =
    let t = c.in-IfCreate.field-0 in
    let names = c.in-IfCreate.field-1.items in
    let tested : c.is_among-in-IfCreate.result ≡ list_any (λ m. m == t) names = search rules in
    let existing : c.existing.result ≡ find (has_file (tables_records c.args.self.now)) names =
    search rules in
    let found = ap refusal_of_existing (sym c.in-Some.is ∙ existing) in
    rw c.in-IfCreate.is
    (found ∙ by_target t names c.is_among-in-IfCreate.result _ _ tested c.if-is_among-2.false)

pub returns-in_default : goal.returns-in_default
returns-in_default c =
    let t = c.in-IfCreate.field-0 in
    let names = c.in-IfCreate.field-1.items in
    let tested : c.is_among-in-IfCreate.result ≡ list_any (λ m. m == t) names = search rules in
    let existing : c.existing.result ≡ find (has_file (tables_records c.args.self.now)) names =
    search rules in
    let found = ap refusal_of_existing (sym c.in_default.is ∙ existing) in
    rw c.in-IfCreate.is
    (found ∙ by_target t names c.is_among-in-IfCreate.result _ _ tested c.if-is_among-2.false)
