use Rattle.std.proofs.Common.{◌≡◌, ◌∙◌, sym, inl}
use Rattle.redodb_live.specs.Support.LiveState.{state_in}
use Rattle.redodb_dump.specs.Dumps.{IsLoadFault, body_of, state_line}
use Rattle.redodb_dump.proofs.Failing.{if_err_then}
use Rattle.redodb_dump.proofs.LoadFaults.{fault_told}
use Rattle.redodb_dump.proofs.loaded.load.Goals as goal

pub returns-in_default-clause-fault : goal.returns-in_default-clause-fault
returns-in_default-clause-fault c = λ names st rest is whole.
    c.in_default.ensures.only names (body_of names st) rest is.over.are_names.few whole

pub returns-in_err-live-clause-fault : goal.returns-in_err-live-clause-fault
returns-in_err-live-clause-fault c =
    if_err_then c.from_residual.result c.in_err-live.field-0.0 (IsLoadFault c.args.text.now)
    c.from_residual.ensures.1
    (fault_told c.in_err-live.field-0.0 c.args.text.now (λ names st rest is whole.
    let few = is.over.are_names.few in
    let parts = c.in-Some.ensures.only names (body_of names st) rest few whole in
    c.in_err-live.ensures.only names st is (sym parts.1) parts.2))

pub returns-in_err-check_body-clause-fault : goal.returns-in_err-check_body-clause-fault
returns-in_err-check_body-clause-fault c =
    if_err_then c.from_residual-in_err-check_body.result c.in_err-check_body.field-0.0
    (IsLoadFault c.args.text.now) c.from_residual-in_err-check_body.ensures.1
    (fault_told c.in_err-check_body.field-0.0 c.args.text.now (λ names st rest is whole.
    let few = is.over.are_names.few in
    let parts = c.in-Some.ensures.only names (body_of names st) rest few whole in
    let live = c.in_ok-live.live in
    let both = c.in_ok-live.ensures.only names st is (sym parts.1) parts.2 in
    let body : c.in-Some.parts.body.now ≡ body_of live.names (state_in live) =
    parts.2 ∙ (λ i. body_of (sym both.0 i) (sym both.1 i)) in
    inl (c.in_err-check_body.ensures.only body)))

pub returns-in_err-check_head-clause-fault : goal.returns-in_err-check_head-clause-fault
returns-in_err-check_head-clause-fault c =
    if_err_then c.from_residual-in_err-check_head.result c.in_err-check_head.field-0.0
    (IsLoadFault c.args.text.now) c.from_residual-in_err-check_head.ensures.1
    (fault_told c.in_err-check_head.field-0.0 c.args.text.now (λ names st rest is whole.
    let few = is.over.are_names.few in
    let parts = c.in-Some.ensures.only names (body_of names st) rest few whole in
    let live = c.in_ok-live.live in
    let both = c.in_ok-live.ensures.only names st is (sym parts.1) parts.2 in
    let body : c.in-Some.parts.body.now ≡ body_of live.names (state_in live) =
    parts.2 ∙ (λ i. body_of (sym both.0 i) (sym both.1 i)) in
    inl (c.in_err-check_head.ensures.only
    (parts.0 ∙ (λ i. state_line (sym both.0 i) (sym parts.2 i))))))
