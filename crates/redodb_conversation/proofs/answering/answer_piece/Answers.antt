use Rattle.std.proofs.Common.{◌≡◌, ◌++◌, ◌∙◌, length, arith}
use Rattle.std.proofs.lemmas.Grind.{common_steps}
use Rattle.redodb_conversation.proofs.Prefixes.{received_at_once, received_behind}
use Rattle.redodb_conversation.proofs.Outcomes.{on_err, ok_then, err_then}
use Rattle.redodb_conversation.proofs.answering.answer_piece.Goals as goal

pub returns-then-is_empty-clause-talk : goal.returns-then-is_empty-clause-talk
returns-then-is_empty-clause-talk g c =
    ok_then c.answer_line.result _ _ c.answer_line.ensures.talk (λ talk begun more is.
    let none : length c.args.prefix.now.items ≡ 0 = grind (arith, common_steps) in
    talk (begun ++ c.args.piece.now) more
    (received_at_once begun c.args.prefix.now.items c.args.piece.now is c.requires.free none))

pub returns-then-is_empty-clause-broken : goal.returns-then-is_empty-clause-broken
returns-then-is_empty-clause-broken g c =
    err_then c.answer_line.result _ _ c.answer_line.ensures.broken (λ broken begun more is.
    let none : length c.args.prefix.now.items ≡ 0 = grind (arith, common_steps) in
    broken (begun ++ c.args.piece.now) more
    (received_at_once begun c.args.prefix.now.items c.args.piece.now is c.requires.free none))

pub returns-in_err-answer_line-clause-broken : goal.returns-in_err-answer_line-clause-broken
returns-in_err-answer_line-clause-broken g c =
    on_err c.from_residual.result _ (λ begun more is.
    c.in_err-answer_line.ensures.broken (begun ++ c.args.piece.now) more
    (received_behind begun c.args.prefix.now.items c.args.piece.now c.deref.result.now is
    c.requires.free (c.deref.ensures.value ∙ c.keep.ensures.kept)))

pub returns-clause-talk : goal.returns-clause-talk
returns-clause-talk g c = λ begun more is.
    c.in_ok-answer_line.ensures.talk (begun ++ c.args.piece.now) more
    (received_behind begun c.args.prefix.now.items c.args.piece.now c.deref.result.now is
    c.requires.free (c.deref.ensures.value ∙ c.keep.ensures.kept))
