use Rattle.std.proofs.Common.{refl, subst}
use Rattle.redodb_keeping.specs.Rounds.{Asks}
use Rattle.redodb_conversation.proofs.Outcomes.{ok_then, if_err_then}
use Rattle.redodb_conversation.proofs.RoundReplied.{answered_round, ended_round, inquired_round, listed_round, undone_end, undone_names, undone_inquiry, undone_command, undone_fault}
use Rattle.redodb_conversation.proofs.replying.respond_within.Goals as goal

pub returns-in-Ok-End-clause-answered : goal.returns-in-Ok-End-clause-answered
returns-in-Ok-End-clause-answered c =
    let is_end = rw c.in-Ok-End.field-0-is at c.in-Ok-End.ensures in
    ok_then c.end_within.result _ _ c.end_within.ensures.ended (λ is received asks.
    ended_round c.args.live.now received c.args.session c.end_within.new.self
    c.args.output.now.items c.end_within.new.output.items c.args.logged.now.items
    c.end_within.new.logged.items is
    (subst (Asks received c.args.session) is_end asks))

pub returns-in-Ok-End-clause-cause : goal.returns-in-Ok-End-clause-cause
returns-in-Ok-End-clause-cause c =
    let is_end = rw c.in-Ok-End.field-0-is at c.in-Ok-End.ensures in
    if_err_then c.end_within.result _ _ c.end_within.ensures.cause (λ why.
    undone_end c.args.live.now c.args.session c.args.text.now c.args.most why is_end)

pub returns-in-Ok-Names-clause-answered : goal.returns-in-Ok-Names-clause-answered
returns-in-Ok-Names-clause-answered c =
    let is_names = rw c.in-Ok-Names.field-0-is at c.in-Ok-Names.ensures in
    ok_then c.list_names.result _ _ c.list_names.ensures.answered (λ e received asks.
    listed_round c.args.live.now received c.args.session c.args.live.now
    (record { state = refl; names = refl; calls = refl }) c.args.output.now.items
    c.list_names.new.output.items c.args.logged.now.items
    (subst (Asks received c.args.session) is_names asks) e)

pub returns-in-Ok-Names-clause-cause : goal.returns-in-Ok-Names-clause-cause
returns-in-Ok-Names-clause-cause c =
    let is_names = rw c.in-Ok-Names.field-0-is at c.in-Ok-Names.ensures in
    if_err_then c.list_names.result _ _ c.list_names.ensures.cause (λ why.
    undone_names c.args.live.now c.args.session c.args.text.now c.args.most why is_names)

pub returns-in-Ok-Inquiry-clause-answered : goal.returns-in-Ok-Inquiry-clause-answered
returns-in-Ok-Inquiry-clause-answered c =
    let asks_it = rw c.in-Ok-Inquiry.field-0-is at c.in-Ok-Inquiry.ensures in
    ok_then c.ask_within.result _ _ c.ask_within.ensures.answered (λ answer received asks.
    inquired_round c.args.live.now received c.args.session c.ask_within.new.live
    c.ask_within.ensures.known c.args.text.now c.in-Ok-Inquiry.inquiry c.in-Ok-Inquiry.name.now
    answer.0 c.args.output.now.items c.ask_within.new.output.items c.args.logged.now.items asks
    asks_it.0 asks_it.1 answer.1 answer.2)

pub returns-in-Ok-Inquiry-clause-cause : goal.returns-in-Ok-Inquiry-clause-cause
returns-in-Ok-Inquiry-clause-cause c =
    let asks_it = rw c.in-Ok-Inquiry.field-0-is at c.in-Ok-Inquiry.ensures in
    if_err_then c.ask_within.result _ _ c.ask_within.ensures.cause (λ why.
    undone_inquiry c.args.live.now c.args.session c.args.text.now c.args.most
    c.in-Ok-Inquiry.inquiry c.in-Ok-Inquiry.name why asks_it)

pub returns-in-Ok-Command-clause-answered : goal.returns-in-Ok-Command-clause-answered
returns-in-Ok-Command-clause-answered c =
    ok_then c.answer_within.result _ _ c.answer_within.ensures.answered (λ is received asks.
    answered_round c.args.live.now received c.args.session c.answer_within.new.self c.args.text.now
    c.args.output.now.items c.answer_within.new.output.items c.args.logged.now.items
    c.answer_within.new.logged.items is asks)

pub returns-in-Ok-Command-clause-cause : goal.returns-in-Ok-Command-clause-cause
returns-in-Ok-Command-clause-cause c =
    let is_command = rw c.in-Ok-Command.field-0-is at c.in-Ok-Command.ensures in
    if_err_then c.answer_within.result _ _ c.answer_within.ensures.cause (λ why.
    undone_command c.args.live.now c.args.session c.args.text.now c.args.most why is_command)

pub returns-in-Err-clause-cause : goal.returns-in-Err-clause-cause
returns-in-Err-clause-cause c =
    undone_fault c.args.live.now c.args.text.now c.in-Err.fault c.in-Err.ensures
