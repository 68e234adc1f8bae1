use Rattle.std.proofs.Common.{[]}
use Rattle.redodb_model.specs.Names.{numbers, texts}
use Rattle.redodb_model.proofs.Texts.{texts_are_names}
use Rattle.redodb_history_laws.proofs.EndMore.{row_words_more, claim_words_more}
use Rattle.redodb_history_laws.proofs.Orders.{placed_less}
use Rattle.redodb_history_laws.proofs.words.words_by_one_more.Goals as goal

pub returns-clause-rows : goal.returns-clause-rows
returns-clause-rows c order plan = row_words_more (numbers order) plan

pub returns-clause-claims : goal.returns-clause-claims
returns-clause-claims c order lines line t law placed =
    let h = placed_less (numbers order) [] lines line placed in
    claim_words_more law lines line placed h.0 h.2 t

pub returns-clause-claims_on_texts : goal.returns-clause-claims_on_texts
returns-clause-claims_on_texts c lines line t placed =
    let h = placed_less texts [] lines line placed in
    claim_words_more texts_are_names lines line placed h.0 h.2 t
