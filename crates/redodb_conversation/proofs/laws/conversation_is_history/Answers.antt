use Rattle.redodb_conversation.specs.Talks.{lines_after}
use Rattle.redodb_conversation.proofs.LawfulHistories.{history_text}
use Rattle.redodb_conversation.proofs.LawfulTalks.{all_logged}
use Rattle.redodb_conversation.proofs.laws.conversation_is_history.Goals as goal

pub returns : goal.returns
returns c keeping version former rounds rest input input_after done talk few =
    history_text (lines_after former rounds)
    (all_logged keeping version former rounds rest input input_after done talk) few
