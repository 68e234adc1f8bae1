-- What a round logs is a prefix of its answer.
use Rattle.std.proofs.Common.{◌≡◌, Bool, true, false, cond, [], ◌∷◌, ◌++◌, refl, sym, ap, ◌∙◌, append-nil, inl, inr}
use Rattle.redodb_model.specs.Names.{Text}
use Rattle.redodb_model.specs.History.{Line}
use Rattle.redodb_model.specs.Changes.{changes}
use Rattle.redodb_history.specs.Histories.{line_text_of}
use Rattle.redodb_live.specs.Lines.{lines_text_of}
use Rattle.redodb_keeping.specs.Rounds.{Round, end_text_of}
use Rattle.redodb_conversation.specs.Logs.{logged_of}
use Rattle.redodb_conversation.specs.Support.Replies.{LogsPrefix}
use Rattle.redodb_keeping.specs.Support.Steps.{Known, Answering, Ending, IsStep}
use Rattle.redodb_conversation.proofs.Steps.{all_change}

one_prefix : (line : Line Text) (b : Bool)
    → (rest : Text) × (line_text_of line ≡ lines_text_of (cond b (line ∷ []) [] ++ []) ++ rest)
one_prefix line true =
    ([], sym (append-nil (line_text_of line ++ []) ∙ append-nil (line_text_of line)))
one_prefix line false = (line_text_of line, refl)

answering_prefix : (old new : Known) (round : Round) → Answering old new round
    → LogsPrefix old.state round
answering_prefix old new round is =
    let line = is.line in
    let (rest, e) = one_prefix line (changes old.state.records line.command line.reply) in (
      rest,
      is.output_is ∙ e ∙ ap (λ ls. logged_of old.state ls ++ rest) (sym is.lines_are),
    )

ending_prefix : (old new : Known) (round : Round) → Ending old new round
    → LogsPrefix old.state round
ending_prefix old new round is = (
  end_text_of is.session,
  is.output_is ∙ ap (λ ls. lines_text_of ls ++ end_text_of is.session)
      (sym (all_change old.state is.session is.held round.lines is.lines_are)),
)

-- if no line was made nothing is logged
none_prefix : (old : Known) (round : Round) → round.lines ≡ [] → LogsPrefix old.state round
none_prefix old round none =
    (round.output, ap (λ ls. logged_of old.state ls ++ round.output) (sym none))

pub logs_prefix : (old new : Known) (round : Round) → IsStep old new round
    → LogsPrefix old.state round
logs_prefix old new round (inl is) = answering_prefix old new round is
logs_prefix old new round (inr (inl is)) = ending_prefix old new round is
logs_prefix old new round (inr (inr (inl is))) = none_prefix old round is.none
logs_prefix old new round (inr (inr (inr (inl is)))) = none_prefix old round is.none
logs_prefix old new round (inr (inr (inr (inr is)))) = none_prefix old round is.none
