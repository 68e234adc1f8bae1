use Rattle.std.proofs.Common.{◌∷◌, [], ap, ◌∙◌}
use Rattle.redodb_text.specs.Texts.{spaced}
use Rattle.redodb_text.proofs.Spaced.{line_is_spaced}
use Rattle.redodb_text.proofs.inquiries.read_inquiry.Goals as goal

pub returns-in-Ok : goal.returns-in-Ok
returns-in-Ok c =
    let word = c.cut_word.result.0.now in
    let name = c.in-Ok.name.now in
    let words = c.cut_word.ensures ∙ ap (λ ws. word ∷ ws) c.in-Ok.ensures.read.0 in (
      line_is_spaced c.args.line.now word (name ∷ []) words
          ∙ ap (λ w. spaced w (name ∷ [])) c.in_ok-inquiry.ensures.word,
      c.in-Ok.ensures.read.1,
    )
