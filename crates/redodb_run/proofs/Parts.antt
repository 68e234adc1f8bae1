-- The lines of one session.
use Rattle.std.proofs.Common.{◌≡◌, cond, List, [], ◌∷◌, refl, ap, ◌∙◌}
use Rattle.std.specs.List.{AllByRecursion}
use Rattle.std.proofs.lemmas.Bool.{eq-eqb}
use Rattle.redodb_model.specs.History.{part_of}
use Rattle.redodb_model.specs.History as histories

-- if all lines are of session 0, they are its part
pub whole_part : {N : Type 0} (lines : List (histories.Line N))
    → AllByRecursion (λ line. line.session ≡ 0) lines → part_of 0 lines ≡ lines
whole_part [] h = refl
whole_part (line ∷ lines) h = ap (λ b. cond b (line ∷ part_of 0 lines) (part_of 0 lines))
    (eq-eqb line.session 0 h.0) ∙ ap (λ ls. line ∷ ls) (whole_part lines h.1)
