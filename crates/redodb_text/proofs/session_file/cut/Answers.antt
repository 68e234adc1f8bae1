use Rattle.std.proofs.Common.{◌≡◌, ◌+◌, ◌-◌, ◌<◌, ◌∷◌, ◌==◌, List, ℕ, length, take, drop, length-drop, sym, ap, ◌∙◌, arith}
use Rattle.std.proofs.lemmas.List.{take_all}
use Rattle.redodb_text.specs.Grammar.{lines_of}
use Rattle.redodb_text.proofs.Lines.{cut_some, cut_none}
use Rattle.redodb_text.proofs.session_file.cut.Goals as goal

pub returns-in-Some : goal.returns-in-Some
returns-in-Some c =
    let text = c.args.text.now in
    let end = c.in-Some.end in
    let h = cut_some (λ b. b == 10) text end (sym c.in-Some.ensures) in
    let rest : take (length text - (end + 1)) (drop (end + 1) text) ≡ drop (end + 1) text =
    take_all (length text - (end + 1)) (drop (end + 1) text)
    (omega (arith, length-drop (end + 1) text)) in
    let lt : end < length text = h.1 in (
      h.0 ∙ ap (λ (r : List ℕ). take end text ∷ lines_of r) (sym rest),
      omega (arith, ap length rest, length-drop (end + 1) text, lt),
    )

pub returns-in-None : goal.returns-in-None
returns-in-None c = cut_none (λ b. b == 10) c.args.text.now (sym c.in-None.ensures)
