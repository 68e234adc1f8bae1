use Rattle.std.proofs.Common.{◌≡◌, ◌∙◌, ◌<◌, ◌^◌, List, Some, [], ◌∷◌, ◌++◌, length, take, drop, sym, ap, arith, append_assoc, length-append}
use Rattle.std.specs.Prelude.{codes, decimal}
use Rattle.std.proofs.lemmas.List.{take-append-drop, take-append-le, take_all}
use Rattle.hex.specs.Hex.{encode_lower}
use Rattle.redodb_model.specs.Names.{Text}
use Rattle.redodb_text.specs.Texts.{spaced}
use Rattle.redodb_history.specs.Histories.{ended}
use Rattle.redodb_dump.specs.Dumps.{state_line, sum_of}
use Rattle.redodb_dump.proofs.DumpWords.{number_is_word, same_number}
use Rattle.redodb_dump.proofs.OneDump.{head_are_words, head_words, state_is_word}
use Rattle.redodb_dump.proofs.Pieces.{line_is_free}
use Rattle.redodb_dump.proofs.ReadCells.{is_none}
use Rattle.redodb_dump.proofs.ReadLines.{line_cut, line_there}
use Rattle.redodb_dump.proofs.ReadWords.{cut_word}
use Rattle.redodb_dump.proofs.Taken.{body_within}
use Rattle.redodb_dump.proofs.loaded.cut.Goals as goal
use Rattle.redodb_dump.proofs.loaded.cut.Goals.{After-cut_at_space, After-cut_at_space-3}

-- the first line of a dump that a text begins with, and what follows it
line_is : (c : After-cut_at_space) (names : List Text) (body rest : Text) → length names < 2 ^ 32
    → c.args.text.now ≡ (state_line names body ++ body) ++ rest
    → (c.in_ok-line.line.now ≡ spaced (codes "state") (head_words names body))
    × (c.in_ok-line.after.now ≡ body ++ rest)
line_is c names body rest few whole =
    let small : length c.args.text.now < 2 ^ 64 = omega arith in
    let short = body_within names body rest c.args.text.now whole in
    let line = spaced (codes "state") (head_words names body) in
    line_cut line (body ++ rest) c.args.text.now c.in_ok-line.line.now c.in_ok-line.after.now
    (line_is_free (codes "state") (head_words names body) state_is_word
    (head_are_words names body few (omega (arith, small, short))))
    (whole ∙ append_assoc (ended line) body rest) c.in_ok-line.ensures

-- the words of that line
words_are : (c : After-cut_at_space-3) (names : List Text) (body rest : Text)
    → length names < 2 ^ 32 → length body < 2 ^ 64
    → c.in_ok-line.line.now ≡ spaced (codes "state") (head_words names body)
    → (c.cut_at_space-2.result.0.now ≡ decimal (length names))
    × (c.cut_at_space-3.result.0.now ≡ decimal (length body))
words_are c names body rest few short is =
    let sum = encode_lower (sum_of names body) in
    let first =
    cut_word (codes "state") (head_words names body) c.in_ok-line.line.now
    c.cut_at_space.result.0.now c.cut_at_space.result.1.now state_is_word is
    c.cut_at_space.ensures in
    let second =
    cut_word (decimal (length names)) (decimal (length body) ∷ sum ∷ [])
    c.cut_at_space.result.1.now c.cut_at_space-2.result.0.now c.cut_at_space-2.result.1.now
    (number_is_word (length names) (omega (arith, few))) first.1 c.cut_at_space-2.ensures in
    let third =
    cut_word (decimal (length body)) (sum ∷ []) c.cut_at_space-2.result.1.now
    c.cut_at_space-3.result.0.now c.cut_at_space-3.result.1.now
    (number_is_word (length body) (omega (arith, short))) second.1 c.cut_at_space-3.ensures in
    (second.0, third.0)

short_body : (c : After-cut_at_space) (names : List Text) (body rest : Text)
    → c.args.text.now ≡ (state_line names body ++ body) ++ rest → length body < 2 ^ 64
short_body c names body rest whole =
    let small : length c.args.text.now < 2 ^ 64 = omega arith in
    let short = body_within names body rest c.args.text.now whole in omega (arith, small, short)

pub returns-clause-parts : goal.returns-clause-parts
returns-clause-parts c =
    let bytes = c.in_ok-bytes.bytes in
    let after : Text = c.in_ok-line.after.now in
    let line : Text = c.in_ok-line.line.now in (
      drop bytes after,
      c.in_ok-line.ensures.0
          ∙ ap (λ (t : Text). line ++ 10 ∷ t) (sym (take-append-drop bytes after))
          ∙ sym (append_assoc line (10 ∷ take bytes after) (drop bytes after)),
    )

pub returns-in_err-line-clause-only : goal.returns-in_err-line-clause-only
returns-in_err-line-clause-only c = λ names body rest few whole.
    let line = spaced (codes "state") (head_words names body) in
    absurd (line_there line (body ++ rest) c.args.text.now
    (whole ∙ append_assoc (ended line) body rest) c.in_err-line.ensures)

pub returns-in_err-names-clause-only : goal.returns-in_err-names-clause-only
returns-in_err-names-clause-only c = λ names body rest few whole.
    let at = goal.at.returns-in_err-names-clause-only c in
    let is = line_is at.After-cut_at_space names body rest few whole in
    let short = short_body at.After-cut_at_space names body rest whole in
    let words = words_are at.After-cut_at_space-3 names body rest few short is.0 in
    absurd (c.in_err-names.ensures (length names) (omega (arith, few)) words.0)

pub returns-in_err-bytes-clause-only : goal.returns-in_err-bytes-clause-only
returns-in_err-bytes-clause-only c = λ names body rest few whole.
    let at = goal.at.returns-in_err-bytes-clause-only c in
    let is = line_is at.After-cut_at_space names body rest few whole in
    let short = short_body at.After-cut_at_space names body rest whole in
    let words = words_are at.After-cut_at_space-3 names body rest few short is.0 in
    is_none (c.in_err-bytes.ensures (length body) short words.1)

pub returns-then-bytes-after-clause-only : goal.returns-then-bytes-after-clause-only
returns-then-bytes-after-clause-only c = λ names body rest few whole.
    let at = goal.at.returns-then-bytes-after-clause-only c in
    let is = line_is at.After-cut_at_space names body rest few whole in
    let short = short_body at.After-cut_at_space names body rest whole in
    let words = words_are at.After-cut_at_space-3 names body rest few short is.0 in
    let found : Some c.in_ok-bytes.bytes ≡ Some (length body) =
    c.in_ok-bytes.ensures (length body) short words.1 in
    let size : c.in_ok-bytes.bytes ≡ length body = cc in
    let long = ap length is.1 in
    absurd (omega (arith, long, size, length-append body rest))

pub returns-clause-only : goal.returns-clause-only
returns-clause-only c = λ names body rest few whole.
    let at = goal.at.returns-clause-only c in
    let is = line_is at.After-cut_at_space names body rest few whole in
    let short = short_body at.After-cut_at_space names body rest whole in
    let words = words_are at.After-cut_at_space-3 names body rest few short is.0 in
    let found : Some c.in_ok-bytes.bytes ≡ Some (length body) =
    c.in_ok-bytes.ensures (length body) short words.1 in
    let size : c.in_ok-bytes.bytes ≡ length body = cc in
    let small : c.in_ok-names.names < 2 ^ 32 = omega arith in (
      ap (λ (t : Text). t ++ 10 ∷ []) is.0,
      same_number c.in_ok-names.names (length names) (omega arith) (omega (arith, few))
          (sym c.in_ok-names.ensures ∙ words.0),
      (λ i. take (size i) (is.1 i))
          ∙ take-append-le (length body) body rest (omega arith)
          ∙ take_all (length body) body (omega arith),
    )
