-- The beginning of a text that is a first line and the bytes that it counts.
use Rattle.std.proofs.Common.{◌≡◌, ◌≤◌, ◌∙◌, ◌+◌, List, [], ◌∷◌, ◌++◌, length, take, sym, ap, append_assoc, length-append, arith}
use Rattle.std.proofs.lemmas.List.{take-append-le, take_all}
use Rattle.redodb_model.specs.Names.{Text}
use Rattle.redodb_dump.specs.Dumps.{state_line}

-- how long the line with its LF and the bytes are
pub size_of_both : (line body head : Text) → line ++ 10 ∷ [] ≡ head
    → length line + 1 + length body ≡ length (head ++ body)
size_of_both line body head is =
    let both = length-append head body in
    let begins = ap length is in
    let first = length-append line (10 ∷ []) in
    omega (arith, both, begins, first)

-- they are what the text begins with
pub taken : (line body rest head : Text) → line ++ 10 ∷ [] ≡ head
    → take (length line + 1 + length body) (line ++ 10 ∷ body ++ rest) ≡ head ++ body
taken line body rest head is =
    let both = head ++ body in
    ap (λ n. take n (line ++ 10 ∷ body ++ rest)) (size_of_both line body head is)
    ∙ ap (λ (t : Text). take (length both) (t ++ rest)) whole
    ∙ take-append-le (length both) both rest (omega arith)
    ∙ take_all (length both) both (omega arith)
  where
    whole : line ++ 10 ∷ body ≡ head ++ body
    whole = sym (append_assoc line (10 ∷ []) body) ∙ ap (λ (t : Text). t ++ body) is

-- they are no longer than the text
pub both_within : (line body rest text : Text) → text ≡ line ++ 10 ∷ body ++ rest
    → length line + 1 + length body ≤ length text
both_within line body rest text is =
    let long = ap length is in
    let first = length-append (line ++ 10 ∷ body) rest in
    let next = length-append line (10 ∷ body) in
    omega (arith, long, first, next)

pub body_within : (names : List Text) (body rest text : Text)
    → text ≡ (state_line names body ++ body) ++ rest → length body ≤ length text
body_within names body rest text is =
    let long = ap length is in
    let first = length-append (state_line names body ++ body) rest in
    let next = length-append (state_line names body) body in
    omega (arith, long, first, next)
