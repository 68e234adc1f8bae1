-- A text is the history of at most one list of names and lines.
use Rattle.std.proofs.Common.{◌≡◌, List, [], ◌++◌, length, sym, ap, ◌∙◌, arith, append_assoc, append-nil, length-append}
use Rattle.std.specs.List.{flat_map}
use Rattle.std.proofs.lemmas.List.{nil_from_length}
use Rattle.redodb_model.specs.Names.{Text}
use Rattle.redodb_model.specs.History.{Line}
use Rattle.redodb_text.specs.Grammar.{with_names}
use Rattle.redodb_history.specs.Histories.{ended, header_of}
use Rattle.redodb_history.specs.HistoryTexts.{IsHistory, AreNamesOf, names_in_line}
use Rattle.redodb_history.proofs.HistoryLines.{one_header, lines_prefix}

pub same_lines : (a b others : List (Line Text)) → length a ≡ length b → b ≡ a ++ others → a ≡ b
same_lines a b others long whole =
    let none : others ≡ [] =
    nil_from_length others (omega (arith, ap length whole, length-append a others)) in
    sym (append-nil a) ∙ ap (λ (l : List (Line Text)). a ++ l) (sym none) ∙ sym whole

pub same_names : (n m : List Text) (a b : List (Line Text))
    → a ≡ b → AreNamesOf a n → AreNamesOf b m
    → n ≡ m
same_names n m a b lines p q =
    p.0 ∙ ap (λ (l : List (Line Text)). with_names [] (flat_map names_in_line l)) lines ∙ sym q.0

pub one_history : (input : Text) (n m : List Text) (a b : List (Line Text)) → IsHistory input n a
    → IsHistory input m b → (n ≡ m) × (a ≡ b)
one_history input n m a b p q =
    let header = one_header (length a) (length b) (flat_map ended p.texts ++ p.rest)
    (flat_map ended q.texts ++ q.rest) p.few q.few
    (sym (append_assoc (header_of (length a)) (flat_map ended p.texts) p.rest) ∙ sym p.parts
    ∙ q.parts ∙ append_assoc (header_of (length b)) (flat_map ended q.texts) q.rest) in
    let long : length a ≡ length b = header.0 in
    let prefix = lines_prefix p.texts q.texts a b p.rest q.rest p.read.each q.read.each
    (omega arith)
    header.1 in
    let lines = same_lines a b prefix.others long prefix.whole in
    (same_names n m a b lines p.read.named q.read.named, lines)
