-- The session and the text of a line, by its cut at the first space.
use Rattle.std.proofs.Common.{◌≡◌, ℕ, ◌+◌, ◌∷◌, ◌++◌, sym, ◌∙◌, append_assoc, arith}
use Rattle.std.specs.Prelude.{codes, decimal}
use Rattle.redodb_model.specs.Names.{Text}
use Rattle.redodb_history.specs.HistoryFaults.{IsSessionWord}
use Rattle.redodb_history.specs.Support.HistoryFaults.{IsCutAt}
use Rattle.redodb_history.proofs.TextCuts.{one_cut, no_byte_in_decimal}
use Rattle.redodb_keeping.specs.Rounds.{Asks, HasNoSession}

pub asks_at_space : (received : Text) (s : ℕ) (text : Text) → Asks received s text
    → received ≡ decimal (s + 1) ++ 32 ∷ text
asks_at_space received s text (few, parts) =
    parts ∙ append_assoc (decimal (s + 1)) (codes " ") text

pub no_number_no_session : (line word rest : Text) → IsCutAt 32 line word rest
    → ((s : ℕ) → ¬ (IsSessionWord 65535 word s)) → HasNoSession line
no_number_no_session line word rest (parts, free) none s text asks =
    let few = asks.0 in
    let same = one_cut word (decimal (s + 1)) rest text 32 free
    (no_byte_in_decimal 32 (s + 1) (omega arith) (omega arith))
    (sym parts ∙ asks_at_space line s text asks) in
    none s (few, same.0)
