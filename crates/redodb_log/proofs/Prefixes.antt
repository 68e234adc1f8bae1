-- The first bytes are a beginning of the bytes.
use Rattle.std.proofs.Common.{ℕ, take, drop, sym}
use Rattle.std.proofs.lemmas.List.{take-append-drop}
use Rattle.redodb_model.specs.Names.{Text}
use Rattle.redodb_log.specs.Operations.{IsPrefix}

pub take_prefix : (count : ℕ) (bytes : Text) → IsPrefix (take count bytes) bytes
take_prefix count bytes = (drop count bytes, sym (take-append-drop count bytes))
