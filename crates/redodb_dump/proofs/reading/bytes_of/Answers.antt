use Rattle.std.proofs.Common.{◌∙◌, ap}
use Rattle.std.specs.Result.{result_ok}
use Rattle.hex.specs.Hex.{decode_sized}
use Rattle.hex.proofs.HexLemmas.{decode_sized-encode_lower}
use Rattle.redodb_model.specs.Names.{Text}
use Rattle.redodb_text.proofs.Contents.{bytes_by_place}
use Rattle.redodb_dump.proofs.reading.bytes_of.Goals as goal

pub returns : goal.returns
returns c = λ digest is e.
    c.ok.ensures.value
    ∙ ap result_ok (c.from_hex.ensures ∙ ap (λ (w : Text). decode_sized w 20) e
    ∙ decode_sized-encode_lower digest 20 is.0 (bytes_by_place digest is.1))
