-- Dumps by computation.
use Rattle.std.proofs.Common.{◌≡◌, [], ◌∷◌, codes, refl}
use Rattle.std.specs.Fmt.{digits}
use Rattle.hex.specs.Hex.{encode_with}
use Rattle.sha1.specs.Sha1.{first_words, schedule, rounds, compress, hash_after, digest_bytes, sha1}
use Rattle.redodb_model.specs.State.{empty}
use Rattle.redodb_dump.specs.Dumps.{dump_of}
use Rattle.redodb_dump.specs.Worked as worked

pub nothing_dumped : dump_of [] empty ≡ worked.nothing_dumped
unfolding digits encode_with first_words schedule rounds compress hash_after digest_bytes sha1
nothing_dumped = refl

pub source_dumped : dump_of (codes "a.c" ∷ []) worked.source ≡ worked.source_dumped
unfolding digits encode_with first_words schedule rounds compress hash_after digest_bytes sha1
source_dumped = refl

pub building_dumped : dump_of (codes "T" ∷ []) worked.building ≡ worked.building_dumped
unfolding digits encode_with first_words schedule rounds compress hash_after digest_bytes sha1
building_dumped = refl

pub rows_dumped : dump_of worked.names_with_rows worked.with_rows ≡ worked.with_rows_dumped
unfolding digits encode_with first_words schedule rounds compress hash_after digest_bytes sha1
rows_dumped = refl
