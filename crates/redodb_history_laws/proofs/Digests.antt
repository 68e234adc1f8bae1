-- Two digests by computation.
use Rattle.std.proofs.Common.{◌≡◌, [], codes, refl}
use Rattle.sha1.specs.Sha1.{first_words, schedule, rounds, compress, hash_after, digest_bytes, sha1}
use Rattle.redodb_history_laws.specs.WorkedHistories as worked

pub digest_of_abc : worked.digest_of_abc ≡ sha1 (codes "abc")
unfolding first_words schedule rounds compress hash_after digest_bytes sha1
digest_of_abc = refl

pub digest_of_nothing : worked.digest_of_nothing ≡ sha1 []
unfolding first_words schedule rounds compress hash_after digest_bytes sha1
digest_of_nothing = refl
