-- A digest has 20 bytes.
use Rattle.std.proofs.Common.{◌≡◌, ℕ, zero, suc, ◌/◌, ◌<◌, List, [], ◌∷◌, ◌++◌, length, refl, arith}
use Rattle.std.specs.Prelude.{slice_index}
use Rattle.std.specs.Int.{w32, to_be_bytes}
use Rattle.std.specs.List.{AllByRecursion}
use Rattle.sha1.specs.Sha1.{sha1, digest_bytes, hash_after, padded_message}
use Rattle.redodb_model.specs.Names.{Text}
use Rattle.redodb_text.specs.Replies.{IsDigest}

abbrev AreBytes : List ℕ → Type 0
AreBytes bytes = AllByRecursion (λ b. b < 256) bytes

bytes_then : (xs ys : List ℕ) → AreBytes xs → AreBytes ys → AreBytes (xs ++ ys)
bytes_then [] ys p q = q
bytes_then (x ∷ xs) ys p q = (p.0, bytes_then xs ys p.1 q)

-- a word's bytes, high byte first
word_bytes : (word : ℕ) → AreBytes (to_be_bytes w32 word)
word_bytes word = (omega arith, (omega arith, (omega arith, (omega arith, tt))))

digest_bytes_are_bytes : (hash : List ℕ) (n : ℕ) → AreBytes (digest_bytes hash n)
unfolding digest_bytes
digest_bytes_are_bytes hash zero = tt
digest_bytes_are_bytes hash (suc n) =
    bytes_then (digest_bytes hash n) (to_be_bytes w32 (slice_index hash n))
    (digest_bytes_are_bytes hash n) (word_bytes (slice_index hash n))

length-digest_bytes : (hash : List ℕ) → length (digest_bytes hash 5) ≡ 20
unfolding digest_bytes
length-digest_bytes hash = refl

pub sha1_is_digest : (content : Text) → IsDigest (sha1 content)
unfolding sha1
sha1_is_digest content =
    let hash = hash_after (padded_message content) (length (padded_message content) / 64) in
    (length-digest_bytes hash, digest_bytes_are_bytes hash 5)
