-- What is known of readers and writers.
use Rattle.std.specs.Prelude.{ℕ, List, Option}
use Rattle.std.specs.Io.KnownBytes.{Appends, Keeps}
use Rattle.redodb_io.specs.Watched.{inner_of}
use Rattle.redodb_io.specs.declared.watched.Watched.{Watched}

-- the bytes that a reader has left, or that a writer got: `bytes` gives those of the reader or
-- writer itself, if they are known
abbrev pub known_in : {D : Type 0} → (D → Option (List ℕ)) → Watched D → Option (List ℕ)
known_in bytes device = bytes (inner_of device)

-- the bytes were written
abbrev pub Writes : {D : Type 0} → (D → Option (List ℕ)) → Watched D → Watched D → List ℕ → Type 0
Writes bytes old new sent = Appends (known_in bytes old) (known_in bytes new) sent

-- nothing was written
abbrev pub WritesNothing : {D : Type 0} → (D → Option (List ℕ)) → Watched D → Watched D → Type 0
WritesNothing bytes old new = Keeps (known_in bytes old) (known_in bytes new)
