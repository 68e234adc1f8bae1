-- What was written if no failure is noted.
use Rattle.std.proofs.Common.{◌≡◌, Bool, true, false, Result, Ok, Err, OnOk, OnErr}

-- if the flag is not set, the writes did not fail
pub by_flag : {T E P : Type 0} (told : Result T E) (flag : Bool) → OnOk told P
    → OnErr told (flag ≡ true) → flag ≡ false → P
by_flag (Ok x) flag ok failed quiet = ok
by_flag (Err e) flag ok failed quiet = absurd (cc)
