-- A fault that is passed on.
use Rattle.std.proofs.Common.{◌≡◌, Result, Ok, Err, sym, subst}
use Rattle.std.specs.Prelude.{IfErr, IsErrAnd, MatchResult}

pub err_then : {T E : Type 0} (r : Result T E) (e : E) (P : T → Type 0) (Q : E → Type 0)
    → IsErrAnd r (λ y. y ≡ e) → Q e → MatchResult r P Q
err_then (Ok x) e P Q is q = absurd is
err_then (Err y) e P Q is q = subst Q (sym is) q

pub if_err_then : {T E : Type 0} (r : Result T E) (e : E) (Q : E → Type 0)
    → IsErrAnd r (λ y. y ≡ e) → Q e → IfErr r Q
if_err_then (Ok x) e Q is q = tt
if_err_then (Err y) e Q is q = subst Q (sym is) q
