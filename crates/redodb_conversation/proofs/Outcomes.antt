-- What is true whatever a result is, or follows from another fact about it.
use Rattle.std.proofs.Common.{◌≡◌, sym, subst}
use Rattle.std.specs.Prelude.{Result, Ok, Err, OnOk, OnErr, IfOk, IfErr}

pub on_err : {T E : Type 0} (r : Result T E) (P : Type 0) → P → OnErr r P
on_err (Ok x) P p = tt
on_err (Err e) P p = p

pub ok_then : {T E : Type 0} (r : Result T E) (P Q : Type 0) → OnOk r P → (P → Q) → OnOk r Q
ok_then (Ok x) P Q p f = f p
ok_then (Err e) P Q p f = tt

-- if it is this value
pub ok_is_then : {T E : Type 0} (r : Result T E) (x : T) (P : Type 0) (Q : T → Type 0)
    → OnOk r P → IfOk r (λ y. y ≡ x) → (P → Q x) → IfOk r Q
ok_is_then (Ok y) x P Q p e f = subst Q (sym e) (f p)
ok_is_then (Err e) x P Q p is f = tt

pub err_then : {T E : Type 0} (r : Result T E) (P Q : Type 0) → OnErr r P → (P → Q) → OnErr r Q
err_then (Ok x) P Q p f = tt
err_then (Err e) P Q p f = f p

pub ok_by_three : {T E : Type 0} (r : Result T E) (P Q R Z : Type 0) → OnOk r P → OnOk r Q
    → OnOk r R → (P → Q → R → Z) → OnOk r Z
ok_by_three (Ok x) P Q R Z p q t f = f p q t
ok_by_three (Err e) P Q R Z p q t f = tt

pub if_err_then : {T E : Type 0} (r : Result T E) (P Q : E → Type 0) → IfErr r P
    → ((e : E) → P e → Q e) → IfErr r Q
if_err_then (Ok x) P Q p f = tt
if_err_then (Err e) P Q p f = f e p

pub both_err : {T E : Type 0} (r : Result T E) (P Q R : E → Type 0) → IfErr r P → IfErr r Q
    → ((e : E) → P e → Q e → R e) → IfErr r R
both_err (Ok x) P Q R p q f = tt
both_err (Err e) P Q R p q f = f e p q
