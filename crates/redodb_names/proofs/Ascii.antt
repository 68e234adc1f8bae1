-- Names are ASCII.
use Rattle.std.proofs.Common.{◌≡◌, ℕ, suc, zero, ◌<◌, Bool, true, false, ◌&&◌, not, List, [], ◌∷◌, length, arith, refl, sym, subst}
use Rattle.std.specs.Prelude.{nat_le, slice_index, bytes_eq}
use Rattle.std.specs.List.{list_all}
use Rattle.std.specs.Str.{IsAscii, IsNotAscii}
use Rattle.std.proofs.lemmas.Bool.{and_parts as both}
use Rattle.std.proofs.lemmas.Bool.Decides.{nat_tests}
use Rattle.std.proofs.lemmas.Slice.Eq.{bytes_eq-Decides}
use Rattle.redodb_model.specs.Names.{is_visible}
use Rattle.redodb_names.specs.Names.{is_name, is_reserved, has, AreAllNames}

visible_is_ascii : (text : List ℕ) → list_all is_visible text ≡ true → IsAscii text
visible_is_ascii [] h i = omega arith
visible_is_ascii (byte ∷ text) h zero = grind (arith, nat_tests)
visible_is_ascii (byte ∷ text) h (suc i) =
    visible_is_ascii text (both (is_visible byte) (list_all is_visible text) h).1 i

pub name_is_ascii : (text : List ℕ) → is_name text ≡ true → IsAscii text
unfolding is_name
name_is_ascii text h =
    let long = nat_le 1 (length text) && nat_le (length text) 255 in
    visible_is_ascii text
    (both long (list_all is_visible text)
    (both (long && list_all is_visible text) (not (is_reserved text)) h).0).1

not_same : (text name : List ℕ) → is_name name ≡ true → IsNotAscii text
    → bytes_eq text name ≡ false
not_same text name is wide = by (bytes_eq text name) refl
  where
    by : (b : Bool) → bytes_eq text name ≡ b → b ≡ false
    by false e = refl
    by true e =
        let same : text ≡ name = (bytes_eq-Decides text name).0 e in
        let least : slice_index text wide.0 < 128 =
        subst (λ (t : List ℕ). slice_index t wide.0 < 128) (sym same)
        (name_is_ascii name is wide.0) in
        absurd (omega (arith, least, wide.1))

-- what is no ASCII is not among names
pub is_no_name : (names : List (List ℕ)) (text : List ℕ) → AreAllNames names → IsNotAscii text
    → has names text ≡ false
is_no_name [] text each wide = refl
is_no_name (name ∷ names) text each wide =
    rw (not_same text name each.0 wide) (is_no_name names text each.1 wide)
