-- What a name is, and lists of distinct names.
use Rattle.std.specs.Prelude.{◌≡◌, ℕ, Bool, true, false, ◌&&◌, ◌||◌, not, ◌==◌, nat_le, List, [], ◌∷◌, ◌++◌, length, if◌then◌else◌, bytes_eq, codes}
use Rattle.std.specs.List.{list_all, list_any, AllByRecursion}
use Rattle.redodb_model.specs.Names.{is_visible}

-- a line that begins with '#' is a comment
abbrev pub begins_comment : List ℕ → Bool
begins_comment [] = false
begins_comment (byte ∷ _) = byte == 35

-- the reserved texts, which mean something else than a name
abbrev pub is_reserved : List ℕ → Bool
is_reserved text = bytes_eq text (codes "-") || bytes_eq text (codes "=>") || begins_comment text

-- 1 to 255 visible bytes that are not reserved
unfoldable pub is_name : List ℕ → Bool
is_name text =
    nat_le 1 (length text) && nat_le (length text) 255 && list_all is_visible text
    && not (is_reserved text)

-- whether the text is among the names
abbrev pub has : List (List ℕ) → List ℕ → Bool
has names text = list_any (bytes_eq text) names

-- the names, with this one at the end if it is new
abbrev pub with_name : List (List ℕ) → List ℕ → List (List ℕ)
with_name names text = if has names text then names else names ++ text ∷ []

-- each text is a name
abbrev pub AreAllNames : List (List ℕ) → Type 0
AreAllNames texts = AllByRecursion (λ text. is_name text ≡ true) texts
