-- What a file stamp is.
use Rattle.std.specs.Prelude.{ℕ, Bool, ◌&&◌, ◌||◌, not, nat_le, List, length, bytes_eq, codes}
use Rattle.std.specs.List.{list_all}
use Rattle.redodb_model.specs.Names.{is_visible}

-- "-" is no stamp, and "=>" is the arrow of a history
abbrev pub is_placeholder : List ℕ → Bool
is_placeholder text = bytes_eq text (codes "-") || bytes_eq text (codes "=>")

-- 1 to 64 visible bytes that are no placeholder
unfoldable pub is_stamp : List ℕ → Bool
is_stamp text =
    nat_le 1 (length text) && nat_le (length text) 64 && list_all is_visible text
    && not (is_placeholder text)
