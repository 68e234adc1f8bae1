-- Texts, and how names of any kind are distinguished and ordered: the contracts use texts, and the
-- code uses numbers.
use Rattle.std.specs.Prelude.{◌≡◌, ℕ, Bool, ◌&&◌, nat_le, cond, List, [], slice_index_or, bytes_eq, ◌==◌, ◌↔◌, AllPairs, Contains}
use Rattle.std.specs.Ordering.{nat_cmp}
use Rattle.std.specs.declared.cmp.Ordering.{Ordering}
use Rattle.std.specs.declared.cmp.Ordering.TheVariants.{Less}
use Rattle.std.specs.Cmp.Lexicographic.{slice_cmp}

-- bytes
abbrev pub Text : Type 0
Text = List ℕ

-- a printed byte of ASCII, and no space
abbrev pub is_visible : ℕ → Bool
is_visible byte = nat_le 33 byte && nat_le byte 126

-- the name that has this number
abbrev pub text_at : List Text → ℕ → Text
text_at names n = slice_index_or names n []

pub record Naming (N : Type 0) : Type 0 where
  pub same : N → N → Bool
  pub order : N → N → Ordering

-- names as texts, by their bytes
abbrev pub texts : Naming Text
texts = record { same = bytes_eq; order = slice_cmp nat_cmp }

-- names as numbers, in the order of the texts that they stand for
abbrev pub numbers : (ℕ → ℕ → Ordering) → Naming ℕ
numbers order = record { same = ◌==◌; order = order }

-- numbers ordered as the texts that they stand for
abbrev pub by_text : List Text → Naming ℕ
by_text names = numbers (λ m n. texts.order (text_at names m) (text_at names n))

-- numbers by their size
abbrev pub by_number : Naming ℕ
by_number = numbers nat_cmp

-- the function f with the value x at n
abbrev pub put : {N X : Type 0} → Naming N → N → X → (N → X) → N → X
put naming n x f m = cond (naming.same n m) x (f m)

-- the names are in order, each once
abbrev pub Ascending : {N : Type 0} → Naming N → List N → Type 0
Ascending naming names = AllPairs (λ m n. naming.order m n ≡ Less) names

-- the list has exactly the names with P, in order, each once
abbrev pub IsListed : {N : Type 0} → Naming N → (N → Type 0) → List N → Type 0
IsListed {N} naming P names = Ascending naming names × ((n : N) → Contains names n ↔ P n)
