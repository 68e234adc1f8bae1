-- What is read from session files, one after another.
use Rattle.std.specs.Prelude.{◌≡◌, ℕ, ◌≤◌, ◌==◌, Bool, not, List, [], ◌∷◌, length, map, Option, IfSome, slice_index_or}
use Rattle.redodb_model.specs.Names.{Text}
use Rattle.redodb_model.specs.Command.{Item}
use Rattle.redodb_text.specs.Grammar.{IsScript}
use Rattle.redodb_io.specs.declared.watched.Watched.{Watched}
use Rattle.redodb_io.specs.Watched.{failures_of}
use Rattle.redodb_io.specs.Devices.{known_in}

-- what each file has left, if that is known; `remaining` gives it for a reader
abbrev pub bytes_of_files : {R : Type 0} → (R → Option Text) → List (Watched R) → List (Option Text)
bytes_of_files remaining files = map (known_in remaining) files

-- how many reads of each file failed
abbrev pub failures_of_files : {R : Type 0} → List (Watched R) → List ℕ
failures_of_files files = map (λ file. failures_of file) files

-- whether a read of this file failed between the two counts
abbrev pub failed_at : List ℕ → List ℕ → ℕ → Bool
failed_at before after file = not (slice_index_or after file 0 == slice_index_or before file 0)

-- which files had a failed read
abbrev pub failed_files : {R : Type 0} → List (Watched R) → List (Watched R) → ℕ → Bool
failed_files before after = failed_at (failures_of_files before) (failures_of_files after)

-- the file's bytes, if they are known, are a script of these lines, with the names before and after
-- it
abbrev pub IsAccepted : List Text → Option Text → List (Item Text) → List Text → Type 0
IsAccepted names file script after =
    IfSome file (λ bytes. (length bytes ≤ 67108864) × IsScript names bytes script after)

-- the files are accepted one after another, each with the names of those before it
abbrev pub AreAccepted : List Text → List (Option Text) → List (List (Item Text)) → List Text
    → Type 0
AreAccepted names [] [] after = after ≡ names
AreAccepted names [] (script ∷ scripts) after = ⊥
AreAccepted names (file ∷ files) [] after = ⊥
AreAccepted names (file ∷ files) (script ∷ scripts) after =
    (middle : List Text) × IsAccepted names file script middle
    × AreAccepted middle files scripts after

-- 1 to 64 files, one after another, are these scripts
abbrev pub AreSessions : List (Option Text) → List (List (Item Text)) → Type 0
AreSessions files scripts =
    (1 ≤ length files) × (length files ≤ 64)
    × ((names : List Text) × AreAccepted [] files scripts names)
