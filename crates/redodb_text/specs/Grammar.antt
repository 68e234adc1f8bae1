-- Which texts are commands, lines of scripts, and scripts.
use Rattle.std.specs.Prelude.{◌≡◌, ◌≢◌, ◌<◌, ◌≤◌, ◌⊎◌, Bool, true, not, List, [], ◌∷◌, length, filter, IsTrue, IfSome, Ok, codes, ◌==◌, ⊤, ℕ}
use Rattle.std.specs.List.{slice_split, flat_map, AllByRecursion}
use Rattle.hex.specs.Hex.{decode_of}
use Rattle.redodb_names.specs.Names.{is_name, with_name, AreAllNames}
use Rattle.redodb_model.specs.Names.{Text}
use Rattle.redodb_model.specs.Command.{Command, Item, commands_in, File, Gone, Lock, Unlock, Start, IfChange, IfCreate, Always, Stamp, Done, Failed, Ood, Targets, Sources, names_in}
use Rattle.redodb_commands.specs.Stamp.{is_stamp}
use Rattle.redodb_text.specs.Texts.{spaced, command_text_of, with_guard}

-- 1 to 64 names
pub record IsNameList (names : List Text) : Type 0 where
  pub some : 1 ≤ length names
  pub few : length names ≤ 64
  pub each : AreAllNames names

-- what is required of the words of a command
abbrev pub HasForm : Command Text → Type 0
HasForm (File n stamp) = IsTrue (is_name n) × IsTrue (is_stamp stamp)
HasForm (Gone n) = IsTrue (is_name n)
HasForm (Lock t) = IsTrue (is_name t)
HasForm (Unlock t) = IsTrue (is_name t)
HasForm (Start t) = IsTrue (is_name t)
HasForm (IfChange t ns) = IsTrue (is_name t) × IsNameList ns
HasForm (IfCreate t ns) = IsTrue (is_name t) × IsNameList ns
HasForm (Always t) = IsTrue (is_name t)
HasForm (Stamp t content) = IsTrue (is_name t) × AllByRecursion (λ b. b < 256) content
HasForm (Done t stamp) = IsTrue (is_name t) × IfSome stamp (λ s. IsTrue (is_stamp s))
HasForm (Failed t) = IsTrue (is_name t)
HasForm Ood = ⊤
HasForm Targets = ⊤
HasForm Sources = ⊤

-- a line may have 8,192 bytes, a script 4,096 items, a run 65,536 names
abbrev pub IsShort : Text → Type 0
IsShort line = length line ≤ 8192

-- "-" stands for empty content; the digits of other content may have letters of either case
abbrev pub IsContentWord : Text → Text → Type 0
IsContentWord word content =
    ((word ≡ codes "-") × (content ≡ [])) ⊎ ((content ≢ []) × (decode_of word ≡ Ok content))

-- the line is the command's text, without its LF; of a stamp the content may be spelled in other
-- ways
abbrev pub IsSpelled : Text → Command Text → Type 0
IsSpelled line (Stamp t content) =
    (word : Text) × (line ≡ spaced (codes "stamp") (t ∷ word ∷ [])) × IsContentWord word content
IsSpelled line command = line ≡ command_text_of command

-- the line says the command
abbrev pub IsCommandLine : Text → Command Text → Type 0
IsCommandLine line command = HasForm command × IsShort line × IsSpelled line command

-- the line says the item: after its guard, if it has one, comes the command's line
pub record IsItemLine (line : Text) (item : Item Text) : Type 0 where
  pub short : IsShort line
  pub said : Text
  pub guard : line ≡ with_guard item.guarded said
  pub command : IsCommandLine said item.command

-- the names, and after them the new ones of these, each once, in the order of their first
-- occurrence
abbrev pub with_names : List Text → List Text → List Text
with_names names [] = names
with_names names (t ∷ ts) = with_names (with_name names t) ts

-- after are the names with those of the commands, and not too many
abbrev pub AddsNames : ℕ → List Text → List (Command Text) → List Text → Type 0
AddsNames most names commands after =
    (after ≡ with_names names (flat_map names_in commands)) × (length after ≤ most)

-- the pieces between line feeds: the piece after a last line feed is empty, and is skipped as any
-- empty one
abbrev pub lines_of : Text → List Text
lines_of text = slice_split (λ b. b == 10) text

-- an empty line, and one that begins with '#'
abbrev pub is_skipped : Text → Bool
is_skipped [] = true
is_skipped (b ∷ bs) = b == 35

-- each line is its item's
abbrev pub AreItemLines : List Text → List (Item Text) → Type 0
AreItemLines [] [] = ⊤
AreItemLines [] (item ∷ items) = ⊥
AreItemLines (line ∷ lines) [] = ⊥
AreItemLines (line ∷ lines) (item ∷ items) = IsItemLine line item × AreItemLines lines items

-- the lines that are not skipped are these items, one by one
pub record AreScriptLines (names : List Text) (lines : List Text) (items : List (Item Text))
    (after : List Text) : Type 0 where
  pub short : AllByRecursion IsShort lines
  pub said : AreItemLines (filter (λ line. not (is_skipped line)) lines) items
  pub few : length items ≤ 4096
  pub named : AddsNames 65536 names (commands_in items) after

-- the text is a script of these items, and after are the names with its names
abbrev pub IsScript : List Text → Text → List (Item Text) → List Text → Type 0
IsScript names text items after = AreScriptLines names (lines_of text) items after
