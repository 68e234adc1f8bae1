-- The items read so far, and one more line.
use Rattle.std.proofs.Common.{◌≡◌, ℕ, ◌≤◌, List, [], ◌∷◌, ◌++◌, map, length, Option, Some, None, Ok, refl, sym, ap, subst, ◌∙◌, arith, length-append, append-nil}
use Rattle.std.proofs.lemmas.List.{map_push, length-map}
use Rattle.std.specs.List.{AllByRecursion}
use Rattle.std.specs.Option.{option_map}
use Rattle.redodb_names.specs.Support.Names.{Extends}
use Rattle.redodb_model.specs.Names.{Text}
use Rattle.redodb_model.specs.Command as commands
use Rattle.redodb_model.specs.Renaming.{IsBelow}
use Rattle.redodb_commands.specs.declared.script.Item.{Item}
use Rattle.redodb_commands.specs.Meaning.{command_of}
use Rattle.redodb_commands.specs.Support.Meaning.{item_at}
use Rattle.redodb_text.specs.Grammar.{AreScriptLines}
use Rattle.redodb_text.specs.Support.Reading.{script_line_in}
use Rattle.redodb_text.proofs.Added.{command_at-Extends, IsBelow-Extends}
use Rattle.redodb_text.proofs.ScriptParts.{script_joined}
use Rattle.redodb_text.proofs.ScriptLaws.{items_read, Taken, line_taken}

-- the numbers of the items are below n
abbrev pub AreBelow : ℕ → List Item → Type 0
AreBelow n cs = AllByRecursion (λ item. IsBelow n (command_of item.command)) cs

-- adding names does not change what an item means
item_at-Extends : (old new : List Text) (c : Item) → Extends old new
    → IsBelow (length old) (command_of c.command) → item_at new c ≡ item_at old c
item_at-Extends old new c x below =
    let e = command_at-Extends old new c.command x below in
    λ i. record { guarded = c.guarded; command = e i }

pub items_at-Extends : (old new : List Text) (cs : List Item) → Extends old new
    → AreBelow (length old) cs → map (item_at new) cs ≡ map (item_at old) cs
items_at-Extends old new [] x below = refl
items_at-Extends old new (c ∷ cs) x below =
    let one = item_at-Extends old new c x below.0 in
    let others = items_at-Extends old new cs x below.1 in
    λ i. one i ∷ others i

pub AreBelow-Extends : (old new : List Text) (cs : List Item) → Extends old new
    → AreBelow (length old) cs → AreBelow (length new) cs
AreBelow-Extends old new [] x below = tt
AreBelow-Extends old new (c ∷ cs) x below = (
  IsBelow-Extends old new (command_of c.command) x below.0,
  AreBelow-Extends old new cs x below.1,
)

pub AreBelow-push : (n : ℕ) (cs : List Item) (c : Item) → AreBelow n cs
    → IsBelow n (command_of c.command) → AreBelow n (cs ++ c ∷ [])
AreBelow-push n [] c below h = (h, tt)
AreBelow-push n (d ∷ cs) c below h = (below.0, AreBelow-push n cs c below.1 h)

-- the items with the one that was read
abbrev pub pushed : List Item → Option Item → List Item
pushed cs None = cs
pushed cs (Some c) = cs ++ c ∷ []

items_pushed : (names : List Text) (cs : List Item) (read : Option Item)
    → map (item_at names) (pushed cs read)
    ≡ map (item_at names) cs ++ items_read (option_map (item_at names) read)
items_pushed names cs None = sym (append-nil (map (item_at names) cs))
items_pushed names cs (Some c) = map_push (item_at names) cs c

-- one more line
pub line_more : (start before names after : List Text) (cs : List Item) (line : Text)
    (read : Option Item) → Extends names after → AreBelow (length names) cs
    → AreScriptLines start before (map (item_at names) cs) names
    → script_line_in (length cs) names line ≡ Ok (option_map (item_at after) read, after)
    → AreScriptLines start (before ++ line ∷ []) (map (item_at after) (pushed cs read)) after
line_more start before names after cs line read x below script e =
    let few : length cs ≤ 4096 =
    subst (λ (n : ℕ). n ≤ 4096) (length-map cs (item_at names)) script.few in
    let said = option_map (item_at after) read in
    let taken : Taken (length cs) names line said after =
    line_taken (length cs) names line said after few script.named.1 e in
    let room : length (map (item_at names) cs ++ items_read said) ≤ 4096 =
    omega (
      arith,
      length-append (map (item_at names) cs) (items_read said),
      length-map cs (item_at names),
      taken.room,
    ) in
    let all =
    script_joined start before (line ∷ []) (map (item_at names) cs)
    (items_read said) names after script taken.script room in
    let kept : map (item_at after) cs ≡ map (item_at names) cs =
    items_at-Extends names after cs x below in
    let whole : map (item_at after) (pushed cs read)
    ≡ map (item_at names) cs ++ items_read said =
    items_pushed after cs read
    ∙ ap (λ (l : List (commands.Item Text)). l ++ items_read said) kept in
    subst (λ (l : List (commands.Item Text)). AreScriptLines start (before ++ line ∷ []) l after)
    (sym whole) all
