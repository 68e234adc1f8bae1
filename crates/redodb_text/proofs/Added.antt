-- Adding names: the names after it, and what it leaves unchanged.
use Rattle.std.proofs.Common.{◌≡◌, ℕ, ◌+◌, ◌<◌, ◌≤◌, Bool, true, false, cond, List, [], ◌∷◌, ◌++◌, map, length, get_or, Result, Ok, Err, box_value, option_map, refl, sym, ap, ◌∙◌, arith, eqb, length-append}
use Rattle.std.proofs.lemmas.Bool.Decides.{nat_tests}
use Rattle.std.proofs.lemmas.List.{get_or_append_left}
use Rattle.redodb_names.specs.Names.{has, with_name}
use Rattle.redodb_names.specs.Support.Names.{Extends}
use Rattle.redodb_names.proofs.NameLists.{Extends-same, Extends-then}
use Rattle.redodb_model.specs.Names.{Text, text_at}
use Rattle.redodb_model.specs.Command as commands
use Rattle.redodb_model.specs.Renaming.{AllBelow, IsBelow}
use Rattle.redodb_commands.specs.declared.command.Command.{Command}
use Rattle.redodb_commands.specs.declared.command.Command.TheVariants.{File, Gone, Lock, Unlock, Start, IfChange, IfCreate, Always, Stamp, Done, Failed}
use Rattle.redodb_text.specs.declared.fault.LineFault.{LineFault}
use Rattle.redodb_text.specs.declared.fault.LineFault.TheVariants.{TooManyNames}
use Rattle.redodb_commands.specs.Meaning.{command_of}
use Rattle.redodb_commands.specs.Support.Meaning.{command_at}
use Rattle.redodb_text.specs.Grammar.{with_names, AddsNames}
use Rattle.redodb_text.specs.Support.Reading.{added}
use Rattle.redodb_text.proofs.Steps.{same_given}

pub extends_same : (names : List Text) → Extends names names
extends_same = Extends-same

pub extends_then : (a b c : List Text) → Extends a b → Extends b c → Extends a c
extends_then = Extends-then

abbrev names_read : List Text → Result (List Text) LineFault
names_read names = Ok names

-- adding gives the names with this one, which are not too many
pub added_is : {most : ℕ} (names : List Text) (t : Text) (after : List Text) → length names ≤ most
    → added most names t ≡ Ok after → (after ≡ with_name names t) × (length after ≤ most)
added_is {most} names t after few e = by (has names t) (eqb (length names) most) refl e
  where
    by : (b d : Bool) → eqb (length names) most ≡ d
        → cond b (Ok names) (cond d (Err TooManyNames) (Ok (names ++ t ∷ []))) ≡ Ok after
        → (after ≡ cond b names (names ++ t ∷ [])) × (length after ≤ most)
    by true d full h =
        let same : names ≡ after = same_given names after h in
        (sym same, omega (arith, ap length same))
    by false true full h = absurd cc
    by false false full h =
        let same : names ++ t ∷ [] ≡ after = same_given (names ++ t ∷ []) after h in
        let len : length names + 1 ≡ length after =
        sym (length-append names (t ∷ [])) ∙ ap length same in
        (sym same, grind (arith, nat_tests, len, full, few))

-- if the names with this one are not too many, it is added
pub added_fits : {most : ℕ} (names : List Text) (t : Text) (after : List Text)
    → after ≡ with_name names t
    → length after ≤ most → added most names t ≡ Ok after
added_fits {most} names t after e few = by (has names t) (eqb (length names) most) refl e
  where
    by : (b d : Bool) → eqb (length names) most ≡ d → after ≡ cond b names (names ++ t ∷ [])
        → cond b (Ok names) (cond d (Err TooManyNames) (Ok (names ++ t ∷ []))) ≡ Ok after
    by true d full h = ap names_read (sym h)
    by false true full h =
        let len : length after ≡ length names + 1 = ap length h ∙ length-append names (t ∷ []) in
        absurd (grind (arith, nat_tests, len, full, few))
    by false false full h = ap names_read (sym h)

-- the same for the names of a command with one name
pub one_added : {most : ℕ} (names : List Text) (t : Text) (command : commands.Command Text)
    (after : List Text)
    → length names ≤ most → commands.names_in command ≡ t ∷ [] → added most names t ≡ Ok after
    → AddsNames most names (command ∷ []) after
one_added {most} names t command after few own e =
    let is = added_is names t after few e in
    (is.0 ∙ ap (λ (ts : List Text). with_names names (ts ++ [])) (sym own), is.1)

pub one_fits : {most : ℕ} (names : List Text) (t : Text) (command : commands.Command Text)
    (after : List Text)
    → commands.names_in command ≡ t ∷ [] → AddsNames most names (command ∷ []) after
    → added most names t ≡ Ok after
one_fits {most} names t command after own adds =
    added_fits names t after
    (adds.0 ∙ ap (λ (ts : List Text). with_names names (ts ++ [])) own) adds.1

pub text_at-Extends : (old new : List Text) (n : ℕ) → Extends old new → n < length old
    → text_at new n ≡ text_at old n
text_at-Extends old new n x lt =
    ap (λ (l : List Text). get_or l n []) x.is ∙ get_or_append_left old x.more [] n lt

-- adding names does not change what the numbers stand for
pub texts-Extends : (old new : List Text) (ns : List ℕ) → Extends old new → AllBelow (length old) ns
    → map (text_at new) ns ≡ map (text_at old) ns
texts-Extends old new [] x all = refl
texts-Extends old new (n ∷ ns) x all =
    let one = text_at-Extends old new n x all.0 in
    let others = texts-Extends old new ns x all.1 in
    λ i. one i ∷ others i

below-Extends : (old new : List Text) (n : ℕ) → Extends old new → n < length old → n < length new
below-Extends old new n x lt = omega (arith, ap length x.is, length-append old x.more)

pub all_below-Extends : (old new : List Text) (ns : List ℕ) → Extends old new
    → AllBelow (length old) ns → AllBelow (length new) ns
all_below-Extends old new [] x all = tt
all_below-Extends old new (n ∷ ns) x all =
    (below-Extends old new n x all.0, all_below-Extends old new ns x all.1)

pub IsBelow-Extends : (old new : List Text) (command : commands.Command ℕ) → Extends old new
    → IsBelow (length old) command → IsBelow (length new) command
IsBelow-Extends old new command x below =
    all_below-Extends old new (commands.names_in command) x below

-- adding names does not change what a command means
pub command_at-Extends : (old new : List Text) (command : Command) → Extends old new
    → IsBelow (length old) (command_of command) → command_at new command ≡ command_at old command
command_at-Extends old new (File n stamp) x below =
    let e = text_at-Extends old new n x below.0 in
    λ i. commands.File (e i) (box_value stamp)
command_at-Extends old new (Gone n) x below = ap commands.Gone (text_at-Extends old new n x below.0)
command_at-Extends old new (Lock n) x below = ap commands.Lock (text_at-Extends old new n x below.0)
command_at-Extends old new (Unlock n) x below =
    ap commands.Unlock (text_at-Extends old new n x below.0)
command_at-Extends old new (Start n) x below =
    ap commands.Start (text_at-Extends old new n x below.0)
command_at-Extends old new (IfChange t ns) x below =
    let target = text_at-Extends old new t x below.0 in
    let others = texts-Extends old new ns.items x below.1 in
    λ i. commands.IfChange (target i) (others i)
command_at-Extends old new (IfCreate t ns) x below =
    let target = text_at-Extends old new t x below.0 in
    let others = texts-Extends old new ns.items x below.1 in
    λ i. commands.IfCreate (target i) (others i)
command_at-Extends old new (Always n) x below =
    ap commands.Always (text_at-Extends old new n x below.0)
command_at-Extends old new (Stamp n content) x below =
    let e = text_at-Extends old new n x below.0 in
    λ i. commands.Stamp (e i) content.items
command_at-Extends old new (Done n stamp) x below =
    let e = text_at-Extends old new n x below.0 in
    λ i. commands.Done (e i) (option_map box_value stamp)
command_at-Extends old new (Failed n) x below =
    ap commands.Failed (text_at-Extends old new n x below.0)
command_at-Extends old new command x below = refl
