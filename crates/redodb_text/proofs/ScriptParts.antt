-- The lines of a script in two parts: what is read of the first, and then of the second.
use Rattle.std.proofs.Common.{◌≡◌, ◌+◌, ◌≤◌, Bool, true, false, cond, not, List, [], ◌∷◌, ◌++◌, length, refl, sym, ap, subst, ◌∙◌, arith, length-append, filter}
use Rattle.std.specs.List.{AllByRecursion, flat_map}
use Rattle.std.proofs.lemmas.List.{map-append}
use Rattle.std.proofs.lemmas.List.Elements.{filter-append}
use Rattle.std.proofs.lemmas.Grind.{flat_map-append}
use Rattle.redodb_names.specs.Names.{with_name, has}
use Rattle.redodb_model.proofs.Members.{all_joined}
use Rattle.redodb_model.specs.Names.{Text}
use Rattle.redodb_model.specs.Command.{Command, Item, commands_in, names_in}
use Rattle.redodb_text.specs.Grammar.{IsShort, is_skipped, with_names, AreItemLines, AreScriptLines}

abbrev is_said : Text → Bool
is_said line = not (is_skipped line)

all_split : {X : Type 0} (P : X → Type 0) (xs ys : List X) → AllByRecursion P (xs ++ ys)
    → AllByRecursion P xs × AllByRecursion P ys
all_split P [] ys all = (tt, all)
all_split P (x ∷ xs) ys all = let rest = all_split P xs ys all.1 in ((all.0, rest.0), rest.1)

said_joined : (xs ys : List Text) (cs ds : List (Item Text)) → AreItemLines xs cs
    → AreItemLines ys ds → AreItemLines (xs ++ ys) (cs ++ ds)
said_joined [] ys [] ds one other = other
said_joined [] ys (c ∷ cs) ds one other = absurd one
said_joined (x ∷ xs) ys [] ds one other = absurd one
said_joined (x ∷ xs) ys (c ∷ cs) ds one other = (one.0, said_joined xs ys cs ds one.1 other)

-- the items of two parts of the lines, part by part
record SaidInParts (xs ys : List Text) (items : List (Item Text)) : Type 0 where
  first : List (Item Text)
  second : List (Item Text)
  whole : items ≡ first ++ second
  one : AreItemLines xs first
  other : AreItemLines ys second

said_split : (xs ys : List Text) (cs : List (Item Text)) → AreItemLines (xs ++ ys) cs
    → SaidInParts xs ys cs
said_split [] ys cs said = record { first = []; second = cs; whole = refl; one = tt; other = said }
said_split (x ∷ xs) ys [] said = absurd said
said_split (x ∷ xs) ys (c ∷ cs) said =
    let rest : SaidInParts xs ys cs = said_split xs ys cs said.1 in
    record {
      first = c ∷ rest.first;
      second = rest.second;
      whole = ap (λ (l : List (Item Text)). c ∷ l) rest.whole;
      one = (said.0, rest.one);
      other = rest.other;
    }

pub with_names-append : (names ts us : List Text)
    → with_names names (ts ++ us) ≡ with_names (with_names names ts) us
with_names-append names [] us = refl
with_names-append names (t ∷ ts) us = with_names-append (with_name names t) ts us

with_name-longer : (names : List Text) (t : Text) → length names ≤ length (with_name names t)
with_name-longer names t = by (has names t)
  where
    by : (b : Bool) → length names ≤ length (cond b names (names ++ t ∷ []))
    by true = omega arith
    by false = omega (arith, length-append names (t ∷ []))

pub with_names-longer : (names ts : List Text) → length names ≤ length (with_names names ts)
with_names-longer names [] = omega arith
with_names-longer names (t ∷ ts) =
    omega (arith, with_name-longer names t, with_names-longer (with_name names t) ts)

-- the names in the commands of these items
abbrev all_names_in : List (Item Text) → List Text
all_names_in items = flat_map names_in (commands_in items)

names-append : (names : List Text) (cs ds : List (Item Text))
    → with_names names (all_names_in (cs ++ ds))
    ≡ with_names (with_names names (all_names_in cs)) (all_names_in ds)
names-append names cs ds =
    ap (λ (commands : List (Command Text)). with_names names (flat_map names_in commands))
    (map-append (λ (item : Item Text). item.command) cs ds)
    ∙ ap (with_names names) (flat_map-append names_in (commands_in cs) (commands_in ds))
    ∙ with_names-append names (all_names_in cs) (all_names_in ds)

-- what is read of the lines and then of more lines is read of them all
pub script_joined : (names : List Text) (xs ys : List Text) (cs ds : List (Item Text))
    (mid after : List Text)
    → AreScriptLines names xs cs mid → AreScriptLines mid ys ds after → length (cs ++ ds) ≤ 4096
    → AreScriptLines names (xs ++ ys) (cs ++ ds) after
script_joined names xs ys cs ds mid after one other few = record {
  short = all_joined IsShort xs ys one.short other.short;
  said = subst (λ (l : List Text). AreItemLines l (cs ++ ds)) (sym (filter-append is_said xs ys))
      (said_joined (filter is_said xs) (filter is_said ys) cs ds one.said other.said);
  few = few;
  named = (
    other.named.0 ∙ ap (λ (l : List Text). with_names l (all_names_in ds)) one.named.0
        ∙ sym (names-append names cs ds),
    other.named.1,
  );
}

-- what is read of two parts of the lines, part by part
pub record InParts (names : List Text) (xs ys : List Text) (items : List (Item Text))
    (after : List Text) : Type 0 where
  pub first : List (Item Text)
  pub second : List (Item Text)
  pub mid : List Text
  pub whole : items ≡ first ++ second
  pub one : AreScriptLines names xs first mid
  pub other : AreScriptLines mid ys second after

pub script_split : (names : List Text) (xs ys : List Text) (items : List (Item Text))
    (after : List Text) → AreScriptLines names (xs ++ ys) items after
    → InParts names xs ys items after
script_split names xs ys items after all =
    let short = all_split IsShort xs ys all.short in
    let said : SaidInParts (filter is_said xs) (filter is_said ys) items =
    said_split (filter is_said xs) (filter is_said ys) items (subst
    (λ (l : List Text). AreItemLines l items) (filter-append is_said xs ys) all.said) in
    let mid = with_names names (all_names_in said.first) in
    let after_is : after ≡ with_names mid (all_names_in said.second) =
    all.named.0 ∙ ap (λ (l : List (Item Text)). with_names names (all_names_in l))
    said.whole ∙ names-append names said.first said.second in
    let lengths : length items ≡ length said.first + length said.second =
    ap length said.whole ∙ length-append said.first said.second in
    let longer : length mid ≤ length after =
    subst (λ (l : List Text). length mid ≤ length l) (sym after_is)
    (with_names-longer mid (all_names_in said.second)) in
    let few : length items ≤ 4096 = all.few in
    let fits : length after ≤ 65536 = all.named.1 in
    record {
      first = said.first;
      second = said.second;
      mid = mid;
      whole = said.whole;
      one = record {
        short = short.0;
        said = said.one;
        few = omega arith;
        named = (refl, omega arith);
      };
      other = record {
        short = short.1;
        said = said.other;
        few = omega arith;
        named = (after_is, fits);
      };
    }
