-- Lists of names: how they are added, read and spelled.
use Rattle.std.proofs.Common.{◌≡◌, ℕ, zero, suc, ◌+◌, ◌<◌, ◌≤◌, Bool, true, false, cond, List, [], ◌∷◌, ◌++◌, map, length, get_or, drop, Result, Ok, Err, refl, sym, ap, subst, ◌∙◌, arith, eqb, leb, ltb, not, ◌&&◌, append-nil, length-append, length-drop, drop-cons, add-one, Bor}
use Rattle.std.specs.Prelude.{IsTrue}
use Rattle.std.specs.List.{AllByRecursion, list_all}
use Rattle.std.proofs.lemmas.Bool.{leb-true, le-leb, lt-leb, ltb-false, le-ltb, not-false}
use Rattle.std.proofs.lemmas.Bool.Decides.{nat_tests}
use Rattle.std.proofs.lemmas.List.{nil_from_length, length-map}
use Rattle.std.proofs.Math.ListN.{get_or-map}
use Rattle.redodb_names.specs.Names.{is_name, with_name, has, AreAllNames}
use Rattle.redodb_model.specs.Names.{Text}
use Rattle.redodb_model.specs.Command.{Command, names_in}
use Rattle.redodb_model.specs.Renaming.{AllBelow}
use Rattle.redodb_text.specs.declared.fault.LineFault.{LineFault}
use Rattle.redodb_text.specs.declared.fault.LineFault.TheVariants.{BadName, TooManyNames}
use Rattle.redodb_text.specs.declared.fault.Unread.{Unread}
use Rattle.redodb_text.specs.declared.fault.Unread.TheVariants as unread
use Rattle.redodb_text.specs.Grammar.{with_names, AddsNames, IsNameList}
use Rattle.redodb_text.specs.Support.Reading.{Reads, added}
use Rattle.redodb_text.specs.Support.Reading.{target_and_names_in, all_added, names_form_in}
use Rattle.redodb_text.proofs.Added.{added_is}
use Rattle.redodb_text.proofs.ScriptParts.{with_names-longer}
use Rattle.redodb_text.proofs.Spaced.{IsVisible, name_is_visible}
use Rattle.redodb_text.proofs.Steps.{both, unless_ok, same_given}

-- a name that is not added is new and meets a full list
pub full_at : {most : ℕ} (names : List Text) (t : Text) (fault : LineFault)
    → added most names t ≡ Err fault
    → (fault ≡ TooManyNames) × (length names ≡ most) × (with_name names t ≡ names ++ t ∷ [])
full_at {most} names t fault e = by (has names t) (eqb (length names) most) refl e
  where
    by : (b d : Bool) → eqb (length names) most ≡ d
        → cond b (Ok names) (cond d (Err TooManyNames) (Ok (names ++ t ∷ []))) ≡ Err fault
        → (fault ≡ TooManyNames) × (length names ≡ most)
        × (cond b names (names ++ t ∷ []) ≡ names ++ t ∷ [])
    by true d full h = absurd cc
    by false true full h = (cc, grind (arith, nat_tests, full), refl)
    by false false full h = absurd cc

-- so the others are too many with it
pub all_added-none : (most : ℕ) (names : List Text) (t : Text) (ts : List Text) (fault : LineFault)
    → added most names t ≡ Err fault → all_added most names (t ∷ ts) ≡ Err fault
unfolding all_added
all_added-none most names t ts fault e =
    let full = full_at names t fault e in
    let over : most < length (with_name names t) =
    omega (arith, full.1, ap length full.2, length-append names (t ∷ [])) in
    let longer : length (with_name names t) ≤ length (with_names (with_name names t) ts) =
    with_names-longer (with_name names t) ts in
    let test : leb (length (with_names (with_name names t) ts)) most ≡ false =
    lt-leb _ _ (omega arith) in
    rw (test, full.0) refl

-- if the first is added, the others are added after it
pub with_names-next : {most : ℕ} (names : List Text) (t : Text) (ts after : List Text)
    → length names ≤ most
    → added most names t ≡ Ok after → with_names names (t ∷ ts) ≡ with_names after ts
with_names-next {most} names t ts after few e =
    ap (λ (l : List Text). with_names l ts) (sym (added_is names t after few e).0)

all_added-same : (most : ℕ) (a b ts us : List Text) → with_names a ts ≡ with_names b us
    → all_added most a ts ≡ all_added most b us
unfolding all_added
all_added-same most a b ts us e =
    ap (λ (l : List Text). cond (leb (length l) most) (Ok l) (Err TooManyNames)) e

pub all_added-next : {most : ℕ} (names : List Text) (t : Text) (ts after : List Text)
    → length names ≤ most
    → added most names t ≡ Ok after → all_added most names (t ∷ ts) ≡ all_added most after ts
all_added-next {most} names t ts after few e =
    all_added-same _ names after (t ∷ ts) ts (with_names-next names t ts after few e)

-- adding gives the names with these, which are not too many
pub all_added-is : {most : ℕ} (names ts after : List Text) → all_added most names ts ≡ Ok after
    → (after ≡ with_names names ts) × (length after ≤ most)
unfolding all_added
all_added-is {most} names ts after e = by (leb (length (with_names names ts)) most) refl e
  where
    by : (b : Bool) → leb (length (with_names names ts)) most ≡ b
        → cond b (Ok (with_names names ts)) (Err TooManyNames) ≡ Ok after
        → (after ≡ with_names names ts) × (length after ≤ most)
    by true room h =
        let is : after ≡ with_names names ts = cc in
        (is, subst (λ (l : List Text). length l ≤ most) (sym is) (leb-true _ _ room))
    by false room h = absurd cc

pub all_added-fits : {most : ℕ} (names ts after : List Text) → after ≡ with_names names ts
    → length after ≤ most → all_added most names ts ≡ Ok after
unfolding all_added
all_added-fits {most} names ts after is few =
    let room : leb (length (with_names names ts)) most ≡ true =
    le-leb _ _ (subst (λ (l : List Text). length l ≤ most) is few) in
    rw (room, is) refl

drop_next : (ws : List Text) (i : ℕ) → i < length ws → drop i ws ≡ get_or ws i [] ∷ drop (i + 1) ws
drop_next ws i lt = rw (add-one, drop-cons ws i []) refl

-- the names with those of the words that are left: one more word is added
pub rest_more : {most : ℕ} (names ws : List Text) (i : ℕ) (w : Text) (after total : List Text)
    → length names ≤ most → i < length ws → get_or ws i [] ≡ w → added most names w ≡ Ok after
    → total ≡ with_names names (drop i ws) → total ≡ with_names after (drop (i + 1) ws)
rest_more {most} names ws i w after total few lt at e rest =
    rest ∙ ap (with_names names) (drop_next ws i lt ∙ ap (λ (t : Text). t ∷ drop (i + 1) ws) at)
    ∙ with_names-next names w (drop (i + 1) ws) after few e

-- one word is not added
pub rest_none : (most : ℕ) (start names ws : List Text) (i : ℕ) (w : Text) → i < length ws
    → get_or ws i [] ≡ w
    → with_names start ws ≡ with_names names (drop i ws) → (fault : LineFault)
    → added most names w ≡ Err fault → all_added most start ws ≡ Err fault
rest_none most start names ws i w lt at rest fault e =
    all_added-same _ start names ws (drop i ws) rest
    ∙ ap (all_added most names) (drop_next ws i lt ∙ ap (λ (t : Text). t ∷ drop (i + 1) ws) at)
    ∙ all_added-none _ names w (drop (i + 1) ws) fault e

-- no word is left
pub rest_done : {most : ℕ} (start names ws : List Text) (i : ℕ) → length ws ≤ i
    → length names ≤ most
    → with_names start ws ≡ with_names names (drop i ws) → all_added most start ws ≡ Ok names
rest_done {most} start names ws i le few rest =
    let none : drop i ws ≡ [] = nil_from_length (drop i ws) (omega (arith, length-drop i ws)) in
    all_added-fits start ws names (sym (rest ∙ ap (with_names names) none)) few

-- if one reading fails as another does, a reader that met the one meets the other
pub fails_alike : {X Y A B : Type 0} (view : X → A) (seen : Y
    → B) (u : Unread) (r : Result A LineFault) (s : Result B LineFault)
    → ((fault : LineFault) → r ≡ Err fault → s ≡ Err fault) → Reads view (Err u) r
    → Reads seen (Err u) s
fails_alike view seen unread.Memory r s alike met = tt
fails_alike view seen (unread.Fault fault) r s alike met = alike fault met

-- the target is not added
pub form_without_target : (most : ℕ) (form : Text → List Text → Command Text)
    (names args : List Text)
    (t : Text) (ts : List Text) → target_and_names_in args ≡ Ok (t, ts) → (fault : LineFault)
    → added most names t ≡ Err fault → names_form_in most form names args ≡ Err fault
unfolding names_form_in
form_without_target most form names args t ts words fault e =
    let none = all_added-none _ names t ts fault e in
    rw (words, none) refl

-- the target is added, and not all the names are
pub form_without_names : {most : ℕ} (form : Text → List Text
    → Command Text) (names args : List Text) (t : Text) (ts mid : List Text) → length names ≤ most
    → target_and_names_in args ≡ Ok (t, ts) → added most names t ≡ Ok mid
    → (fault : LineFault) → all_added most mid ts ≡ Err fault
    → names_form_in most form names args ≡ Err fault
unfolding names_form_in
form_without_names {most} form names args t ts mid few words target fault e =
    let none = all_added-next names t ts mid few target ∙ e in
    rw (words, none) refl

-- all are added
pub form_with_names : {most : ℕ} (form : Text → List Text → Command Text) (names args : List Text)
    (t : Text)
    (ts mid after : List Text) → length names ≤ most → target_and_names_in args ≡ Ok (t, ts)
    → added most names t ≡ Ok mid → all_added most mid ts ≡ Ok after
    → names_form_in most form names args ≡ Ok (form t ts, after)
unfolding names_form_in
form_with_names {most} form names args t ts mid after few words target e =
    let all = all_added-next names t ts mid few target ∙ e in
    rw (words, all) refl

pub AllBelow-push : (k : ℕ) (ns : List ℕ) (n : ℕ) → AllBelow k ns → n < k
    → AllBelow k (ns ++ n ∷ [])
AllBelow-push k [] n all h = (h, tt)
AllBelow-push k (m ∷ ns) n all h = (all.0, AllBelow-push k ns n all.1 h)

pub all_at : {X : Type 0} (p : X → Bool) (xs : List X) (i : ℕ) (d : X) → list_all p xs ≡ true
    → i < length xs → p (get_or xs i d) ≡ true
all_at p [] i d all lt = absurd (omega arith)
all_at p (x ∷ xs) zero d all lt = (both (p x) (list_all p xs) all).0
all_at p (x ∷ xs) (suc i) d all lt =
    all_at p xs i d (both (p x) (list_all p xs) all).1 (omega arith)

-- the words of the code, as texts
abbrev pub texts_of : List (Bor (List ℕ)) → List Text
texts_of words = map (λ w. w.now) words

pub text_of : (words : List (Bor (List ℕ))) (i : ℕ) (d : Bor (List ℕ)) → d.now ≡ []
    → get_or (texts_of words) i [] ≡ (get_or words i d).now
text_of words i d e = rw (← e) (get_or-map (λ (w : Bor (List ℕ)). w.now) words i d)

pub length-texts : (words : List (Bor (List ℕ))) → length (texts_of words) ≡ length words
length-texts words = length-map words (λ (w : Bor (List ℕ)). w.now)

-- the words are a name and 1 to 64 names after it
pub record IsTargetAndNames (args : List Text) (t : Text) (ns : List Text) : Type 0 where
  pub words : args ≡ t ∷ ns
  pub target : IsTrue (is_name t)
  pub list : IsNameList ns

pub each_name : (ns : List Text) → list_all is_name ns ≡ true
    → AreAllNames ns
each_name [] all = tt
each_name (n ∷ ns) all =
    let k = both (is_name n) (list_all is_name ns) all in
    (k.0, each_name ns k.1)

pub all_names : (ns : List Text) → AreAllNames ns
    → list_all is_name ns ≡ true
all_names [] each = refl
all_names (n ∷ ns) each =
    let first : is_name n ≡ true = each.0 in
    let others = all_names ns each.1 in
    λ i. first i && others i

-- what is read from the words is what they are
pub target_and_names_found : (args : List Text) (t : Text) (ns : List Text)
    → target_and_names_in args ≡ Ok (t, ns) → IsTargetAndNames args t ns
unfolding target_and_names_in
target_and_names_found (w ∷ v ∷ vs) t ns e =
    let a = unless_ok (ltb 64 (length (v ∷ vs))) TooManyNames _ (t, ns) e in
    let b = unless_ok (not (list_all is_name (w ∷ v ∷ vs))) BadName _ (t, ns) a.1 in
    let each = each_name (w ∷ v ∷ vs) (not-false (list_all is_name (w ∷ v ∷ vs)) b.0) in
    let same = same_given {X = Text × List Text} (w, v ∷ vs) (t, ns) b.1 in
    let target : w ≡ t = ap (λ (x : Text × List Text). x.0) same in
    let list : v ∷ vs ≡ ns = ap (λ (x : Text × List Text). x.1) same in
    record {
      words = λ i. target i ∷ list i;
      target = subst (λ (x : Text). IsTrue (is_name x)) target each.0;
      list = subst IsNameList list
          (record { some = omega arith; few = ltb-false _ _ a.0; each = each.1 });
    }
target_and_names_found args t ns e = absurd cc

-- and such words are read
pub target_and_names_read : (t : Text) (ns : List Text) → IsTrue (is_name t) → IsNameList ns
    → target_and_names_in (t ∷ ns) ≡ Ok (t, ns)
unfolding target_and_names_in
target_and_names_read t [] good list = let some : 1 ≤ 0 = list.some in absurd (omega arith)
target_and_names_read t (n ∷ ns) good list =
    let few : ltb 64 (length (n ∷ ns)) ≡ false = le-ltb _ _ list.few in
    let all : list_all is_name (t ∷ n ∷ ns) ≡ true = all_names (t ∷ n ∷ ns) (good, list.each) in
    rw (few, all) refl

pub names_are_visible : (ns : List Text) → AreAllNames ns
    → AllByRecursion IsVisible ns
names_are_visible [] each = tt
names_are_visible (n ∷ ns) each = (name_is_visible n each.0, names_are_visible ns each.1)

-- the names of a command with these names are added
pub all_adds : {most : ℕ} (names ts : List Text) (command : Command Text) (after : List Text)
    → names_in command ≡ ts → all_added most names ts ≡ Ok after
    → AddsNames most names (command ∷ []) after
all_adds {most} names ts command after own e =
    let is = all_added-is names ts after e in (
      is.0 ∙ ap (with_names names)
          (sym (append-nil ts) ∙ ap (λ (l : List Text). l ++ []) (sym own)),
      is.1,
    )

pub all_fit : {most : ℕ} (names ts : List Text) (command : Command Text) (after : List Text)
    → names_in command ≡ ts → AddsNames most names (command ∷ []) after
    → all_added most names ts ≡ Ok after
all_fit {most} names ts command after own adds =
    all_added-fits names ts after
    (adds.0 ∙ ap (with_names names) (ap (λ (l : List Text). l ++ []) own ∙ append-nil ts)) adds.1
