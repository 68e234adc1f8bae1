-- Each of the states that were worked out by hand is one over its names.
use Rattle.std.proofs.Common.{◌≡◌, ℕ, ◌<◌, ◌^◌, Bool, true, false, ◌&&◌, List, [], ◌∷◌, Option, Some, None, IfSome, map, refl, ap, ◌∙◌, subst, arith, if◌then◌else◌}
use Rattle.std.specs.Prelude.{bytes_eq, not, codes, Contains}
use Rattle.std.specs.List.{AllByRecursion, IsDistinct, list_all}
use Rattle.std.specs.Cmp.Lexicographic.{bytes_decides}
use Rattle.std.proofs.lemmas.Map.Views.{Contains-from_any}
use Rattle.redodb_names.specs.Names.{is_name, has}
use Rattle.redodb_names.specs.Support.Names.{AreNames}
use Rattle.redodb_names.proofs.NameLists.{AreNames-none}
use Rattle.redodb_model.specs.Names.{Text}
use Rattle.redodb_model.specs.State.{Rows, Building, empty, no_rows}
use Rattle.redodb_commands.specs.Stamp.{is_stamp}
use Rattle.redodb_text.proofs.Steps.{both, neither}
use Rattle.redodb_history.proofs.Digests.{sha1_is_digest}
use Rattle.redodb_dump.specs.Dumps.{HasCellForm, HasMarkForm, IsStateOver}
use Rattle.redodb_dump.specs.Worked.{Known, RowsOn, with_file, known_of, rows_on, rows_of, state_with}
use Rattle.redodb_dump.specs.Worked as worked

-- names

abbrev are_apart : List Text → Bool
are_apart [] = true
are_apart (n ∷ names) = not (has names n) && are_apart names

none_is : (n : Text) (names : List Text) → not (has names n) ≡ true
    → AllByRecursion (λ y. bytes_eq n y ≡ false) names
none_is n [] e = tt
none_is n (m ∷ names) e =
    let parts = neither (bytes_eq n m) (has names n) (is_false (has (m ∷ names) n) e) in
    (parts.0, none_is n names (ap not parts.1))
  where
    is_false : (b : Bool) → not b ≡ true → b ≡ false
    is_false true e = absurd cc
    is_false false e = refl

distinct : (names : List Text) → are_apart names ≡ true → IsDistinct bytes_eq names
unfolding IsDistinct
distinct [] e = tt
distinct (n ∷ names) e =
    let parts = both (not (has names n)) (are_apart names) e in
    (none_is n names parts.0, distinct names parts.1)

among : (names ns : List Text) → list_all (has names) ns ≡ true
    → AllByRecursion (Contains names) ns
among names [] e = tt
among names (n ∷ ns) e =
    let parts = both (has names n) (list_all (has names) ns) e in
    (Contains-from_any (λ x y. (bytes_decides x y).0) n names parts.0, among names ns parts.1)

-- what is known of some names is known of each

abbrev IsForm : Known → Type 0
IsForm known =
    HasCellForm known.cell
    × IfSome known.holder (λ s. s < 65535)
    × (known.grants < 2 ^ 32)
    × ((s : ℕ) → known.cell.state ≡ Building s → known.holder ≡ Some s)

of_each : (P : Known → Type 0) → ((name : Text) → P (with_file name None)) → (all : List Known)
    → AllByRecursion P all → (name : Text) → P (known_of all name)
of_each P none [] are name = none name
of_each P none (known ∷ all) are name =
    by (bytes_eq known.name name) (of_each P none all are.1 name)
  where
    by : (b : Bool) → P (known_of all name) → P (if b then known else known_of all name)
    by true later = are.0
    by false later = later

of_each_row : (P : RowsOn → Type 0)
    → ((name : Text) → P (record { name = name; change = None; created = false }))
    → (all : List RowsOn) → AllByRecursion P all → (name : Text) → P (rows_on all name)
of_each_row P none [] are name = none name
of_each_row P none (rows ∷ all) are name =
    by (bytes_eq rows.name name) (of_each_row P none all are.1 name)
  where
    by : (b : Bool) → P (rows_on all name) → P (if b then rows else rows_on all name)
    by true later = are.0
    by false later = later

-- a text that isn't among the names is none of theirs
is_none : (names : List Text) (name text : Text) → Contains names name
    → (Contains names text → ⊥) → bytes_eq name text ≡ false
is_none names name text has none = by (bytes_eq name text) refl
  where
    by : (b : Bool) → bytes_eq name text ≡ b → b ≡ false
    by true e =
        absurd (none (subst (Contains names) ((bytes_decides name text).0 e) has))
    by false e = refl

unknown_is : (names : List Text) (all : List Known)
    → AllByRecursion (Contains names) (map (λ (known : Known). known.name) all) → (text : Text)
    → (Contains names text → ⊥) → known_of all text ≡ with_file text None
unknown_is names [] are text none = refl
unknown_is names (known ∷ all) are text none =
    ap (λ b. if b then known else known_of all text)
    (is_none names known.name text are.0 none)
    ∙ unknown_is names all are.1 text none

no_rows_on : (names : List Text) (all : List RowsOn)
    → AllByRecursion (Contains names) (map (λ (rows : RowsOn). rows.name) all) → (text : Text)
    → (Contains names text → ⊥)
    → rows_on all text ≡ record { name = text; change = None; created = false }
no_rows_on names [] are text none = refl
no_rows_on names (rows ∷ all) are text none =
    ap (λ b. if b then rows else rows_on all text)
    (is_none names rows.name text are.0 none)
    ∙ no_rows_on names all are.1 text none

with_file_has_form : (name : Text) (file : Option Text)
    → IfSome file (λ stamp. is_stamp stamp ≡ true) → IsForm (with_file name file)
with_file_has_form name file is = (
  record { file = is; builds = omega arith; done = tt; digest = tt },
  tt,
  omega arith,
  λ s e. absurd cc,
)

-- rows of names alone, whose marks have their form
record AreRowsOn (names : List Text) (rows : Rows Text) : Type 0 where
  marks : (t n : Text) → IfSome (rows.change t n) HasMarkForm
  change_of : (t : Text) → (Contains names t → ⊥) → (n : Text) → rows.change t n ≡ None
  created_of : (t : Text) → (Contains names t → ⊥) → (n : Text) → rows.created t n ≡ false
  always_of : (t : Text) → (Contains names t → ⊥) → rows.always t ≡ false
  change_on : (n : Text) → (Contains names n → ⊥) → (t : Text) → rows.change t n ≡ None
  created_on : (n : Text) → (Contains names n → ⊥) → (t : Text) → rows.created t n ≡ false

no_rows_are : (names : List Text) → AreRowsOn names no_rows
no_rows_are names = record {
  marks = λ t n. tt;
  change_of = λ t none n. refl;
  created_of = λ t none n. refl;
  always_of = λ t none. refl;
  change_on = λ n none t. refl;
  created_on = λ n none t. refl;
}

state_is : (names : List Text) (all : List Known) (rows : Rows Text) → AreNames names
    → list_all (has names) (map (λ (known : Known). known.name) all) ≡ true
    → AllByRecursion IsForm all → AreRowsOn names rows → IsStateOver names (state_with all rows)
state_is names all rows are known forms on = record {
  are_names = are;
  others = λ text none.
      let is = unknown_is names all (among names (map (λ (k : Known). k.name) all) known) text none
      in
      record {
        unknown = record {
          cell = ap (λ (k : Known). k.cell) is;
          change = on.change_of text none;
          created = on.created_of text none;
          always = on.always_of text none;
          holder = ap (λ (k : Known). k.holder) is;
        };
        grants = ap (λ (k : Known). k.grants) is;
        change = on.change_on text none;
        created = on.created_on text none;
      };
  builders = λ t. (form t).3;
  cells = λ name. (form name).0;
  marks = on.marks;
  holders = λ name. (form name).1;
  grants = λ name. (form name).2;
}
  where
    form : (name : Text) → IsForm (known_of all name)
    form = of_each IsForm (λ name. with_file_has_form name None tt) all forms

-- rows of one target

rows_are : (names : List Text) (t : Text) (all : List RowsOn)
    → list_all (has names) (t ∷ map (λ (rows : RowsOn). rows.name) all) ≡ true
    → AllByRecursion (λ (rows : RowsOn). IfSome rows.change HasMarkForm) all
    → AreRowsOn names (rows_of t all)
rows_are names t all known forms = record {
  marks = λ u n. mark_at n (bytes_eq t u);
  change_of = λ u none n.
      ap (λ b. if b then (rows_on all n).change else None) (is_none names t u own none);
  created_of = λ u none n.
      ap (λ b. if b then (rows_on all n).created else false) (is_none names t u own none);
  always_of = λ u none. is_none names t u own none;
  change_on = λ n none u.
      change_at n (ap (λ (r : RowsOn). r.change) (no_rows_on names all others n none))
      (bytes_eq t u);
  created_on = λ n none u.
      created_at n (ap (λ (r : RowsOn). r.created) (no_rows_on names all others n none))
      (bytes_eq t u);
}
  where
    own : Contains names t
    own = (among names (t ∷ map (λ (rows : RowsOn). rows.name) all) known).0

    others : AllByRecursion (Contains names) (map (λ (rows : RowsOn). rows.name) all)
    others = (among names (t ∷ map (λ (rows : RowsOn). rows.name) all) known).1

    mark_at : (n : Text) (b : Bool)
        → IfSome (if b then (rows_on all n).change else None) HasMarkForm
    mark_at n true =
        of_each_row (λ (r : RowsOn). IfSome r.change HasMarkForm) (λ name. tt) all forms n
    mark_at n false = tt

    change_at : (n : Text) → (rows_on all n).change ≡ None → (b : Bool)
        → (if b then (rows_on all n).change else None) ≡ None
    change_at n e true = e
    change_at n e false = refl

    created_at : (n : Text) → (rows_on all n).created ≡ false → (b : Bool)
        → (if b then (rows_on all n).created else false) ≡ false
    created_at n e true = e
    created_at n e false = refl

-- the states

one_name : (n : Text) → is_name n ≡ true → AreNames (n ∷ [])
one_name n is = record { few = omega arith; distinct = distinct (n ∷ []) refl; each = (is, tt) }

pub nothing_is : IsStateOver [] empty
nothing_is = state_is [] [] no_rows AreNames-none refl tt (no_rows_are [])

pub source_is : IsStateOver (codes "a.c" ∷ []) worked.source
unfolding is_name is_stamp
source_is =
    let name = codes "a.c" in
    let file : Option Text = Some (codes "10") in
    state_is (name ∷ []) (with_file name file ∷ []) no_rows (one_name name refl)
    refl (with_file_has_form name file refl, tt) (no_rows_are (name ∷ []))

pub building_is : IsStateOver (codes "T" ∷ []) worked.building
unfolding is_name is_stamp
building_is =
    state_is (codes "T" ∷ []) worked.known_of_building no_rows (one_name (codes "T") refl) refl (
      (
        record { file = refl; builds = omega arith; done = tt; digest = tt },
        omega arith,
        omega arith,
        λ s e. held s e,
      ),
      tt,
    )
    (no_rows_are (codes "T" ∷ []))
  where
    held : (s : ℕ) → Building 0 ≡ Building s → Some 0 ≡ Some s
    held s e = let same : 0 ≡ s = cc in ap Some same

names_are : AreNames worked.names_with_rows
unfolding is_name
names_are = record {
  few = omega arith;
  distinct = distinct worked.names_with_rows refl;
  each = (refl, (refl, (refl, (refl, (refl, (refl, (refl, (refl, tt))))))));
}

pub with_rows_is : IsStateOver worked.names_with_rows worked.with_rows
unfolding is_stamp
with_rows_is =
    state_is worked.names_with_rows worked.cells_with_rows
    (rows_of (codes "T") worked.rows_of_each_mark) names_are refl (
      built,
      (
        file (codes "c") (codes "10") refl,
        (
          digested,
          (
            failed,
            (
              file (codes "p") (codes "30") refl,
              (
                file (codes "a") (codes "40") refl,
                (file (codes "n") (codes "50") refl, (with_file_has_form (codes "y") None tt, tt)),
              ),
            ),
          ),
        ),
      ),
    )
    (rows_are worked.names_with_rows (codes "T") worked.rows_of_each_mark refl
    (refl, (sha1_is_digest (codes "abc"), (omega arith, (tt, (tt, (refl, (tt, tt))))))))
  where
    file : (name stamp : Text) → is_stamp stamp ≡ true
        → IsForm (with_file name (Some stamp))
    file name stamp is = with_file_has_form name (Some stamp) is

    built : IsForm worked.built_target
    built = (
      record { file = refl; builds = omega arith; done = refl; digest = tt },
      tt,
      omega arith,
      λ s e. absurd cc,
    )

    digested : IsForm worked.digested_target
    digested = (
      record { file = refl; builds = omega arith; done = refl; digest = sha1_is_digest [] },
      omega arith,
      omega arith,
      λ s e. absurd cc,
    )

    failed : IsForm worked.failed_target
    failed = (
      record { file = tt; builds = omega arith; done = tt; digest = tt },
      tt,
      omega arith,
      λ s e. absurd cc,
    )
