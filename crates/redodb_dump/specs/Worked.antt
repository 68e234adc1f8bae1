-- Dumps that were worked out by hand, as a check of the definitions.
use Rattle.std.specs.Prelude.{ℕ, Bool, true, false, if◌then◌else◌, List, [], ◌∷◌, Option, Some, None, bytes_eq, codes}
use Rattle.std.specs.List.{flat_map}
use Rattle.sha1.specs.Sha1.{sha1}
use Rattle.redodb_model.specs.Names.{Text}
use Rattle.redodb_model.specs.State.{Cell, Mark, File, Digest, Builds, Pending, Absent, Rows, State, Building, Built, Failed, idle, no_rows}
use Rattle.redodb_history.specs.Histories.{ended}

-- what is known of a name but rows
pub record Known : Type 0 where
  pub name : Text
  pub cell : Cell
  pub grants : ℕ
  pub holder : Option ℕ

-- a name of which nothing is known but its file
abbrev pub with_file : Text → Option Text → Known
with_file name file = record {
  name = name;
  cell = record idle { file = file };
  grants = 0;
  holder = None;
}

abbrev pub known_of : List Known → Text → Known
known_of [] name = with_file name None
known_of (known ∷ others) name =
    if bytes_eq known.name name then known else known_of others name

-- the state in which this is known
abbrev pub state_with : List Known → Rows Text → State Text
state_with known rows = record {
  records = record { cell = λ name. (known_of known name).cell; rows = rows };
  locks = record {
    holder = λ name. (known_of known name).holder;
    grants = λ name. (known_of known name).grants;
  };
}

-- the rows of a target on a name
pub record RowsOn : Type 0 where
  pub name : Text
  pub change : Option Mark
  pub created : Bool

abbrev pub rows_on : List RowsOn → Text → RowsOn
rows_on [] name = record { name = name; change = None; created = false }
rows_on (rows ∷ others) name = if bytes_eq rows.name name then rows else rows_on others name

-- the target has these rows, and an always row
abbrev pub rows_of : Text → List RowsOn → Rows Text
rows_of t rows = record {
  change = λ u name. if bytes_eq t u then (rows_on rows name).change else None;
  created = λ u name. if bytes_eq t u then (rows_on rows name).created else false;
  always = λ u. bytes_eq t u;
}

-- a change row alone
abbrev pub marked : Text → Mark → RowsOn
marked name mark = record { name = name; change = Some mark; created = false }

abbrev pub nothing_dumped : Text
nothing_dumped = ended (codes "state 0 0 49d53525733ab592fe7182d48f3e73401a9763ca")

-- one source
abbrev pub source : State Text
source = state_with (with_file (codes "a.c") (Some (codes "10")) ∷ []) no_rows

abbrev pub source_dumped : Text
source_dumped = flat_map ended
    (codes "state 1 7 5e1008b3e327008c809c188e0f64cbc1c1b806d7"
    ∷ codes "a.c 10"
    ∷ [])

-- a target that the first session builds for the first time, over a file
abbrev pub known_of_building : List Known
known_of_building =
    record {
      name = codes "T";
      cell = record {
        file = Some (codes "5");
        state = Building 0;
        builds = 0;
        done = None;
        digest = None;
      };
      grants = 1;
      holder = Some 0;
    } ∷ []

abbrev pub building : State Text
building = state_with known_of_building no_rows

abbrev pub building_dumped : Text
building_dumped = flat_map ended
    (codes "state 1 23 1f62858ce7a1fd4ca83d7a556b5ed023f0a217ca"
    ∷ codes "T 5 building 0 - - 1 1"
    ∷ [])

-- a target, and names on which it has rows: with a mark of each kind that is not the name's of now, with one that is,
-- and without any

abbrev pub names_with_rows : List Text
names_with_rows =
    codes "T" ∷ codes "c" ∷ codes "d" ∷ codes "b" ∷ codes "p" ∷ codes "a" ∷ codes "n" ∷ codes "y"
    ∷ []

abbrev pub built_target : Known
built_target = record {
  name = codes "T";
  cell = record {
    file = Some (codes "5");
    state = Built;
    builds = 1;
    done = Some (codes "5");
    digest = None;
  };
  grants = 1;
  holder = None;
}

abbrev pub digested_target : Known
digested_target = record {
  name = codes "d";
  cell = record {
    file = Some (codes "20");
    state = Built;
    builds = 2;
    done = Some (codes "19");
    digest = Some (sha1 []);
  };
  grants = 2;
  holder = Some 1;
}

abbrev pub failed_target : Known
failed_target = record {
  name = codes "b";
  cell = record { file = None; state = Failed; builds = 3; done = None; digest = None };
  grants = 3;
  holder = None;
}

abbrev pub cells_with_rows : List Known
cells_with_rows =
    built_target
    ∷ with_file (codes "c") (Some (codes "10"))
    ∷ digested_target
    ∷ failed_target
    ∷ with_file (codes "p") (Some (codes "30"))
    ∷ with_file (codes "a") (Some (codes "40"))
    ∷ with_file (codes "n") (Some (codes "50"))
    ∷ with_file (codes "y") None
    ∷ []

abbrev pub rows_of_each_mark : List RowsOn
rows_of_each_mark =
    marked (codes "c") (File (codes "9"))
    ∷ marked (codes "d") (Digest (sha1 (codes "abc")))
    ∷ marked (codes "b") (Builds 1)
    ∷ marked (codes "p") Pending
    ∷ marked (codes "a") Absent
    ∷ record { name = codes "n"; change = Some (File (codes "50")); created = true }
    ∷ record { name = codes "y"; change = None; created = true }
    ∷ []

abbrev pub with_rows : State Text
with_rows = state_with cells_with_rows (rows_of (codes "T") rows_of_each_mark)

abbrev pub with_rows_dumped : Text
with_rows_dumped = flat_map ended
    (codes "state 8 195 71aed130e87cff343c60046bc7b6cc9e80c5d16a"
    ∷ codes "T 5 built 1 = - 1 -"
    ∷ codes "c 10"
    ∷ codes "d 20 built 2 s19 da39a3ee5e6b4b0d3255bfef95601890afd80709 2 2"
    ∷ codes "b - failed 3 = - 3 -"
    ∷ codes "p 30"
    ∷ codes "a 40"
    ∷ codes "n 50"
    ∷ codes "y -"
    ∷ codes "0 1 1f9 2da9993e364706816aba3e25717850c26c9cd0d89d 3b1 4p 5a +6= +7"
    ∷ [])
