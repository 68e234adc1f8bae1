-- Histories that were worked out by hand, as a check of the definitions.
use Rattle.std.specs.Prelude.{ℕ, zero, suc, List, [], ◌∷◌, Some, None, codes}
use Rattle.redodb_model.specs.Names.{Text}
use Rattle.redodb_model.specs.Command.{Command, File, Gone, Lock, Unlock, Start, IfChange, IfCreate, Always, Stamp, Done, Failed, Ood, Targets, Sources}
use Rattle.redodb_model.specs.Reply.{Reply, NotLocked, Building, NotBuilding, Itself, Exists, Okay, Granted, Busy, Stale, Stamped, Refused}
use Rattle.redodb_model.specs.Reply as replies
use Rattle.redodb_model.specs.History.{Line}

abbrev pub said : ℕ → Command Text → Reply Text → Line Text
said session command reply = record { session = session; command = command; reply = reply }

-- the lines with another reply on line k, counted from 0
abbrev pub with_reply : ℕ → Reply Text → List (Line Text) → List (Line Text)
with_reply k reply [] = []
with_reply zero reply (line ∷ lines) = record line { reply = reply } ∷ lines
with_reply (suc k) reply (line ∷ lines) = line ∷ with_reply k reply lines

-- one session builds a target from a source
abbrev pub common_path : List (Line Text)
common_path =
    let source = codes "a.c" in
    let target = codes "a.o" in
    said 0 (File source (codes "10")) Okay
    ∷ said 0 (Lock target) (Granted 1)
    ∷ said 0 (Start target) Okay
    ∷ said 0 (IfChange target (source ∷ [])) Okay
    ∷ said 0 (Done target (Some (codes "20"))) Okay
    ∷ said 0 (Unlock target) Okay
    ∷ said 0 Ood (replies.Ood [])
    ∷ said 0 Targets (replies.Targets (target ∷ []))
    ∷ said 0 Sources (replies.Sources (source ∷ []))
    ∷ []

-- a file appears that was missing when a target was built, and is gone again
abbrev pub appearance : List (Line Text)
appearance =
    let target = codes "T" in
    said 0 (Lock target) (Granted 1)
    ∷ said 0 (Start target) Okay
    ∷ said 0 (IfCreate target (codes "y" ∷ [])) Okay
    ∷ said 0 (Done target (Some (codes "5"))) Okay
    ∷ said 0 Ood (replies.Ood [])
    ∷ said 0 (File (codes "y") (codes "1")) Okay
    ∷ said 0 Ood (replies.Ood (target ∷ []))
    ∷ said 0 (Gone (codes "y")) Okay
    ∷ said 0 Ood (replies.Ood [])
    ∷ []

-- two sessions, and which refusal comes first
abbrev pub order_of_refusals : List (Line Text)
order_of_refusals =
    let target = codes "T" in
    said 0 (Start target) (Refused NotLocked)
    ∷ said 0 (Lock target) (Granted 1)
    ∷ said 1 (Start target) (Refused NotLocked)
    ∷ said 0 (Start target) Okay
    ∷ said 0 (Start target) (Refused Building)
    ∷ said 0 (Unlock target) (Refused Building)
    ∷ said 1 (Unlock target) (Refused NotLocked)
    ∷ said 0 (IfChange target (target ∷ [])) (Refused Itself)
    ∷ said 0 (File (codes "x") (codes "1")) Okay
    ∷ said 0 (IfCreate target (codes "x" ∷ target ∷ [])) (Refused Itself)
    ∷ said 1 (Done target (Some (codes "5"))) (Refused NotBuilding)
    ∷ said 1 (Lock target) (Busy 1)
    ∷ said 0 (Done target (Some (codes "5"))) Okay
    ∷ said 0 (IfChange target (target ∷ [])) (Refused NotBuilding)
    ∷ said 0 (Unlock target) Okay
    ∷ said 0 (Unlock target) (Refused NotLocked)
    ∷ said 1 (Lock target) (Granted 2)
    ∷ []

-- the digest of "abc"
abbrev pub digest_of_abc : List ℕ
digest_of_abc =
    0xa9 ∷ 0x99 ∷ 0x3e ∷ 0x36 ∷ 0x47 ∷ 0x06 ∷ 0x81 ∷ 0x6a ∷ 0xba ∷ 0x3e ∷ 0x25 ∷ 0x71 ∷ 0x78 ∷ 0x50
    ∷ 0xc2 ∷ 0x6c ∷ 0x9c ∷ 0xd0 ∷ 0xd8 ∷ 0x9d ∷ []

-- the digest of no bytes
abbrev pub digest_of_nothing : List ℕ
digest_of_nothing =
    0xda ∷ 0x39 ∷ 0xa3 ∷ 0xee ∷ 0x5e ∷ 0x6b ∷ 0x4b ∷ 0x0d ∷ 0x32 ∷ 0x55 ∷ 0xbf ∷ 0xef ∷ 0x95 ∷ 0x60
    ∷ 0x18 ∷ 0x90 ∷ 0xaf ∷ 0xd8 ∷ 0x07 ∷ 0x09 ∷ []

-- two targets that depend on each other
abbrev pub cycle : List (Line Text)
cycle =
    let a = codes "a" in
    let b = codes "b" in
    said 0 (Lock a) (Granted 1)
    ∷ said 0 (Lock b) (Granted 1)
    ∷ said 0 (Start a) Okay
    ∷ said 0 (Stamp a (codes "abc")) (Stamped digest_of_abc)
    ∷ said 0 (Done a (Some (codes "1"))) Okay
    ∷ said 0 (Start b) Okay
    ∷ said 0 (Stamp b []) (Stamped digest_of_nothing)
    ∷ said 0 (IfChange b (a ∷ [])) Okay
    ∷ said 0 (Done b (Some (codes "1"))) Okay
    ∷ said 0 (Start a) Okay
    ∷ said 0 (IfChange a (b ∷ [])) (Stale (b ∷ []))
    ∷ said 0 (Stamp a (codes "abc")) (Stamped digest_of_abc)
    ∷ said 0 (Done a (Some (codes "2"))) Okay
    ∷ said 0 Ood (replies.Ood [])
    ∷ said 0 (Start a) Okay
    ∷ said 0 (Failed a) Okay
    ∷ said 0 Ood (replies.Ood (a ∷ b ∷ []))
    ∷ said 0 (Start a) Okay
    ∷ said 0 (IfChange a (b ∷ [])) (Stale (b ∷ []))
    ∷ said 0 (Stamp a (codes "abc")) (Stamped digest_of_abc)
    ∷ said 0 (Done a (Some (codes "3"))) Okay
    ∷ said 0 Ood (replies.Ood [])
    ∷ []

-- a target fails after its content was stamped, another one is built from it, and then it is built
-- with the same content
abbrev pub failed_mark : List (Line Text)
failed_mark =
    let failing = codes "X" in
    let target = codes "T" in
    said 0 (Lock failing) (Granted 1)
    ∷ said 0 (Start failing) Okay
    ∷ said 0 (Stamp failing (codes "abc")) (Stamped digest_of_abc)
    ∷ said 0 (Failed failing) Okay
    ∷ said 0 (Lock target) (Granted 1)
    ∷ said 0 (Start target) Okay
    ∷ said 0 (IfChange target (failing ∷ [])) (Stale (failing ∷ []))
    ∷ said 0 (Done target (Some (codes "1"))) Okay
    ∷ said 0 (Start failing) Okay
    ∷ said 0 (Stamp failing (codes "abc")) (Stamped digest_of_abc)
    ∷ said 0 (Done failing (Some (codes "1"))) Okay
    ∷ said 0 Ood (replies.Ood (target ∷ []))
    ∷ []

-- a target is out of date by its always row, while it is built, and while its file isn't the one
-- that its build left
abbrev pub own_reasons : List (Line Text)
own_reasons =
    let target = codes "T" in
    said 0 (Lock target) (Granted 1)
    ∷ said 0 (Start target) Okay
    ∷ said 0 (Always target) Okay
    ∷ said 0 (Done target (Some (codes "1"))) Okay
    ∷ said 0 Ood (replies.Ood (target ∷ []))
    ∷ said 0 (Start target) Okay
    ∷ said 0 Ood (replies.Ood (target ∷ []))
    ∷ said 0 (Done target (Some (codes "10"))) Okay
    ∷ said 0 Ood (replies.Ood [])
    ∷ said 0 (File target (codes "1")) Okay
    ∷ said 0 Ood (replies.Ood (target ∷ []))
    ∷ said 0 (Gone target) Okay
    ∷ said 0 Ood (replies.Ood [])
    ∷ said 0 Targets (replies.Targets [])
    ∷ said 0 (File target (codes "10")) Okay
    ∷ said 0 Ood (replies.Ood [])
    ∷ said 0 Targets (replies.Targets (target ∷ []))
    ∷ []

-- a change row replaces an older one on its name, and goes when the next build starts
abbrev pub change_rows : List (Line Text)
change_rows =
    let target = codes "T" in
    let first = codes "x" in
    let second = codes "y" in
    said 0 (File first (codes "1")) Okay
    ∷ said 0 (File second (codes "1")) Okay
    ∷ said 0 (Lock target) (Granted 1)
    ∷ said 0 (Start target) Okay
    ∷ said 0 (IfChange target (first ∷ [])) Okay
    ∷ said 0 (File first (codes "10")) Okay
    ∷ said 0 (IfChange target (first ∷ [])) Okay
    ∷ said 0 (IfChange target (second ∷ [])) Okay
    ∷ said 0 (Done target (Some (codes "1"))) Okay
    ∷ said 0 Ood (replies.Ood [])
    ∷ said 0 (File first (codes "1")) Okay
    ∷ said 0 Ood (replies.Ood (target ∷ []))
    ∷ said 0 (Gone first) Okay
    ∷ said 0 Ood (replies.Ood (target ∷ []))
    ∷ said 0 Sources (replies.Sources (second ∷ []))
    ∷ said 0 (Start target) Okay
    ∷ said 0 (Done target (Some (codes "10"))) Okay
    ∷ said 0 Ood (replies.Ood [])
    ∷ said 0 Sources (replies.Sources [])
    ∷ []

-- names without a file are stale, and have changed once they get one
abbrev pub names_without_a_file : List (Line Text)
names_without_a_file =
    let target = codes "T" in
    let first = codes "p" in
    let second = codes "q" in
    said 0 (Lock target) (Granted 1)
    ∷ said 0 (Start target) Okay
    ∷ said 0 (IfChange target (second ∷ first ∷ second ∷ [])) (Stale (first ∷ second ∷ []))
    ∷ said 0 (Done target (Some (codes "1"))) Okay
    ∷ said 0 Ood (replies.Ood [])
    ∷ said 0 (File first (codes "1")) Okay
    ∷ said 0 Ood (replies.Ood (target ∷ []))
    ∷ said 0 Sources (replies.Sources (first ∷ []))
    ∷ []

-- a target is built while two names have no file, and one of them appears
abbrev pub created_rows : List (Line Text)
created_rows =
    let target = codes "T" in
    let first = codes "y" in
    let second = codes "q" in
    said 0 (Lock target) (Granted 1)
    ∷ said 0 (Start target) Okay
    ∷ said 0 (IfCreate target (first ∷ [])) Okay
    ∷ said 0 (IfCreate target (second ∷ [])) Okay
    ∷ said 0 (Done target (Some (codes "5"))) Okay
    ∷ said 0 Ood (replies.Ood [])
    ∷ said 0 (File first (codes "1")) Okay
    ∷ said 0 Ood (replies.Ood (target ∷ []))
    ∷ said 0 Sources (replies.Sources (first ∷ []))
    ∷ []

-- a built name's mark is its content if that was stamped, else the number of builds
abbrev pub contents_and_builds : List (Line Text)
contents_and_builds =
    let library = codes "lib" in
    let program = codes "app" in
    said 0 (Lock library) (Granted 1)
    ∷ said 0 (Start library) Okay
    ∷ said 0 (Stamp library (codes "abc")) (Stamped digest_of_abc)
    ∷ said 0 (Done library (Some (codes "1"))) Okay
    ∷ said 0 (Lock program) (Granted 1)
    ∷ said 0 (Start program) Okay
    ∷ said 0 (IfChange program (library ∷ [])) Okay
    ∷ said 0 (Done program (Some (codes "1"))) Okay
    ∷ said 0 (Start library) Okay
    ∷ said 0 (Done library (Some (codes "1"))) Okay
    ∷ said 0 Ood (replies.Ood (program ∷ []))
    ∷ said 0 (Start program) Okay
    ∷ said 0 (IfChange program (library ∷ [])) Okay
    ∷ said 0 (Done program (Some (codes "1"))) Okay
    ∷ said 0 Ood (replies.Ood [])
    ∷ said 0 (Start library) Okay
    ∷ said 0 (Done library (Some (codes "1"))) Okay
    ∷ said 0 Ood (replies.Ood (program ∷ []))
    ∷ []

-- a created row on a target is no change row on it, and can be beside one
abbrev pub rows_of_both_kinds : List (Line Text)
rows_of_both_kinds =
    let target = codes "T" in
    let other = codes "x" in
    said 0 (Lock other) (Granted 1)
    ∷ said 0 (Start other) Okay
    ∷ said 0 (Failed other) Okay
    ∷ said 0 (Lock target) (Granted 1)
    ∷ said 0 (Start target) Okay
    ∷ said 0 (IfCreate target (other ∷ [])) Okay
    ∷ said 0 (Done target (Some (codes "1"))) Okay
    ∷ said 0 Ood (replies.Ood [])
    ∷ said 0 (Start other) Okay
    ∷ said 0 (Done other None) Okay
    ∷ said 0 (Start target) Okay
    ∷ said 0 (IfChange target (other ∷ [])) Okay
    ∷ said 0 (IfCreate target (other ∷ [])) Okay
    ∷ said 0 (Done target (Some (codes "1"))) Okay
    ∷ said 0 Ood (replies.Ood [])
    ∷ said 0 (Start other) Okay
    ∷ said 0 (Done other None) Okay
    ∷ said 0 Ood (replies.Ood (target ∷ []))
    ∷ []

-- a chain of change rows that leads through a target without a file
abbrev pub chain_without_a_file : List (Line Text)
chain_without_a_file =
    let library = codes "lib" in
    let group = codes "all" in
    let program = codes "top" in
    said 0 (Lock library) (Granted 1)
    ∷ said 0 (Start library) Okay
    ∷ said 0 (Done library (Some (codes "1"))) Okay
    ∷ said 0 (Lock group) (Granted 1)
    ∷ said 0 (Start group) Okay
    ∷ said 0 (IfChange group (library ∷ [])) Okay
    ∷ said 0 (Done group None) Okay
    ∷ said 0 (Lock program) (Granted 1)
    ∷ said 0 (Start program) Okay
    ∷ said 0 (IfChange program (group ∷ [])) Okay
    ∷ said 0 (Done program (Some (codes "1"))) Okay
    ∷ said 0 (File library (codes "10")) Okay
    ∷ said 0 Ood (replies.Ood (library ∷ program ∷ []))
    ∷ said 0 Targets (replies.Targets (library ∷ program ∷ []))
    ∷ []

-- what is refused to a session that doesn't build, which name exists, and two locks
abbrev pub refusals_and_locks : List (Line Text)
refusals_and_locks =
    let target = codes "T" in
    let other = codes "U" in
    said 0 (Lock target) (Granted 1)
    ∷ said 0 (Lock target) (Busy 1)
    ∷ said 0 (Always target) (Refused NotBuilding)
    ∷ said 0 (Stamp target []) (Refused NotBuilding)
    ∷ said 0 (Done target None) (Refused NotBuilding)
    ∷ said 0 (Failed target) (Refused NotBuilding)
    ∷ said 0 (IfCreate target (target ∷ [])) (Refused NotBuilding)
    ∷ said 0 (Start target) Okay
    ∷ said 1 (Start target) (Refused NotLocked)
    ∷ said 1 (Always target) (Refused NotBuilding)
    ∷ said 1 (Stamp target []) (Refused NotBuilding)
    ∷ said 1 (Failed target) (Refused NotBuilding)
    ∷ said 1 (IfChange target (target ∷ [])) (Refused NotBuilding)
    ∷ said 1 (IfCreate target (target ∷ [])) (Refused NotBuilding)
    ∷ said 0 (File (codes "z") (codes "1")) Okay
    ∷ said 0 (File (codes "x") (codes "1")) Okay
    ∷ said 0 (IfCreate target (codes "y" ∷ codes "z" ∷ codes "x" ∷ []))
    (Refused (Exists (codes "z")))
    ∷ said 1 (Lock other) (Granted 1)
    ∷ said 0 (Failed target) Okay
    ∷ said 0 (Always target) (Refused NotBuilding)
    ∷ said 0 (Unlock target) Okay
    ∷ said 0 (Lock other) (Busy 1)
    ∷ said 1 (Unlock other) Okay
    ∷ said 0 (Lock target) (Granted 2)
    ∷ said 0 (Done target (Some (codes "1"))) (Refused NotBuilding)
    ∷ said 0 (Start target) Okay
    ∷ []
