-- Dumps: the text of all that is known of names.
use Rattle.std.specs.Prelude.{◌≡◌, ◌≢◌, ℕ, ◌+◌, ◌*◌, ◌<◌, ◌≤◌, ◌^◌, Bool, true, false, ◌&&◌, ◌==◌, is_none, if◌then◌else◌, List, [], ◌∷◌, ◌++◌, length, Option, Some, None, IfSome, Contains, bytes_eq, codes, decimal, ⊤}
use Rattle.std.specs.List.{flat_map, range_with_len}
use Rattle.std.specs.Option.{option_eq}
use Rattle.hex.specs.Hex.{encode_lower}
use Rattle.sha1.specs.Sha1.{sha1}
use Rattle.redodb_model.specs.Names.{Text, text_at}
use Rattle.redodb_model.specs.State.{Cell, Mark, File, Digest, Builds, Pending, Absent, State, Building, target_state, mark_of}
use Rattle.redodb_model.specs.Support.State.{is_idle}
use Rattle.redodb_model.specs.Support.Unknown.{IsUnknown}
use Rattle.redodb_names.specs.Support.Names.{AreNames}
use Rattle.redodb_commands.specs.Stamp.{is_stamp}
use Rattle.redodb_text.specs.Texts.{spaced, stamp_word, digest_word}
use Rattle.redodb_text.specs.Replies.{IsDigest}
use Rattle.redodb_history.specs.Histories.{ended}
use Rattle.redodb_live.specs.Answers.{flag_word, holder_word, stage_word}
use Rattle.redodb_dump.specs.declared.fault.LoadFault.{LoadFault}
use Rattle.redodb_dump.specs.declared.fault.LoadFault.TheVariants.{Memory, Worn, Line}

-- "-" means no stamp; "s" stands before a stamp
abbrev pub lettered_word : Option Text → Text
lettered_word None = codes "-"
lettered_word (Some stamp) = codes "s" ++ stamp

-- the stamp of the last done: "=" if it is that of the file
abbrev pub done_word : Option Text → Option Text → Text
done_word file done = if option_eq bytes_eq done file then codes "=" else lettered_word done

-- nothing is known of the name but its file
abbrev pub is_plain : Cell → ℕ → Option ℕ → Bool
is_plain cell grants holder =
    is_idle cell.state && cell.builds == 0 && is_none cell.done && is_none cell.digest
    && grants == 0 && is_none holder

-- what is known of a name but its file and rows; the builder of a building target is its holder
abbrev pub build_words : Cell → ℕ → Option ℕ → List Text
build_words cell grants holder =
    stage_word cell.state ∷ decimal cell.builds ∷ done_word cell.file cell.done
    ∷ digest_word cell.digest ∷ decimal grants ∷ holder_word holder ∷ []

-- what is known of a name but its rows
abbrev pub cell_words : Cell → ℕ → Option ℕ → List Text
cell_words cell grants holder =
    stamp_word cell.file
    ∷ (if is_plain cell grants holder then [] else build_words cell grants holder)

-- whether the marks are equal
abbrev pub same_mark : Mark → Mark → Bool
same_mark (File stamp) (File other) = bytes_eq stamp other
same_mark (Digest digest) (Digest other) = bytes_eq digest other
same_mark (Builds builds) (Builds other) = builds == other
same_mark Pending Pending = true
same_mark Absent Absent = true
same_mark mark other = false

-- a letter, and what the mark records
abbrev pub mark_word : Mark → Text
mark_word (File stamp) = codes "f" ++ stamp
mark_word (Digest digest) = codes "d" ++ encode_lower digest
mark_word (Builds builds) = codes "b" ++ decimal builds
mark_word Pending = codes "p"
mark_word Absent = codes "a"

-- the mark of a change row, if there is one: "=" if the name has it now
abbrev pub change_word : Mark → Option Mark → Text
change_word now None = []
change_word now (Some mark) = if same_mark mark now then codes "=" else mark_word mark

-- "+" means a created row
abbrev pub created_word : Bool → Text
created_word true = codes "+"
created_word false = []

-- the rows of a target on the name with this number: one word, or none if there are no rows
abbrev pub row_words : ℕ → Mark → Option Mark → Bool → List Text
row_words number now None false = []
row_words number now change created =
    (created_word created ++ decimal number ++ change_word now change) ∷ []

-- the line of the target with this number: none if it has no rows
abbrev pub rows_text : ℕ → Bool → List Text → Text
rows_text number false [] = []
rows_text number always rows = ended (spaced (decimal number) (flag_word always ∷ rows))

-- the numbers of the names
abbrev pub numbers_of : List Text → List ℕ
numbers_of names = range_with_len 0 (length names)

-- the first words of a dump: how many names and bytes come
abbrev pub counts : List Text → Text → Text
counts names body = spaced (codes "state") (decimal (length names) ∷ decimal (length body) ∷ [])

-- the digest of all of a dump but the digest itself
abbrev pub sum_of : List Text → Text → Text
sum_of names body = sha1 (ended (counts names body) ++ body)

-- the first line: how many names and bytes come, and the digest of these counts and bytes
abbrev pub state_line : List Text → Text → Text
state_line names body =
    ended (spaced (codes "state") (decimal (length names) ∷ decimal (length body)
    ∷ encode_lower (sum_of names body) ∷ []))

-- a name's line
abbrev pub cell_line : State Text → Text → Text
cell_line st name = ended (spaced name
    (cell_words (st.records.cell name) (st.locks.grants name) (st.locks.holder name)))

module _ (names : List Text) (st : State Text) where
  -- the rows of t on the name with this number
  abbrev pub row_words_at : Text → ℕ → List Text
  row_words_at t number =
      let name = text_at names number in
      row_words number (mark_of st.records name) (st.records.rows.change t name)
      (st.records.rows.created t name)

  -- the line of the rows of the target with this number
  abbrev pub rows_line : ℕ → Text
  rows_line number =
      let t = text_at names number in
      rows_text number (st.records.rows.always t) (flat_map (row_words_at t) (numbers_of names))

  -- a line for each name, and one for each target with rows
  abbrev pub body_of : Text
  body_of = flat_map (cell_line st) names ++ flat_map rows_line (numbers_of names)

  -- the dump of the state over the names
  abbrev pub dump_of : Text
  dump_of = state_line names body_of ++ body_of

-- a stamp, if there is one
abbrev pub IsStampOrNone : Option Text → Type 0
IsStampOrNone stamp = IfSome stamp (λ s. is_stamp s ≡ true)

-- what is required of a cell
pub record HasCellForm (cell : Cell) : Type 0 where
  pub file : IsStampOrNone cell.file
  pub builds : cell.builds < 2 ^ 32
  pub done : IsStampOrNone cell.done
  pub digest : IfSome cell.digest IsDigest

-- what is required of a mark
abbrev pub HasMarkForm : Mark → Type 0
HasMarkForm (File stamp) = is_stamp stamp ≡ true
HasMarkForm (Digest digest) = IsDigest digest
HasMarkForm (Builds builds) = builds < 2 ^ 32
HasMarkForm Pending = ⊤
HasMarkForm Absent = ⊤

-- nothing is known of the text as a name, and no row is on it
pub record IsUnheardOf (st : State Text) (text : Text) : Type 0 where
  pub unknown : IsUnknown st text
  pub grants : st.locks.grants text ≡ 0
  pub change : (t : Text) → st.records.rows.change t text ≡ None
  pub created : (t : Text) → st.records.rows.created t text ≡ false

-- only sessions that a conversation can have hold names
abbrev pub HasSessions : State Text → Type 0
HasSessions st = (name : Text) → IfSome (st.locks.holder name) (λ s. s < 65535)

-- no name was built or granted more often
pub record HasCountsUpTo (st : State Text) (most : ℕ) : Type 0 where
  pub builds : (name : Text) → (st.records.cell name).builds ≤ most
  pub grants : (name : Text) → st.locks.grants name ≤ most

-- a state that knows no other names than these, and whose stamps, digests and numbers have their form
pub record IsStateOver (names : List Text) (st : State Text) : Type 0 where
  pub are_names : AreNames names
  pub others : (text : Text) → ¬ (Contains names text) → IsUnheardOf st text
  -- the builder of a building target holds it
  pub builders : (t : Text) (s : ℕ) → target_state st.records t ≡ Building s
      → st.locks.holder t ≡ Some s
  pub cells : (name : Text) → HasCellForm (st.records.cell name)
  pub marks : (t name : Text) → IfSome (st.records.rows.change t name) HasMarkForm
  pub holders : HasSessions st
  pub grants : (name : Text) → st.locks.grants name < 2 ^ 32

-- a state that a dump can have: there are no more names than a database has at most
pub record IsDumped (names : List Text) (st : State Text) : Type 0 where
  pub over : IsStateOver names st
  pub few : length names ≤ 16777216

-- names were built or granted so often that too few calls are left for so many names
abbrev pub IsWorn : List Text → State Text → Type 0
IsWorn names st =
    (most : ℕ) → HasCountsUpTo st most → 4294967165 < most + 2 * length names

-- the cause of a fault; `Memory` says nothing of the text
abbrev pub IsLoadFault : Text → LoadFault → Type 0
IsLoadFault text Memory = ⊤
IsLoadFault text Worn =
    (names : List Text) (st : State Text) (rest : Text) → IsDumped names st
    → text ≡ dump_of names st ++ rest → IsWorn names st
IsLoadFault text (Line number) =
    (names : List Text) (st : State Text) (rest : Text) → IsDumped names st
    → text ≢ dump_of names st ++ rest
