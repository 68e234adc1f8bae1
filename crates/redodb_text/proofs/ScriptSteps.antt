-- Reading a script: from line to line, and to its end.
use Rattle.std.proofs.Common.{◌≡◌, ℕ, ◌+◌, List, [], ◌∷◌, ◌++◌, length, Err, refl, sym, ap, subst, ◌∙◌, arith, length-append, append_assoc}
use Rattle.std.specs.Prelude.{MatchOption, Option, Some, None}
use Rattle.redodb_model.specs.Names.{Text}
use Rattle.redodb_model.specs.Command.{Item}
use Rattle.redodb_text.specs.Grammar.{lines_of, IsScript, AreScriptLines}
use Rattle.redodb_text.specs.Faults.{IsFirstFault}
use Rattle.redodb_text.specs.Support.Faults.{IsReadFault}
use Rattle.redodb_text.specs.Support.Reading.{script_line_in}
use Rattle.redodb_text.specs.declared.fault.LineFault.{LineFault}
use Rattle.redodb_text.specs.declared.fault.Unread.{Unread}
use Rattle.redodb_text.specs.declared.fault.Unread.TheVariants as unread
use Rattle.redodb_text.specs.declared.fault.ReadFault.{ReadFault}
use Rattle.redodb_text.specs.declared.fault.ReadFault.TheVariants as faults
use Rattle.redodb_text.proofs.Asked.{fault_in, asked_file_line}
use Rattle.redodb_text.proofs.ScriptLaws.{no_fault_in_a_script}

-- the lines before the rest are read as these items, and the rest begins at the line of this
-- number
pub record IsReadSoFar (names : List Text) (text : Text) (rest : Text) (number : ℕ)
    (items : List (Item Text)) (after : List Text) : Type 0 where
  pub before : List Text
  pub lines : lines_of text ≡ before ++ lines_of rest
  pub counted : number ≡ length before + 1
  pub script : AreScriptLines names before items after

-- a line that can be read after what was read
abbrev Follows : Text → List (Item Text) → List Text → List (Item Text) → List Text → Type 0
Follows line items names more after =
    (start before : List Text) → AreScriptLines start before items names
    → AreScriptLines start (before ++ line ∷ []) more after

pub line_read : (names : List Text) (text rest next line : Text) (number : ℕ) (items : List
    (Item Text)) (after : List Text) (more : List (Item Text)) (later : List Text)
    → IsReadSoFar names text rest number items after → lines_of rest ≡ line ∷ lines_of next
    → Follows line items after more later → IsReadSoFar names text next (number + 1) more later
line_read names text rest next line number items after more later so_far first follows = record {
  before = so_far.before ++ line ∷ [];
  lines = so_far.lines ∙ ap (λ (l : List Text). so_far.before ++ l) first
      ∙ sym (append_assoc so_far.before (line ∷ []) (lines_of next));
  counted = omega (arith, so_far.counted, length-append so_far.before (line ∷ []));
  script = follows names so_far.before so_far.script;
}

pub last_read : (names : List Text) (text rest line : Text) (number : ℕ) (items : List
    (Item Text)) (after : List Text) (more : List (Item Text)) (later : List Text)
    → IsReadSoFar names text rest number items after → lines_of rest ≡ line ∷ []
    → Follows line items after more later → IsScript names text more later
last_read names text rest line number items after more later so_far first follows =
    let lines : lines_of text ≡ so_far.before ++ line ∷ [] =
    so_far.lines ∙ ap (λ (l : List Text). so_far.before ++ l) first in
    subst (λ (l : List Text). AreScriptLines names l more later) (sym lines)
    (follows names so_far.before so_far.script)

pub line_fails : (names : List Text) (text rest line : Text) (others : List Text) (number : ℕ)
    (items : List (Item Text)) (after : List Text) (fault : LineFault)
    → IsReadSoFar names text rest number items after → lines_of rest ≡ line ∷ others
    → script_line_in (length items) after line ≡ Err fault → IsFirstFault names text number fault
line_fails names text rest line others number items after fault so_far first fails = record {
  before = so_far.before;
  line = line;
  rest = others;
  lines = so_far.lines ∙ ap (λ (l : List Text). so_far.before ++ l) first;
  counted = so_far.counted;
  fails = record {
    items = items;
    after = after;
    read = so_far.script;
    fails =
        sym (asked_file_line (length items) after line so_far.script.named.1) ∙ ap fault_in fails;
  };
}

-- a script has no fault
pub no_first_fault : (names : List Text) (text : Text) (items : List (Item Text))
    (after : List Text) (number : ℕ) (fault : LineFault) → IsScript names text items after
    → IsFirstFault names text number fault → ⊥
no_first_fault names text items after number fault script first =
    no_fault_in_a_script names first.before first.line first.rest items after fault (subst
    (λ (l : List Text). AreScriptLines names l items after) first.lines script) first.fails

pub no_read_fault : (names : List Text) (text : Text) (items : List (Item Text))
    (after : List Text) (fault : ReadFault)
    → IsScript names text items after → IsReadFault names text fault → fault ≡ faults.Memory
no_read_fault names text items after faults.Memory script is = refl
no_read_fault names text items after (faults.Line number fault) script is =
    absurd (no_first_fault names text items after number fault script is)

module _ (names : List Text) (text : Text) (number : ℕ) (why : Unread) (result : ReadFault)
    (memory : why ≡ unread.Memory → result ≡ faults.Memory)
    (line : (fault : LineFault) → why ≡ unread.Fault fault → result ≡ faults.Line number fault)
    (first : (fault : LineFault) → why ≡ unread.Fault fault
    → IsFirstFault names text number fault) where
  pub read_fault : IsReadFault names text result
  read_fault = by why refl
    where
      by : (w : Unread) → why ≡ w → IsReadFault names text result
      by unread.Memory e = subst (IsReadFault names text) (sym (memory e)) tt
      by (unread.Fault fault) e =
          subst (IsReadFault names text) (sym (line fault e)) (first fault e)

  -- if the text is a script, memory ran out
  pub only_memory : (items : List (Item Text)) (after : List Text)
      → IsScript names text items after → result ≡ faults.Memory
  only_memory items after script = by why refl
    where
      by : (w : Unread) → why ≡ w → result ≡ faults.Memory
      by unread.Memory e = memory e
      by (unread.Fault fault) e =
          absurd (no_first_fault names text items after number fault script (first fault e))

-- the first line exists
pub first_is : {X : Type 0} (o : Option X) (lines : List Text) (line : Text) (f : X
    → List Text) (g : X → Type 0)
    → MatchOption o (lines ≡ line ∷ []) (λ r. (lines ≡ line ∷ f r) × g r)
    → (others : List Text) × (lines ≡ line ∷ others)
first_is None lines line f g h = ([], h)
first_is (Some r) lines line f g h = (f r, h.0)
